-- Keys past and within the items of a container, and vectors that have items.
use Rattle.std.proofs.Common.{◌≡◌, ℕ, ◌-◌, Bool, List, [], ◌∷◌, length, Some, Ok, Err, refl, sym, ap, ◌∙◌, subst, arith}
use Rattle.std.specs.Prelude.{IsTrue, get_or, if◌then◌else◌}
use Rattle.std.proofs.Math.Dec.{eqb}
use Rattle.std.proofs.lemmas.Bool.{lt-ltb, le-ltb, eqb-true}
use Rattle.std.proofs.lemmas.Option.{slice_get-get_or}
use Rattle.sp_base.specs.declared.kinds.PKind.{PKind}
use Rattle.sp_base.specs.declared.kinds.PKind.TheVariants.{Index}
use Rattle.sp_value.specs.Val.{Val, uint, vector, vals_of, list_of}
use Rattle.sp_value.specs.Changes.{items_of, with_item}
use Rattle.sp_methods.specs.Taken.{last_item, parted, popped, without_last}
use Rattle.sp_meaning_states.specs.Values.{with_at}
use Rattle.sp_machine.specs.declared.rows.Spot.TheVariants.{Within, Past}
use Rattle.sp_machine.specs.Rows.{IsSpot}

-- what a container becomes where a key is past its items, and where it is within them
pub past_error : (c k x : Val) → IsSpot c k Past → with_at c k x ≡ Err Index
past_error (vector vs) (uint w n) x h = ap (λ b. if b then Ok (with_item (vector vs) n x) else Err Index) (le-ltb n (length (list_of vs)) h)
past_error _ _ x h = absurd h

pub with_item_at : (c k x : Val) (i : ℕ) → IsSpot c k (Within i) → with_at c k x ≡ Ok (with_item c i x)
with_item_at (vector vs) (uint w n) x i h =
    ap (λ b. if b then Ok (with_item (vector vs) n x) else Err Index) (lt-ltb n (length (list_of vs)) h.1) ∙ ap (λ m. Ok (with_item (vector vs) m x)) (sym h.0)
with_item_at _ _ x i h = absurd h

last_there : (xs : List Val) → (xs ≡ [] → ⊥) → (x : Val) × (last_item xs ≡ Some x)
last_there [] h = absurd (h refl)
last_there (x ∷ xs) h = (get_or (x ∷ xs) (length (x ∷ xs) - 1) x, slice_get-get_or (x ∷ xs) (length (x ∷ xs) - 1) x (omega arith))

-- a vector that has items has a last one
pub never_empty : (v : Val) (e : PKind) → (items_of v ≡ [] → ⊥) → popped v ≡ Err e → ⊥
never_empty v e h q =
    let last = last_there (items_of v) h in
    let f : Ok (without_last v, last.0) ≡ Err e = sym (ap (parted v) last.1) ∙ q in
    cc

by_items : (items : List Val) → (IsTrue (eqb (length items) 0) → list_of (vals_of items) ≡ []) × (list_of (vals_of items) ≡ [] → IsTrue (eqb (length items) 0))
by_items [] = (λ h. refl, λ h. refl)
by_items (x ∷ xs) = (λ h. absurd (let n = eqb-true (length (x ∷ xs)) 0 h in omega (arith, n)), λ h. absurd (let q : x ∷ list_of (vals_of xs) ≡ [] = h in cc))

-- whether a vector has no items
pub none_there : (v : Val) (items : List Val) (b : Bool) → vector (vals_of items) ≡ v → b ≡ eqb (length items) 0 → (IsTrue b → items_of v ≡ []) × (items_of v ≡ [] → IsTrue b)
none_there v items b e h =
    subst (λ v. (IsTrue b → items_of v ≡ []) × (items_of v ≡ [] → IsTrue b)) e
    (subst (λ b. (IsTrue b → list_of (vals_of items) ≡ []) × (list_of (vals_of items) ≡ [] → IsTrue b)) (sym h) (by_items items))
