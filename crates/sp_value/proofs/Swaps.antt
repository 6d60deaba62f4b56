-- A map's entries where the value at a key's place is another.
use Rattle.std.proofs.Common.{◌≡◌, ℕ, true, List, [], ◌∷◌, Some, Result, Ok, Err, OnOk, get_or, ap, ◌∙◌, arith}
use Rattle.std.specs.Prelude.{slice_get, slice_set, unwrap_or, is_some}
use Rattle.std.specs.Option.{option_map, option_map_or}
use Rattle.std.proofs.lemmas.Option.{slice_get-get_or}
use Rattle.std.proofs.lemmas.Cmp.{tied_itself}
use Rattle.sp_value.specs.Val.{Val}
use Rattle.sp_value.specs.Ascending.{entry_key, IsAscending, found, with_key}
use Rattle.sp_value.specs.inside.Places.{IsKeyAt}
use Rattle.sp_value.specs.Changes.{with_value_in}
use Rattle.sp_value.proofs.Search.{found_at, put_at}
use Rattle.sp_value.proofs.Total.{val_cmp_total}

-- what is found is the entry there
there : (e : Val × Val) (es : List (Val × Val)) (k : Val) (i : ℕ) → IsAscending entry_key (e ∷ es) → IsKeyAt entry_key (e ∷ es) k i → Some (get_or (e ∷ es) i e) ≡ found entry_key k (e ∷ es)
there e es k i h at = found_at entry_key (e ∷ es) k i e h at.within (at.same e)

pub swapped_at : (es after : List (Val × Val)) (k v : Val) (i : ℕ) → IsAscending entry_key es → IsKeyAt entry_key es k i → ((e : Val × Val) → slice_get es i ≡ Some e → after ≡ slice_set es i (e.0, v)) → after ≡ with_value_in es k v
swapped_at [] after k v i h at is = absurd (omega (arith, at.within))
swapped_at (e ∷ es) after k v i h at is =
    let x : Val × Val = get_or (e ∷ es) i e in
    is x (slice_get-get_or (e ∷ es) i e at.within)
    ∙ put_at entry_key (e ∷ es) (x.0, v) i e h at.within (tied_itself val_cmp_total x.0)
    ∙ ap (λ o. option_map_or (λ (e' : Val × Val). with_key entry_key (e'.0, v) (e ∷ es)) o (e ∷ es)) (there e es k i h at)

pub taken_at : (es : List (Val × Val)) (k x d : Val) (i : ℕ) → IsAscending entry_key es → IsKeyAt entry_key es k i → ((e : Val × Val) → slice_get es i ≡ Some e → x ≡ e.1) → x ≡ unwrap_or (option_map (λ (e : Val × Val). e.1) (found entry_key k es)) d
taken_at [] k x d i h at is = absurd (omega (arith, at.within))
taken_at (e ∷ es) k x d i h at is =
    is (get_or (e ∷ es) i e) (slice_get-get_or (e ∷ es) i e at.within)
    ∙ ap (λ o. unwrap_or (option_map (λ (e' : Val × Val). e'.1) o) d) (there e es k i h at)

pub on_ok : {A E P Q : Type 0} (r : Result A E) → (P → Q) → OnOk r P → OnOk r Q
on_ok (Ok a) leads h = leads h
on_ok (Err e) leads h = tt

pub is_there : (es : List (Val × Val)) (k : Val) (i : ℕ) → IsAscending entry_key es → IsKeyAt entry_key es k i → true ≡ is_some (found entry_key k es)
is_there [] k i h at = absurd (omega (arith, at.within))
is_there (e ∷ es) k i h at = ap is_some (there e es k i h at)
