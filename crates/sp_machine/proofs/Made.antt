-- A map that is made of keys and values.
use Rattle.std.proofs.Common.{◌≡◌, List, ◌∷◌, sym, ap, ◌∙◌, subst}
use Rattle.sp_value.specs.Val.{Val, map}
use Rattle.sp_value.specs.Changes.{IsMap, with_entry}
use Rattle.sp_meaning_states.specs.Values.{with_entries}

stays_map : (m k v : Val) → IsMap m → IsMap (with_entry m k v)
stays_map (map es) k v h = tt
stays_map m k v h = absurd h

-- one more entry
pub next_entry : (m n k v r : Val) (rest behind left : List Val) → n ≡ with_entry m k v → rest ≡ k ∷ behind → behind ≡ v ∷ left
    → IsMap m × (with_entries m rest ≡ r) → IsMap n × (with_entries n left ≡ r)
next_entry m n k v r rest behind left e f g h =
    (subst IsMap (sym e) (stays_map m k v h.0), ap (λ m. with_entries m left) e ∙ sym (ap (with_entries m) (f ∙ ap (λ l. k ∷ l) g)) ∙ h.1)
