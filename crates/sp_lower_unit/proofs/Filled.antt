-- The first values of slots, one after another.
use Rattle.std.proofs.Common.{◌≡◌, ◌<◌, ◌+◌, ℕ, zero, suc, List, [], ◌∷◌, ◌++◌, take, get_or, length, sym, ap, ◌∙◌, arith}
use Rattle.std.proofs.Math.Seq.{take-length}
use Rattle.sp_value.specs.Val.{Val}
use Rattle.sp_types.specs.Types.{Ty}
use Rattle.sp_meaning_states.specs.Types.{zero_value}
use Rattle.sp_meaning.specs.Calls.{zero_slots}

slot_more : (ranges : List ℕ) (ts : List Ty) (i : ℕ) (t : Ty) → i < length ts → t ≡ get_or ts i t → zero_slots ranges (take (suc i) ts) ≡ zero_slots ranges (take i ts) ++ zero_value ranges t ∷ []
slot_more ranges [] i t lt is = absurd (let z : i < 0 = lt in omega (arith, z))
slot_more ranges (x ∷ ts) zero t lt is = ap (λ (y : Ty). zero_value ranges y ∷ []) (sym is)
slot_more ranges (x ∷ ts) (suc i) t lt is = ap (λ (l : List Val). zero_value ranges x ∷ l) (slot_more ranges ts i t (let z : suc i < suc (length ts) = lt in omega (arith, z)) is)

-- the next of the slots
pub next_slot : (ranges : List ℕ) (ts : List Ty) (i : ℕ) (t : Ty) (vs ws : List Val) (v : Val) → i < length ts → t ≡ get_or ts i t → vs ≡ zero_slots ranges (take i ts) → v ≡ zero_value ranges t → ws ≡ vs ++ v ∷ []
    → ws ≡ zero_slots ranges (take (i + 1) ts)
next_slot ranges ts i t vs ws v lt is so_far value pushed =
    let one : suc i ≡ i + 1 = omega arith in
    pushed
    ∙ ap (λ (w : Val). vs ++ w ∷ []) value
    ∙ ap (λ (l : List Val). l ++ zero_value ranges t ∷ []) so_far
    ∙ sym (slot_more ranges ts i t lt is)
    ∙ ap (λ (n : ℕ). zero_slots ranges (take n ts)) one

-- all of them
pub all_slots : (ranges : List ℕ) (ts : List Ty) (i : ℕ) (vs : List Val) → i ≡ length ts → vs ≡ zero_slots ranges (take i ts) → vs ≡ zero_slots ranges ts
all_slots ranges ts i vs all is = is ∙ ap (λ (n : ℕ). zero_slots ranges (take n ts)) all ∙ ap (λ (l : List Ty). zero_slots ranges l) (take-length ts)
