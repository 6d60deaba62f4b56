-- How many ranges bitfields have, by their numbers.
use Rattle.std.proofs.Common.{◌≡◌, ◌≤◌, ◌<◌, ℕ, zero, suc, List, [], ◌∷◌, length, get_or, refl, ap, arith}
use Rattle.sp_typed_units.specs.declared.declarations.Bitfield.{Bitfield}
use Rattle.sp_meaning_states.specs.Types.{ranges_of}
use Rattle.sp_meaning.specs.Globals.{range_counts}

pub some_ranges : (bs : List Bitfield) (k : ℕ) (b : Bitfield) → k < length bs → b ≡ get_or bs k b → length b.ranges ≡ ranges_of (range_counts bs) k
some_ranges [] k b lt is = absurd (let z : ⊥ = omega (arith, lt) in z)
some_ranges (x ∷ bs) zero b lt is = ap (λ (y : Bitfield). length y.ranges) is
some_ranges (x ∷ bs) (suc k) b lt is = some_ranges bs k b (omega (arith, lt)) is

pub no_ranges : (bs : List Bitfield) (k : ℕ) → length bs ≤ k → ranges_of (range_counts bs) k ≡ 0
no_ranges [] k h = refl
no_ranges (x ∷ bs) zero h = absurd (let z : ⊥ = omega (arith, h) in z)
no_ranges (x ∷ bs) (suc k) h = no_ranges bs k (omega (arith, h))
