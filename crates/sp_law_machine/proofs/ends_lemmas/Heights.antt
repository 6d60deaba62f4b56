-- The heights that are computed from a program fall, and are at most the number of its instructions.
use Rattle.std.proofs.Common.{◌≡◌, ℕ, zero, suc, ◌≤◌, List, [], ◌∷◌, length, refl, arith}
use Rattle.std.specs.Prelude.{slice_get}
use Rattle.sp_code.specs.declared.instr.Instr.{Instr}
use Rattle.sp_code.specs.Machine.{Plain}
use Rattle.sp_code.specs.Turns.{edges, AreLower, Turns}
use Rattle.sp_law_machine.specs.ends.Ending.{above_all, height_in, height_of}
use Rattle.sp_law_machine.specs.ends.Laws.{HeightsFall}

-- what is above heights none of which is above a number is no more than the next one
above_all_low : (height : ℕ → ℕ) (most : ℕ) → ((to : ℕ) → height to ≤ most) → (tos : List ℕ) → above_all height tos ≤ suc most
above_all_low height most low [] = omega arith
above_all_low height most low (to ∷ tos) = omega (arith, low to, above_all_low height most low tos)

low_in : (most : ℕ) (code : List Instr) (pc : ℕ) → height_in most code pc ≤ most
low_in zero code pc = omega arith
low_in (suc most) code pc = above_all_low (height_in most code) most (low_in most code) (edges (slice_get code pc) pc)

pub heights_low : (p : Plain) (pc : ℕ) → height_of p pc ≤ length p.code
heights_low p pc = low_in (length p.code) p.code pc

are_below : (height : ℕ → ℕ) (h : ℕ) (tos : List ℕ) → above_all height tos ≤ h → AreLower height h tos
are_below height h [] l = tt
are_below height h (to ∷ tos) l = (omega (arith, l), are_below height h tos (omega (arith, l)))

module _ (p : Plain) (turns : Turns p) where
  -- where the heights that are known are no greater than a number, one more step finds no longer ways
  same_above : (most : ℕ) → ((to : ℕ) → turns.height to ≤ most → height_in (suc most) p.code to ≡ height_in most p.code to) → (h : ℕ) → h ≤ suc most → (tos : List ℕ) → AreLower turns.height h tos
      → above_all (height_in (suc most) p.code) tos ≡ above_all (height_in most p.code) tos
  same_above most same h l [] lower = refl
  same_above most same h l (to ∷ tos) lower = omega (arith, same to (omega (arith, l, lower.0)), same_above most same h l tos lower.1)

  no_edges : (h : ℕ) → h ≤ 0 → (tos : List ℕ) → AreLower turns.height h tos → above_all (height_in 0 p.code) tos ≡ 0
  no_edges h l [] lower = refl
  no_edges h l (to ∷ tos) lower = absurd (omega (arith, l, lower.0))

  same_in : (most pc : ℕ) → turns.height pc ≤ most → height_in (suc most) p.code pc ≡ height_in most p.code pc
  same_in zero pc l = no_edges (turns.height pc) l (edges (slice_get p.code pc) pc) (turns.falls pc)
  same_in (suc most) pc l = same_above most (same_in most) (turns.height pc) l (edges (slice_get p.code pc) pc) (turns.falls pc)

pub heights_fall : HeightsFall
heights_fall p turns pc =
    let same = same_in p turns (length p.code) pc (turns.low pc) in
    (are_below (height_of p) (height_of p pc) (edges (slice_get p.code pc) pc) (omega (arith, same)), heights_low p pc)
