use Rattle.std.proofs.Common.{◌≡◌, ℕ, ◌<◌, false}
use Rattle.sp_match.specs.Sets.{class_has}
use Rattle.sp_match.proofs.classes.has_byte.Given as goal

abbrev pub invariant-loop-inside : goal.invariant-loop-inside
invariant-loop-inside l = (p : ℕ) → p < l.inside-index → class_has l.bytes p ≡ false
