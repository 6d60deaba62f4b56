use Rattle.std.proofs.Common.{◌≡◌, ℕ, false, length}
use Rattle.sp_match.specs.Sets.{class_has}
use Rattle.sp_match.proofs.classes.one_byte.Given as goal

abbrev pub invariant-loop : goal.invariant-loop
invariant-loop l = record {
  none : (p : ℕ) → class_has l.set.items p ≡ false;
  len : length l.set.items ≡ l.counter;
}
