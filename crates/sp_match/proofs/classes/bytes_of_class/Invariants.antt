use Rattle.std.proofs.Common.{◌≡◌, ℕ, ◌&&◌, length, nat_lt}
use Rattle.sp_regex.specs.Syntax.{belongs}
use Rattle.sp_match.specs.Sets.{class_has}
use Rattle.sp_match.proofs.classes.bytes_of_class.Given as goal

abbrev pub invariant-loop-i : goal.invariant-loop-i
invariant-loop-i l = record {
  so_far : (p : ℕ) → class_has l.set.items p ≡ (nat_lt p l.i && belongs l.negated l.ranges p);
  len : length l.set.items ≡ l.i;
}
