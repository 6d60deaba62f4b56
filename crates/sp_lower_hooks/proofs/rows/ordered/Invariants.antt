use Rattle.std.proofs.Common.{◌≡◌, map}
use Rattle.sp_lower_hooks.specs.inside.Rows.{row_numbers, lists}
use Rattle.sp_lower_hooks.proofs.rows.ordered.Given as goal

abbrev pub invariant-loop-keys : goal.invariant-loop-keys
invariant-loop-keys l = lists l.rows.items ≡ map row_numbers l.yielded
