use Rattle.std.proofs.Common.{◌≤◌, ◌++◌, length, drop}
use Rattle.sp_code.specs.Programs.{stack_at}
use Rattle.sp_emit.specs.Stacks.{Extends, IsRowOf}
use Rattle.sp_emit.proofs.stacks.StackTable.put_all.Given as goal

abbrev pub invariant-loop-left : goal.invariant-loop-left
invariant-loop-left l = record {
  within : l.left ≤ length l.numbers;
  row : IsRowOf l.self (drop l.left l.numbers ++ stack_at l.fn.self l.below) l.row;
  grows : Extends l.fn.self l.self;
}

abbrev pub decreases-loop-left : goal.decreases-loop-left
decreases-loop-left l = l.left
