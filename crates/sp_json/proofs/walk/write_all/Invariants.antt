use Rattle.std.proofs.Common.{◌≡◌, ◌++◌}
use Rattle.sp_json.specs.inside.Writing.{pending, work}
use Rattle.sp_json.proofs.walk.write_all.Given as goal

abbrev pub decreases-loop-task : goal.decreases-loop-task
decreases-loop-task l = work l.tasks.items

abbrev pub invariant-loop-task : goal.invariant-loop-task
invariant-loop-task l = record {
  tokens : l.out.tokens ++ pending l.tasks.items ≡ l.initial.out.tokens ++ pending l.fn.tasks.items;
  before : l.out.before ≡ l.initial.out.before;
}
