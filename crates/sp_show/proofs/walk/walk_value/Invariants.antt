use Rattle.std.proofs.Common.{◌≡◌, [], ◌∷◌, reverse}
use Rattle.sp_code.specs.Programs.{names_of}
use Rattle.sp_meaning_states.specs.Telling.{value_tree}
use Rattle.sp_show.specs.Inside.{AreOpen}
use Rattle.sp_show.specs.Plans.{plans, run, work}
use Rattle.sp_show.proofs.walk.walk_value.Given as goal

abbrev pub decreases-loop-task : goal.decreases-loop-task
decreases-loop-task l = work (names_of l.p) l.instances (plans l.tasks.items) (reverse l.outer.items)

abbrev pub invariant-loop-task : goal.invariant-loop-task
invariant-loop-task l =
    (run (names_of l.p) l.instances (plans l.tasks.items) (reverse l.outer.items) l.done.items ≡ value_tree (names_of l.p) l.instances l.v ∷ [])
    × AreOpen l.instances (reverse l.outer.items)
