use Rattle.std.proofs.Common.{◌≡◌, ◌++◌, drop}
use Rattle.sp_code.specs.Programs.{names_of}
use Rattle.sp_meaning_states.specs.Telling.{value_trees}
use Rattle.sp_show.proofs.told.value_trees.Given as goal

abbrev pub invariant-loop-v : goal.invariant-loop-v
invariant-loop-v l = l.trees.items ++ value_trees (names_of l.p) l.instances (drop l.v-index l.values) ≡ value_trees (names_of l.p) l.instances l.values
