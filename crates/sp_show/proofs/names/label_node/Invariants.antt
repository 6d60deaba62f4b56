use Rattle.std.proofs.Common.{◌≡◌, drop}
use Rattle.sp_meaning_states.specs.Telling.{label_tree}
use Rattle.sp_show.proofs.names.label_node.Given as goal

abbrev pub invariant-loop-number : goal.invariant-loop-number
invariant-loop-number l = label_tree l.n (drop l.number-index l.labels) ≡ label_tree l.n l.labels
