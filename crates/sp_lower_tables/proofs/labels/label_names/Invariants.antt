use Rattle.std.proofs.Common.{◌≡◌, ◌++◌, drop}
use Rattle.sp_meaning.specs.Names.{label_names}
use Rattle.sp_lower_tables.proofs.labels.label_names.Given as goal

abbrev pub invariant-loop-label : goal.invariant-loop-label
invariant-loop-label l = l.rows.items ++ label_names l.owner (drop l.label-index l.labels) ≡ label_names l.owner l.labels
