use Rattle.std.proofs.Common.{◌≡◌, ◌++◌, drop}
use Rattle.sp_code.specs.Programs.{label_names}
use Rattle.sp_meaning.specs.Names.{names_of_labels}
use Rattle.sp_lower_tables.proofs.labels.labels_of.Given as goal

abbrev pub invariant-loop-one : goal.invariant-loop-one
invariant-loop-one l = label_names l.rows.items ++ names_of_labels (drop l.one-index l.enums) ≡ names_of_labels l.enums
