use Rattle.std.proofs.Common.{◌≡◌, drop}
use Rattle.sp_rules.specs.Least.{checked}
use Rattle.sp_rule_lists.specs.Lists.{all_tests}
use Rattle.sp_rule_lists.specs.Names.{expr_names}
use Rattle.sp_rule_lists.proofs.part_names.note_values_names.Given as goal

abbrev pub invariant-loop-e : goal.invariant-loop-e
invariant-loop-e l = checked l.least (all_tests (expr_names l.owner) (drop l.e-index l.values)) ≡ checked l.fn.least (all_tests (expr_names l.owner) l.values)
