use Rattle.std.proofs.Common.{◌≡◌, drop}
use Rattle.sp_rules.specs.Least.{checked}
use Rattle.sp_rule_lists.specs.Lists.{all_tests}
use Rattle.sp_rule_lists.specs.Names.{unit_names}
use Rattle.sp_rule_lists.proofs.names.note_units.Given as goal

abbrev pub invariant-loop-unit : goal.invariant-loop-unit
invariant-loop-unit l = checked l.least (all_tests unit_names (drop l.unit-index l.all)) ≡ checked l.fn.least (all_tests unit_names l.all)
