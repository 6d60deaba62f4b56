use Rattle.std.proofs.Common.{◌≡◌, drop}
use Rattle.sp_rules.specs.Least.{checked}
use Rattle.sp_rule_lists.specs.Lists.{all_tests}
use Rattle.sp_rule_lists.specs.Names.{enum_names}
use Rattle.sp_rule_lists.proofs.names.note_enums.Given as goal

abbrev pub invariant-loop-one : goal.invariant-loop-one
invariant-loop-one l = checked l.least (all_tests enum_names (drop l.one-index l.all)) ≡ checked l.fn.least (all_tests enum_names l.all)
