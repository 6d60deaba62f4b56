use Rattle.std.proofs.Common.{◌≡◌, drop}
use Rattle.sp_rules.specs.Least.{checked}
use Rattle.sp_rule_lists.specs.Lists.{all_tests}
use Rattle.sp_rule_lists.specs.Names.{constant_names}
use Rattle.sp_rule_lists.proofs.names.note_constants.Given as goal

abbrev pub invariant-loop-constant : goal.invariant-loop-constant
invariant-loop-constant l = checked l.least (all_tests constant_names (drop l.constant-index l.all)) ≡ checked l.fn.least (all_tests constant_names l.all)
