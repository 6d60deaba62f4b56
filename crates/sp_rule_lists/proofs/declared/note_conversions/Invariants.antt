use Rattle.std.proofs.Common.{◌≡◌, drop}
use Rattle.sp_rules.specs.Least.{checked}
use Rattle.sp_rule_lists.specs.Lists.{all_tests}
use Rattle.sp_rule_lists.specs.Bodies.{conversion_tests}
use Rattle.sp_rule_lists.proofs.declared.note_conversions.Given as goal

abbrev pub invariant-loop-endless : goal.invariant-loop-endless
invariant-loop-endless l = checked l.least (all_tests conversion_tests (drop l.endless-index l.all)) ≡ checked l.fn.least (all_tests conversion_tests l.all)
