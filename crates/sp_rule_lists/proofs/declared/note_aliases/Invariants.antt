use Rattle.std.proofs.Common.{◌≡◌, drop}
use Rattle.sp_rules.specs.Least.{checked}
use Rattle.sp_rule_lists.specs.Lists.{all_tests}
use Rattle.sp_rule_lists.specs.Bodies.{alias_tests}
use Rattle.sp_rule_lists.proofs.declared.note_aliases.Given as goal

abbrev pub invariant-loop-alias : goal.invariant-loop-alias
invariant-loop-alias l = checked l.least (all_tests alias_tests (drop l.alias-index l.all)) ≡ checked l.fn.least (all_tests alias_tests l.all)
