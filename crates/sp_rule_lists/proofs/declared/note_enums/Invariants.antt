use Rattle.std.proofs.Common.{◌≡◌, drop}
use Rattle.sp_rules.specs.Least.{checked}
use Rattle.sp_rule_lists.specs.Lists.{all_tests}
use Rattle.sp_rule_lists.specs.Bodies.{enum_tests}
use Rattle.sp_rule_lists.proofs.declared.note_enums.Given as goal

abbrev pub invariant-loop-one : goal.invariant-loop-one
invariant-loop-one g l = checked l.least (all_tests (enum_tests (g.F.Facts.known l.facts)) (drop l.one-index l.all)) ≡ checked l.fn.least (all_tests (enum_tests (g.F.Facts.known l.facts)) l.all)
