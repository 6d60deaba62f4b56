use Rattle.std.proofs.Common.{◌≡◌, drop}
use Rattle.sp_rules.specs.Least.{checked}
use Rattle.sp_rule_lists.specs.Lists.{all_tests}
use Rattle.sp_rule_lists.specs.Bodies.{const_tests}
use Rattle.sp_rule_lists.proofs.declared.note_constants.Given as goal

abbrev pub invariant-loop-constant : goal.invariant-loop-constant
invariant-loop-constant g l = checked l.least (all_tests (const_tests (g.F.Facts.known l.facts)) (drop l.constant-index l.all)) ≡ checked l.fn.least (all_tests (const_tests (g.F.Facts.known l.facts)) l.all)
