use Rattle.std.proofs.Common.{◌≡◌, drop}
use Rattle.sp_rules.specs.Least.{checked}
use Rattle.sp_rule_lists.specs.Bodies.{inside_tests}
use Rattle.sp_rule_lists.specs.Lists.{all_tests}
use Rattle.sp_rule_lists.proofs.parts.note_inside_all.Given as goal

abbrev pub invariant-loop-e : goal.invariant-loop-e
invariant-loop-e g l = checked l.least (all_tests (inside_tests (g.F.Facts.known l.facts) l.owner) (drop l.e-index l.values)) ≡ checked l.fn.least (all_tests (inside_tests (g.F.Facts.known l.facts) l.owner) l.values)
