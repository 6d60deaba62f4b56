use Rattle.std.proofs.Common.{◌≡◌, drop}
use Rattle.sp_rules.specs.Least.{checked}
use Rattle.sp_rule_lists.specs.Lists.{all_tests}
use Rattle.sp_rule_lists.specs.Bodies.{order_tests}
use Rattle.sp_rule_lists.proofs.units.note_orders.Given as goal

abbrev pub invariant-loop-order : goal.invariant-loop-order
invariant-loop-order g l = checked l.least (all_tests (order_tests (g.F.Facts.known l.facts)) (drop l.order-index l.all)) ≡ checked l.fn.least (all_tests (order_tests (g.F.Facts.known l.facts)) l.all)
