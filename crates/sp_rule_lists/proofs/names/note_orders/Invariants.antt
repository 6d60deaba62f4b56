use Rattle.std.proofs.Common.{◌≡◌, drop}
use Rattle.sp_rules.specs.Least.{checked}
use Rattle.sp_rule_lists.specs.Lists.{all_tests}
use Rattle.sp_rule_lists.specs.Names.{order_names}
use Rattle.sp_rule_lists.proofs.names.note_orders.Given as goal

abbrev pub invariant-loop-order : goal.invariant-loop-order
invariant-loop-order l = checked l.least (all_tests order_names (drop l.order-index l.all)) ≡ checked l.fn.least (all_tests order_names l.all)
