use Rattle.std.proofs.Common.{◌≡◌, drop}
use Rattle.sp_rules.specs.Least.{checked}
use Rattle.sp_rule_bodies.specs.Values.{value_tests}
use Rattle.sp_rule_lists.specs.Lists.{all_tests}
use Rattle.sp_rule_lists.proofs.parts.note_all_values.Given as goal

abbrev pub invariant-loop-e : goal.invariant-loop-e
invariant-loop-e l = checked l.least (all_tests (value_tests l.owner) (drop l.e-index l.values)) ≡ checked l.fn.least (all_tests (value_tests l.owner) l.values)
