use Rattle.std.proofs.Common.{◌≡◌, drop}
use Rattle.sp_rules.specs.Least.{checked}
use Rattle.sp_typed.specs.Exprs.{exprs}
use Rattle.sp_rule_bodies.specs.ExprTests.{all_value_tests}
use Rattle.sp_rule_bodies.proofs.rows.note_values.Given as goal

abbrev pub invariant-loop-e : goal.invariant-loop-e
invariant-loop-e l = checked l.least (all_value_tests l.owner (exprs (drop l.e-index l.parts))) ≡ checked l.fn.least (all_value_tests l.owner (exprs l.parts))
