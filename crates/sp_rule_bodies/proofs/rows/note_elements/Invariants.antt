use Rattle.std.proofs.Common.{◌≡◌, drop}
use Rattle.sp_rules.specs.Least.{checked}
use Rattle.sp_typed.specs.Exprs.{exprs}
use Rattle.sp_rule_bodies.specs.ExprTests.{elements_tests}
use Rattle.sp_rule_bodies.proofs.rows.note_elements.Given as goal

abbrev pub invariant-loop-e : goal.invariant-loop-e
invariant-loop-e l = checked l.least (elements_tests l.owner l.keyed l.first (exprs (drop l.e-index l.parts))) ≡ checked l.fn.least (elements_tests l.owner l.keyed l.first (exprs l.parts))
