use Rattle.std.proofs.Common.{◌≡◌, drop}
use Rattle.sp_rules.specs.Least.{checked}
use Rattle.sp_typed.specs.Exprs.{exprs}
use Rattle.sp_rule_bodies.specs.ExprTests.{argument_tests}
use Rattle.sp_rule_bodies.proofs.calls.note_arguments.Given as goal

abbrev pub invariant-loop-e : goal.invariant-loop-e
invariant-loop-e l = checked l.least (argument_tests l.owner l.starts (exprs (drop l.e-index l.arguments))) ≡ checked l.fn.least (argument_tests l.owner l.starts (exprs l.arguments))
