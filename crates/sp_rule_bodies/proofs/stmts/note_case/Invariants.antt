use Rattle.std.proofs.Common.{◌≡◌, drop}
use Rattle.sp_rules.specs.Least.{checked}
use Rattle.sp_typed.specs.Exprs.{exprs}
use Rattle.sp_rule_bodies.specs.StmtTests.{case_tests}
use Rattle.sp_rule_bodies.proofs.stmts.note_case.Given as goal

abbrev pub invariant-loop-e : goal.invariant-loop-e
invariant-loop-e l = checked l.least (case_tests l.owner l.subject (exprs (drop l.e-index l.values))) ≡ checked l.fn.least (case_tests l.owner l.subject (exprs l.values))
