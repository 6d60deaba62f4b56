use Rattle.std.proofs.Common.{◌≡◌, drop}
use Rattle.sp_rules.specs.Least.{checked}
use Rattle.sp_typed.specs.Stmts.{case_row}
use Rattle.sp_rule_bodies.specs.StmtTests.{cases_tests}
use Rattle.sp_rule_bodies.proofs.stmts.note_cases.Given as goal

abbrev pub invariant-loop-case : goal.invariant-loop-case
invariant-loop-case l = checked l.least (cases_tests l.owner l.subject (case_row (drop l.case-index l.cases))) ≡ checked l.fn.least (cases_tests l.owner l.subject (case_row l.cases))
