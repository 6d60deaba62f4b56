use Rattle.std.proofs.Common.{◌≡◌, max, drop}
use Rattle.sp_typed.specs.Stmts.{case_row}
use Rattle.sp_typed.specs.Heights.{cases_height}
use Rattle.sp_typed.proofs.stmts.highest_case.Given as goal

abbrev pub invariant-loop-case : goal.invariant-loop-case
invariant-loop-case l = max l.most (cases_height (case_row (drop l.case-index l.cases))) ≡ cases_height (case_row l.cases)
