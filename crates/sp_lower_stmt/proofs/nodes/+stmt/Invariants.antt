use Rattle.std.proofs.Common.{◌+◌, ◌*◌, drop}
use Rattle.sp_typed.specs.Stmts.{stmts, branch_row, case_row}
use Rattle.sp_typed.specs.inside.StmtCodes.{stmt_size, stmts_size, branches_size, cases_size}
use Rattle.sp_emit.specs.Emitted.{Emitted}
use Rattle.sp_lower_stmt.specs.Literals.{StmtsLiteralsFit, BranchesLiteralsFit, CasesLiteralsFit}
use Rattle.sp_lower_stmt.specs.Added.{AddsStmts, AddsBranches, AddsCases}
use Rattle.sp_lower_stmt.proofs.nodes.+stmt.Given as goal

abbrev pub decreases-stmt : goal.decreases-stmt
decreases-stmt l = 3 * stmt_size l.s.now + 2

abbrev pub decreases-block : goal.decreases-block
decreases-block l = 3 * stmts_size (stmts l.row.now)

abbrev pub invariant-block-loop-part : goal.invariant-block-loop-part
invariant-block-loop-part l = record {
  literals : StmtsLiteralsFit (stmts (drop l.part-index l.row));
  code : (x : Emitted) → AddsStmts l.around l.out x l.ways (stmts (drop l.part-index l.row)) → AddsStmts l.around l.fn.out x l.ways (stmts l.row);
}

abbrev pub decreases-while_loop : goal.decreases-while_loop
decreases-while_loop l = 3 * stmt_size l.body.now + 3

abbrev pub decreases-for_loop : goal.decreases-for_loop
decreases-for_loop l = 3 * stmt_size l.body.now + 3

abbrev pub decreases-arm : goal.decreases-arm
decreases-arm l = 3 * stmt_size l.body.now + 3

abbrev pub decreases-branches : goal.decreases-branches
decreases-branches l = 3 * branches_size (branch_row l.row.now) + 1

abbrev pub invariant-branches-loop-part : goal.invariant-branches-loop-part
invariant-branches-loop-part l = record {
  literals : BranchesLiteralsFit (branch_row (drop l.part-index l.row));
  code : (x : Emitted) → AddsBranches l.around l.out x l.ways l.behind (branch_row (drop l.part-index l.row)) → AddsBranches l.around l.fn.out x l.ways l.behind (branch_row l.row);
}

abbrev pub decreases-choice : goal.decreases-choice
decreases-choice l = 3 * (branches_size (branch_row l.row.now) + stmt_size l.otherwise.now) + 3

abbrev pub decreases-case : goal.decreases-case
decreases-case l = 3 * stmt_size l.body.now + 3

abbrev pub decreases-cases : goal.decreases-cases
decreases-cases l = 3 * cases_size (case_row l.row.now) + 1

abbrev pub invariant-cases-loop-part : goal.invariant-cases-loop-part
invariant-cases-loop-part l = record {
  literals : CasesLiteralsFit (case_row (drop l.part-index l.row));
  code : (x : Emitted) → AddsCases l.around l.out x l.ways l.end l.local (case_row (drop l.part-index l.row)) → AddsCases l.around l.fn.out x l.ways l.end l.local (case_row l.row);
}

abbrev pub decreases-chosen : goal.decreases-chosen
decreases-chosen l = 3 * (cases_size (case_row l.row.now) + stmt_size l.otherwise.now) + 3

abbrev pub decreases-switch : goal.decreases-switch
decreases-switch l = 3 * (cases_size (case_row l.row.now) + stmt_size l.otherwise.now) + 4
