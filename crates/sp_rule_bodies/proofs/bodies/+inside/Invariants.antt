use Rattle.std.proofs.Common.{◌≡◌, ◌+◌, ◌*◌, drop}
use Rattle.sp_typed.specs.Stmts.{stmts, branch_row, case_row}
use Rattle.sp_typed.specs.inside.StmtCodes.{stmt_size, stmts_size, branches_size, cases_size}
use Rattle.sp_typed.specs.StmtNodes.{stmts_in_all, stmts_in_branches, stmts_in_cases}
use Rattle.sp_rule_bodies.specs.Sweeps.{swept_stmts}
use Rattle.sp_rule_bodies.proofs.bodies.+inside.Given as goal

abbrev pub decreases-note_inside : goal.decreases-note_inside
decreases-note_inside g l = 2 * stmt_size l.s.now + 1

abbrev pub decreases-note_all : goal.decreases-note_all
decreases-note_all g l = 2 * stmts_size (stmts l.all.now)

abbrev pub invariant-note_all-loop-stmt : goal.invariant-note_all-loop-stmt
invariant-note_all-loop-stmt g l =
    swept_stmts (g.F.Facts.known l.facts) l.wanted l.owner l.least (stmts_in_all (stmts (drop l.stmt-index l.all))) ≡ swept_stmts (g.F.Facts.known l.facts) l.wanted l.owner l.fn.least (stmts_in_all (stmts l.all))

abbrev pub decreases-note_in_branches : goal.decreases-note_in_branches
decreases-note_in_branches g l = 2 * branches_size (branch_row l.branches.now)

abbrev pub invariant-note_in_branches-loop-branch : goal.invariant-note_in_branches-loop-branch
invariant-note_in_branches-loop-branch g l =
    swept_stmts (g.F.Facts.known l.facts) l.wanted l.owner l.least (stmts_in_branches (branch_row (drop l.branch-index l.branches))) ≡ swept_stmts (g.F.Facts.known l.facts) l.wanted l.owner l.fn.least (stmts_in_branches (branch_row l.branches))

abbrev pub decreases-note_in_cases : goal.decreases-note_in_cases
decreases-note_in_cases g l = 2 * cases_size (case_row l.cases.now)

abbrev pub invariant-note_in_cases-loop-case : goal.invariant-note_in_cases-loop-case
invariant-note_in_cases-loop-case g l =
    swept_stmts (g.F.Facts.known l.facts) l.wanted l.owner l.least (stmts_in_cases (case_row (drop l.case-index l.cases))) ≡ swept_stmts (g.F.Facts.known l.facts) l.wanted l.owner l.fn.least (stmts_in_cases (case_row l.cases))
