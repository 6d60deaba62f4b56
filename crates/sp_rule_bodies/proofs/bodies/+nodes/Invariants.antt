use Rattle.std.proofs.Common.{◌≡◌, ◌+◌, ◌*◌, drop}
use Rattle.sp_typed.specs.Stmts.{stmts, branch_row, case_row}
use Rattle.sp_typed.specs.inside.StmtCodes.{stmt_size, stmts_size, branches_size, cases_size}
use Rattle.sp_typed.specs.StmtNodes.{stmts_nodes, branches_nodes, cases_nodes}
use Rattle.sp_rule_bodies.specs.Sweeps.{swept_nodes}
use Rattle.sp_rule_bodies.proofs.bodies.+nodes.Given as goal

abbrev pub decreases-note_nodes : goal.decreases-note_nodes
decreases-note_nodes g l = 2 * stmt_size l.s.now + 1

abbrev pub decreases-note_all_nodes : goal.decreases-note_all_nodes
decreases-note_all_nodes g l = 2 * stmts_size (stmts l.all.now)

abbrev pub invariant-note_all_nodes-loop-stmt : goal.invariant-note_all_nodes-loop-stmt
invariant-note_all_nodes-loop-stmt g l =
    swept_nodes (g.F.Facts.known l.facts) l.owner l.least (stmts_nodes (stmts (drop l.stmt-index l.all))) ≡ swept_nodes (g.F.Facts.known l.facts) l.owner l.fn.least (stmts_nodes (stmts l.all))

abbrev pub decreases-note_branch_nodes : goal.decreases-note_branch_nodes
decreases-note_branch_nodes g l = 2 * branches_size (branch_row l.branches.now)

abbrev pub invariant-note_branch_nodes-loop-branch : goal.invariant-note_branch_nodes-loop-branch
invariant-note_branch_nodes-loop-branch g l =
    swept_nodes (g.F.Facts.known l.facts) l.owner l.least (branches_nodes (branch_row (drop l.branch-index l.branches))) ≡ swept_nodes (g.F.Facts.known l.facts) l.owner l.fn.least (branches_nodes (branch_row l.branches))

abbrev pub decreases-note_case_nodes : goal.decreases-note_case_nodes
decreases-note_case_nodes g l = 2 * cases_size (case_row l.cases.now)

abbrev pub invariant-note_case_nodes-loop-case : goal.invariant-note_case_nodes-loop-case
invariant-note_case_nodes-loop-case g l =
    swept_nodes (g.F.Facts.known l.facts) l.owner l.least (cases_nodes (case_row (drop l.case-index l.cases))) ≡ swept_nodes (g.F.Facts.known l.facts) l.owner l.fn.least (cases_nodes (case_row l.cases))
