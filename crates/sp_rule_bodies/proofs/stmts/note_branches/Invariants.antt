use Rattle.std.proofs.Common.{◌≡◌, drop}
use Rattle.sp_rules.specs.Least.{checked}
use Rattle.sp_typed.specs.Stmts.{branch_row}
use Rattle.sp_rule_bodies.specs.StmtTests.{branches_tests}
use Rattle.sp_rule_bodies.proofs.stmts.note_branches.Given as goal

abbrev pub invariant-loop-branch : goal.invariant-loop-branch
invariant-loop-branch l = checked l.least (branches_tests l.owner (branch_row (drop l.branch-index l.branches))) ≡ checked l.fn.least (branches_tests l.owner (branch_row l.branches))
