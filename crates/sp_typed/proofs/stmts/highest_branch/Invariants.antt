use Rattle.std.proofs.Common.{◌≡◌, max, drop}
use Rattle.sp_typed.specs.Stmts.{branch_row}
use Rattle.sp_typed.specs.Heights.{branches_height}
use Rattle.sp_typed.proofs.stmts.highest_branch.Given as goal

abbrev pub invariant-loop-branch : goal.invariant-loop-branch
invariant-loop-branch l = max l.most (branches_height (branch_row (drop l.branch-index l.branches))) ≡ branches_height (branch_row l.branches)
