use Rattle.std.proofs.Common.{◌≡◌, max, drop}
use Rattle.sp_typed.specs.Stmts.{stmts}
use Rattle.sp_typed.specs.Heights.{stmts_height}
use Rattle.sp_typed.proofs.stmts.highest_stmt.Given as goal

abbrev pub invariant-loop-stmt : goal.invariant-loop-stmt
invariant-loop-stmt l = max l.most (stmts_height (stmts (drop l.stmt-index l.all))) ≡ stmts_height (stmts l.all)
