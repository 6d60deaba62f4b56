use Rattle.std.proofs.Common.{◌≡◌, take}
use Rattle.sp_ast.specs.Heights.{list_height}
use Rattle.sp_ast.specs.Places.{trees_at}
use Rattle.sp_ast.proofs.arena.Arena.highest.Given as goal

abbrev pub invariant-loop-at : goal.invariant-loop-at
invariant-loop-at l = l.most ≡ list_height (trees_at l.self (take l.at-index l.parts))
