use Rattle.std.proofs.Common.{◌≡◌, length}
use Rattle.std.specs.List.{list_all}
use Rattle.sp_ast.specs.Groups.{is_of}
use Rattle.sp_ast.proofs.groups.Group.has_all.Given as goal

abbrev pub invariant-loop-tree : goal.invariant-loop-tree
invariant-loop-tree l = list_all (is_of l.self) l.left ≡ list_all (is_of l.self) l.row

abbrev pub decreases-loop-tree : goal.decreases-loop-tree
decreases-loop-tree l = length l.left
