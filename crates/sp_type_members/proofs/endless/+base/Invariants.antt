use Rattle.sp_ast.specs.Trees.{tree_size}
use Rattle.sp_type_members.proofs.endless.+base.Given as goal

abbrev pub decreases-base_place : goal.decreases-base_place
decreases-base_place g l = tree_size l.base.now
