use Rattle.sp_ast.specs.Trees.{tree_size}
use Rattle.sp_type_members.proofs.fields.+base.Given as goal

abbrev pub decreases-base_open : goal.decreases-base_open
decreases-base_open g l = tree_size l.base.now
