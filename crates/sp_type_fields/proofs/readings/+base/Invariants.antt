use Rattle.sp_ast.specs.Trees.{tree_size}
use Rattle.sp_type_fields.proofs.readings.+base.Given as goal

abbrev pub decreases-base_read : goal.decreases-base_read
decreases-base_read g l = tree_size l.base.now
