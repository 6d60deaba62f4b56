use Rattle.std.proofs.Common.{◌+◌, ◌*◌}
use Rattle.sp_ast.specs.Trees.{tree_size}
use Rattle.sp_print.proofs.parentheses.+divides.Given as goal

abbrev pub decreases-last_divides : goal.decreases-last_divides
decreases-last_divides l = 2 * tree_size l.expr.now

abbrev pub decreases-closes : goal.decreases-closes
decreases-closes l = 2 * tree_size l.operand.now + 1
