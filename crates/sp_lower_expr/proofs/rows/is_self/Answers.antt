use Rattle.sp_lower_expr.proofs.Many.{not_self}
use Rattle.sp_lower_expr.proofs.rows.is_self.Goals as goal

pub returns-then-parts-ne1 : goal.returns-then-parts-ne1
returns-then-parts-ne1 c = not_self c.args.parts.now c.if-parts-ne1.true
