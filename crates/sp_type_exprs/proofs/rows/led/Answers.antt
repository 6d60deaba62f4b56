use Rattle.std.specs.Prelude.{IfOk, map}
use Rattle.std.proofs.Common.{◌≡◌, ap, subst, ◌∙◌}
use Rattle.sp_type_operands.specs.Literals.{taken}
use Rattle.sp_type_context.specs.Typing.{leading}
use Rattle.sp_type_exprs.proofs.rows.led.Goals as goal

pub returns-2 : goal.returns-2
returns-2 c =
    subst (λ t. IfOk c.all_taken-all.result (λ r. r.items ≡ map (taken t) c.args.list.items)) (c.in-Ok-or_drop.ensures ∙ ap leading c.deref.ensures.value) c.all_taken-all.ensures
