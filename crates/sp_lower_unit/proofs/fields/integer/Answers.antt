use Rattle.std.proofs.Common.{sym, ◌∙◌}
use Rattle.std.proofs.lemmas.Result.{on_ok_weaker}
use Rattle.sp_code_programs.specs.units.Units.{unit_shape}
use Rattle.sp_emit.proofs.Adding.{adds_as}
use Rattle.sp_lower_unit.proofs.Stored.{without_hooks, with_hooks}
use Rattle.sp_lower_unit.proofs.fields.integer.Goals as goal

pub returns-then-is_empty : goal.returns-then-is_empty
returns-then-is_empty c = λ r begin.
    let s = unit_shape c.args.unit r in
    on_ok_weaker c.plain.result (λ h. adds_as _ h (without_hooks c.args.list.now c.args.unit s c.args.form c.args.member c.args.bodies.now (sym c.is_empty.ensures ∙ c.if-is_empty.true))) (c.plain.ensures r begin)

pub returns-else-is_empty : goal.returns-else-is_empty
returns-else-is_empty c = λ r begin.
    let s = unit_shape c.args.unit r in
    on_ok_weaker c.hooked.result (λ h. adds_as _ h (with_hooks c.args.list.now c.args.unit s c.args.form c.args.member c.args.bodies.now (sym c.is_empty.ensures ∙ c.if-is_empty.false))) (c.hooked.ensures r begin)
