use Rattle.std.proofs.Common.{◌∙◌}
use Rattle.std.proofs.lemmas.Result.{on_ok_weaker}
use Rattle.sp_code_programs.specs.units.Units.{unit_shape}
use Rattle.sp_lower_unit.proofs.Stored.{hooked_added}
use Rattle.sp_lower_unit.proofs.fields.hooked.Goals as goal

pub returns : goal.returns
returns c = λ r begin.
    let offset = c.in_ok-keep_offset.ensures in
    let current = c.in_ok-read_current.ensures in
    let kept = c.in_ok-keep.ensures in
    on_ok_weaker c.hooks.result
    (hooked_added c.args.list.now c.args.out.now _ _ _ _ c.args.unit (unit_shape c.args.unit r) c.args.form c.args.member c.args.bodies.now begin offset current kept)
    (c.hooks.ensures c.args.unit r (kept.now ∙ current.now ∙ offset.now ∙ begin))
