use Rattle.std.proofs.Common.{sym, ap, subst, ◌∙◌}
use Rattle.std.proofs.lemmas.Result.{on_ok_weaker}
use Rattle.sp_typed_units.specs.Parts.{Part}
use Rattle.sp_typed_units.specs.PartViews.{part_of}
use Rattle.sp_code_programs.specs.units.Units.{unit_shape, part_code}
use Rattle.sp_emit.specs.Emitted.{Adds}
use Rattle.sp_lower_unit.proofs.parts.part.Goals as goal

pub returns-in-Field : goal.returns-in-Field
returns-in-Field c = λ r begin.
    let s = unit_shape c.args.unit r in
    let is = ap part_of (sym c.in-Field.is) ∙ c.level.ensures in
    on_ok_weaker c.field.result (λ h. subst (λ (p : Part). Adds c.args.out.now c.field.new.out (part_code c.args.list.now c.args.unit s c.args.order p) s) is h) (c.field.ensures r begin)
