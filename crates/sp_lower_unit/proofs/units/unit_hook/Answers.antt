use Rattle.std.proofs.Common.{ℕ, List, [], length, ap}
use Rattle.std.proofs.lemmas.Result.{on_ok_weaker}
use Rattle.sp_code_programs.specs.units.Bodies.{hooks_code}
use Rattle.sp_code_programs.specs.units.Units.{unit_shape}
use Rattle.sp_emit.proofs.Adding.{adds_as}
use Rattle.sp_lower_unit.proofs.units.unit_hook.Goals as goal

pub returns : goal.returns
returns c = λ r begin.
    on_ok_weaker c.hooks.result
    (λ h. adds_as _ h (ap (λ (bs : List ℕ). hooks_code (unit_shape c.args.unit r) (length c.args.tables.now.list.now.functions) [] bs) c.bodies.ensures)) (c.hooks.ensures c.args.unit r begin)
