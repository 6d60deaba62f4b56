use Rattle.std.proofs.Common.{sym, subst}
use Rattle.std.proofs.lemmas.Result.{on_ok_weaker}
use Rattle.sp_code_programs.specs.units.Bodies.{loads_code, loaded}
use Rattle.sp_code_programs.specs.units.Units.{unit_shape}
use Rattle.sp_emit.specs.Emitted.{Adds}
use Rattle.sp_lower_unit.specs.declared.hooks.Handed.{Handed}
use Rattle.sp_lower_unit.specs.Handed.{handed_locals}
use Rattle.sp_lower_unit.proofs.Joined.{adds_none}
use Rattle.sp_lower_unit.proofs.Loaded.{current_loads}
use Rattle.sp_lower_unit.proofs.hooks.loads.Goals as goal

pub returns-in-Nothing : goal.returns-in-Nothing
returns-in-Nothing c = λ u r begin.
    let out = c.args.out.now in
    subst (λ (h : Handed). Adds out out (loads_code (unit_shape u r) (handed_locals h)) (loaded (unit_shape u r) (handed_locals h))) (sym c.in-Nothing.is) (adds_none out (unit_shape u r) begin)

pub returns-in-Current : goal.returns-in-Current
returns-in-Current c = λ u r begin.
    on_ok_weaker c.load_current.result
    (λ h. subst (λ (x : Handed). Adds c.args.out.now c.load_current.new.out (loads_code (unit_shape u r) (handed_locals x)) (loaded (unit_shape u r) (handed_locals x))) (sym c.in-Current.is)
    (current_loads c.args.out.now c.load_current.new.out u r c.in-Current.signed begin h))
    c.load_current.ensures
