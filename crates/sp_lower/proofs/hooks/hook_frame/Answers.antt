use Rattle.std.proofs.Common.{ℕ, Bool, Option, ◌++◌, refl, ap, ◌∙◌}
use Rattle.sp_meaning.specs.Globals.{globals_of}
use Rattle.sp_code.specs.Shapes.{OfHook, body_shape}
use Rattle.sp_code_programs.specs.programs.Routines.{hook_unit, handed_kinds, slot_kinds}
use Rattle.sp_code_programs.specs.programs.Currents.{current_kind}
use Rattle.sp_lower.proofs.Framed.{framed}
use Rattle.sp_lower.proofs.hooks.hook_frame.Goals as goal

pub returns : goal.returns
returns c =
    let list = c.args.fields.now.list.now in
    let ranges = (globals_of list).ranges in
    let x = c.args.x.now in
    let kinds = handed_kinds ranges (current_kind ranges list.units c.args.body x) x ++ slot_kinds ranges x.slots in
    framed _ _ _ _ c.in_ok-kind.kind _ _ _ _ c.in_ok-kind.ensures c.in_ok-locals.ensures refl c.void.ensures (λ number. tt)
    (λ number. ap (λ (u : Option ℕ). body_shape u (OfHook c.is_foreach.result) kinds) c.hook_unit.ensures ∙ ap (λ (b : Bool). body_shape (hook_unit x.of) (OfHook b) kinds) c.is_foreach.ensures)
