use Rattle.std.proofs.Common.{refl, ap, ◌++◌}
use Rattle.std.specs.Prelude.{None}
use Rattle.sp_methods.specs.Kinds.{Kind}
use Rattle.sp_meaning.specs.Globals.{globals_of}
use Rattle.sp_code.specs.Shapes.{OfFunction, body_shape}
use Rattle.sp_code_programs.specs.programs.Routines.{parameter_kinds, slot_kinds}
use Rattle.sp_lower.proofs.Framed.{framed}
use Rattle.sp_lower.proofs.functions.function_frame.Goals as goal

pub returns : goal.returns
returns c =
    let ranges = (globals_of c.args.list.now).ranges in
    let x = c.args.x.now in
    framed _ _ _ _ c.in_ok-kind.kind _ _ _ _ c.in_ok-kind.ensures c.in_ok-locals.ensures refl c.in_ok-ending.ensures (λ number. number.within)
    (λ number. ap (λ (k : Kind). body_shape None (OfFunction k) (parameter_kinds ranges x.parameters ++ slot_kinds ranges x.slots)) number.is)
