use Rattle.std.proofs.Common.{refl}
use Rattle.std.proofs.lemmas.Result.{on_ok_weaker}
use Rattle.sp_meaning.specs.Globals.{globals_of}
use Rattle.sp_code_programs.specs.programs.Routines.{function_routine}
use Rattle.sp_lower.proofs.Framed.{routine_is}
use Rattle.sp_lower.proofs.Laid.{turn_lays}
use Rattle.sp_lower.proofs.functions.function.Goals as goal

pub lay-requires-clause-frame : goal.lay-requires-clause-frame
lay-requires-clause-frame c = c.in_ok-frame.ensures.stands

pub returns : goal.returns
returns c =
    let g = globals_of c.args.list.now in
    let r = function_routine g c.args.x.now in
    let frame = c.in_ok-frame.ensures in
    on_ok_weaker c.lay.result (turn_lays g c.args.out.now c.function_frame.new.out c.lay.new.out c.args.bodies.now c.lay.new.bodies _ frame.same)
    (c.lay.ensures r (routine_is c.args.out.now c.function_frame.new.out _ c.in_ok-frame.frame c.in_ok-entry.entry c.args.x.now.body r frame c.in_ok-places.ensures c.in_ok-entry.ensures refl))
