use Rattle.std.proofs.Common.{refl}
use Rattle.std.proofs.lemmas.Result.{on_ok_weaker}
use Rattle.sp_meaning.specs.Globals.{globals_of}
use Rattle.sp_meaning.specs.Names.{hook_name}
use Rattle.sp_code_programs.specs.programs.Routines.{hook_routine}
use Rattle.sp_code_programs.specs.programs.Currents.{current_kind}
use Rattle.sp_lower.proofs.Framed.{routine_is}
use Rattle.sp_lower.proofs.Laid.{turn_lays}
use Rattle.sp_lower.proofs.hooks.hook.Goals as goal

pub lay-requires-clause-frame : goal.lay-requires-clause-frame
lay-requires-clause-frame c = c.in_ok-frame.ensures.stands

pub returns : goal.returns
returns c =
    let list = c.args.fields.now.list.now in
    let g = globals_of list in
    let x = c.args.x.now in
    let r = hook_routine g (hook_name list.units x.of) (current_kind g.ranges list.units c.args.body x) x in
    let frame = c.in_ok-frame.ensures in
    on_ok_weaker c.lay.result (turn_lays g c.args.out.now c.hook_frame.new.out c.lay.new.out c.args.bodies.now c.lay.new.bodies _ frame.same)
    (c.lay.ensures r (routine_is c.args.out.now c.hook_frame.new.out _ c.in_ok-frame.frame c.in_ok-entry.entry x.body r frame c.in_ok-places.ensures c.in_ok-entry.ensures refl))
