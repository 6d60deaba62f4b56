use Rattle.std.proofs.Common.{subst}
use Rattle.sp_code.specs.Programs.{plain_of}
use Rattle.sp_machine.specs.Plain.{plain, reads_of}
use Rattle.sp_machine.specs.Ran.{Advanced}
use Rattle.sp_machine.proofs.Running.{came_both, ran}
use Rattle.sp_machine.proofs.machine.Machine.run.Goals as goal

pub loop-stop-preserved : goal.loop-stop-preserved
loop-stop-preserved c =
    let p = plain_of c.args.limits.now c.args.p.now in
    let reads = reads_of c.args.window.now c.args.is_ended in
    let old = c.loop-stop.told.items in
    let new = c.advance.new.told.items in
    let before = plain c.loop-stop.self in
    let after = plain c.advance.new.self in
    came_both p c.args.window.now c.args.is_ended c.args.told.now.items old new (plain c.args.self.now) before after c.loop-stop.invariant
    (subst (Advanced p reads c.args.window.now old new before after) c.in-GoesOn.is c.in_ok-stop.ensures).0

pub loop-stop-smaller : goal.loop-stop-smaller
loop-stop-smaller c =
    let p = plain_of c.args.limits.now c.args.p.now in
    let reads = reads_of c.args.window.now c.args.is_ended in
    let old = c.loop-stop.told.items in
    let new = c.advance.new.told.items in
    (subst (Advanced p reads c.args.window.now old new (plain c.loop-stop.self) (plain c.advance.new.self)) c.in-GoesOn.is c.in_ok-stop.ensures).1

pub returns-in_default : goal.returns-in_default
returns-in_default c =
    let p = plain_of c.args.limits.now c.args.p.now in
    ran p c.args.window.now c.args.is_ended c.in_ok-stop.stop c.args.told.now.items c.loop-stop.told.items c.advance.new.told.items (plain c.args.self.now) (plain c.loop-stop.self) (plain c.advance.new.self)
    c.in_default.not-GoesOn c.loop-stop.invariant c.in_ok-stop.ensures
