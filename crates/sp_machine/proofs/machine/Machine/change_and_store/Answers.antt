use Rattle.std.proofs.Common.{◌+◌, Some, sym, ap, subst}
use Rattle.sp_code.specs.Machine.{At, act}
use Rattle.sp_code.specs.Programs.{plain_of}
use Rattle.sp_machine.specs.declared.machine.Stop.TheVariants.{GoesOn}
use Rattle.sp_machine.specs.Plain.{state_of, plain, plain_in, reads_of}
use Rattle.sp_machine.specs.Safe.{IsSafe}
use Rattle.sp_machine.specs.Ran.{Advanced}
use Rattle.sp_machine.proofs.Safety.{safe_can}
use Rattle.sp_machine.proofs.Running.{advanced_put, advanced_alone}
use Rattle.sp_machine.proofs.machine.Machine.change_and_store.Goals as goal

pub change-requires-clause-can : goal.change-requires-clause-can
change-requires-clause-can c =
    let m = c.args.self.now in
    let p = plain_of c.args.limits.now c.args.p.now in
    safe_can p c.args.window.now m.pc m.operands m.stack (state_of m) c.args.instr.now
    (subst (λ mode. IsSafe p c.args.window.now (plain_in mode m)) c.requires.running c.requires.safe) c.requires.instr

pub returns-in-Some : goal.returns-in-Some
returns-in-Some c = λ told.
    let m = c.args.self.now in
    let p = plain_of c.args.limits.now c.args.p.now in
    let w = c.args.window.now in
    let reads = reads_of w c.args.is_ended in
    let after = plain c.change.new.self in
    subst (λ mode. Advanced p reads w told told (plain_in mode m) after GoesOn) (sym c.requires.running)
    (advanced_put p w c.args.is_ended c.requires.turns c.in-Some.slot (m.pc + 1) told (At m.pc m.operands m.stack (state_of m)) after
    (act p reads (Some c.args.instr.now) m.pc m.operands m.stack (state_of m)) (subst (λ mode. IsSafe p w (plain_in mode m)) c.requires.running c.requires.safe)
    (ap (λ o. act p reads o m.pc m.operands m.stack (state_of m)) c.requires.instr) c.in-Some.ensures.0 c.in_ok-change.ensures)

pub act_on_container-requires-clause-can : goal.act_on_container-requires-clause-can
act_on_container-requires-clause-can c =
    let m = c.args.self.now in
    let p = plain_of c.args.limits.now c.args.p.now in
    safe_can p c.args.window.now m.pc m.operands m.stack (state_of m) c.args.instr.now
    (subst (λ mode. IsSafe p c.args.window.now (plain_in mode m)) c.requires.running c.requires.safe) c.requires.instr

pub returns : goal.returns
returns c = λ told.
    let m = c.args.self.now in
    let p = plain_of c.args.limits.now c.args.p.now in
    let w = c.args.window.now in
    let reads = reads_of w c.args.is_ended in
    let after = plain c.act_on_container.new.self in
    subst (λ mode. Advanced p reads w told told (plain_in mode m) after GoesOn) (sym c.requires.running)
    (advanced_alone p w c.args.is_ended c.requires.turns told (At m.pc m.operands m.stack (state_of m)) after
    (act p reads (Some c.args.instr.now) m.pc m.operands m.stack (state_of m)) (subst (λ mode. IsSafe p w (plain_in mode m)) c.requires.running c.requires.safe)
    (ap (λ o. act p reads o m.pc m.operands m.stack (state_of m)) c.requires.instr) c.in_ok-act_on_container.ensures)
