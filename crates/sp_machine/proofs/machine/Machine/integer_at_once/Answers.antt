use Rattle.std.proofs.Common.{◌+◌, Some, sym, ap, subst}
use Rattle.sp_code.specs.declared.instr.Instr.TheVariants.{ReadInt}
use Rattle.sp_code.specs.Machine.{At, act}
use Rattle.sp_code.specs.Programs.{plain_of}
use Rattle.sp_machine.specs.declared.machine.Stop.TheVariants.{GoesOn}
use Rattle.sp_machine.specs.Plain.{state_of, plain, plain_in, reads_of}
use Rattle.sp_machine.specs.Safe.{IsSafe}
use Rattle.sp_machine.specs.Ran.{Advanced}
use Rattle.sp_machine.proofs.Running.{advanced_put}
use Rattle.sp_machine.proofs.machine.Machine.integer_at_once.Goals as goal

pub returns-in-Some-slot_from-clause-did : goal.returns-in-Some-slot_from-clause-did
returns-in-Some-slot_from-clause-did c = λ did told.
    let m = c.args.self.now in
    let p = plain_of c.args.limits.now c.args.p.now in
    let w = c.args.window.now in
    let reads = reads_of w c.args.is_ended in
    let after = plain c.read_in.new.self in
    subst (λ mode. Advanced p reads w told told (plain_in mode m) after GoesOn) (sym c.requires.running)
    (advanced_put p w c.args.is_ended c.requires.turns c.in-Some-slot_from.slot (m.pc + 1) told (At m.pc m.operands m.stack (state_of m)) after
    (act p reads (Some (ReadInt c.args.form)) m.pc m.operands m.stack (state_of m)) (subst (λ mode. IsSafe p w (plain_in mode m)) c.requires.running c.requires.safe)
    (ap (λ o. act p reads o m.pc m.operands m.stack (state_of m)) c.requires.instr) c.in-Some-slot_from.ensures.0 c.read_in.ensures)
