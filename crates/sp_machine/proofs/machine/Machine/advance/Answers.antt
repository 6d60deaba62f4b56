use Rattle.sp_code.specs.Machine.{step}
use Rattle.sp_code.specs.Programs.{plain_of}
use Rattle.sp_machine.specs.Plain.{plain, reads_of}
use Rattle.sp_machine.proofs.Quiet.{quiet_ok}
use Rattle.sp_machine.proofs.Running.{advanced_ok}
use Rattle.sp_machine.proofs.machine.Machine.advance.Goals as goal

pub returns-in_default : goal.returns-in_default
returns-in_default c =
    let p = plain_of c.args.limits.now c.args.p.now in
    let w = c.args.window.now in
    let told = c.args.told.now.items in
    let before = plain c.args.self.now in
    let after = plain c.take_off.new.self in
    advanced_ok p w c.args.is_ended c.take_off.result c.requires.turns told told before after c.requires.safe
    (quiet_ok c.take_off.result (step p (reads_of w c.args.is_ended) before) before after told c.take_off.ensures)
