use Rattle.std.proofs.Common.{length, arith}
use Rattle.sp_match.specs.Bits.{holds, row, LeadsWithin}
use Rattle.sp_match.proofs.Turns.{readers_read, step_closed}
use Rattle.sp_match.proofs.machine.Machine.step.Goals as goal

pub returns-clause-step : goal.returns-clause-step
returns-clause-step c = λ net b m long small class.
    let s = c.args.self.now in
    let room = m.room in
    let within : LeadsWithin s.nexts.items (length c.args.next.now.items) = λ p. (let le = m.within p in omega arith) in
    let size = c.step_class.ensures.len in
    let closed = c.close.ensures.closed net m.orderly (omega arith) m.jumps in
    step_closed net (holds c.args.live.now.items) (holds (row s.readers.items c.args.class)) (holds c.step_class.new.next.items) (holds c.close.new.set.items) s.nexts.items b m.orderly
    (readers_read net s.classes.of.items s.classes.firsts.items s.readers.items c.args.class b m.classes m.readers small class) m.nexts (c.step_class.ensures.step within) closed
