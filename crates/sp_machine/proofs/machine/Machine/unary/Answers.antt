use Rattle.sp_machine.proofs.machine.Machine.unary.Goals as goal

pub returns : goal.returns
returns c = rw c.pop-value.ensures (c.put_found.ensures.answer _ _ c.unary-found.ensures)
