use Rattle.sp_machine.proofs.machine.Machine.index.Goals as goal

pub returns : goal.returns
returns c = rw (c.pop-key.ensures, c.pop-container.ensures) (c.put_found.ensures.answer _ _ c.item_at-found.ensures)
