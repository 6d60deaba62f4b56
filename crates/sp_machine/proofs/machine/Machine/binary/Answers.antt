use Rattle.std.proofs.Common.{ap, ◌∙◌}
use Rattle.sp_code.specs.Can.{below_top}
use Rattle.sp_machine.proofs.machine.Machine.binary.Goals as goal

pub returns : goal.returns
returns c =
    let below = ap (λ l. below_top (below_top l)) c.pop.ensures ∙ ap below_top c.pop-2.ensures in
    rw below (c.put_found.ensures.answer _ _ c.operated-found.ensures)
