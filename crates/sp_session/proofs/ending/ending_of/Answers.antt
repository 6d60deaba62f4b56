use Rattle.std.proofs.Common.{ap, ◌∙◌}
use Rattle.sp_code.specs.Programs.{names_of}
use Rattle.sp_meaning_states.specs.Telling.{value_tree}
use Rattle.sp_session.proofs.Endings.{value_in, ends_done}
use Rattle.sp_session.proofs.ending.ending_of.Goals as goal

pub returns-in_ok-tree-in-Done : goal.returns-in_ok-tree-in-Done
returns-in_ok-tree-in-Done c = λ close from s r told.
    let names = names_of c.args.program.now in
    ends_done c.args.fiber.now c.stand.result names c.stand.ensures.live c.stand.ensures.ended close from s r told c.machine.result.now c.in-Done.value.now c.in_ok-tree-in-Done.tree c.machine.ensures (ap value_in c.in-Done.is)
    (c.in_ok-tree-in-Done.ensures ∙ ap (λ instances. value_tree names instances c.in-Done.value.now) c.as_slice-instances.ensures.value)
