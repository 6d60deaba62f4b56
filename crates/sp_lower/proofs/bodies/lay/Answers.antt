use Rattle.std.proofs.Common.{refl, ◌∙◌}
use Rattle.std.proofs.lemmas.Result.{on_ok_weaker}
use Rattle.sp_lower.proofs.Laid.{laid}
use Rattle.sp_lower.proofs.bodies.lay.Goals as goal

pub returns : goal.returns
returns c = λ r is.
    on_ok_weaker c.routine.result
    (laid c.args.around.now c.args.out.now c.routine.new.out c.args.bodies.now c.add_entry.new.bodies c.args.frame c.args.entry _ c.args.s.now r c.in_ok-start.start c.in_ok-locals.locals is c.requires.frame
    c.in_ok-start.ensures refl (c.in_ok-locals.ensures.items ∙ c.as_slice.ensures.value) c.in_ok-add_entry.ensures.entries c.in_ok-add_entry.ensures.locals) c.routine.ensures
