use Rattle.std.proofs.Common.{length, ap, sym, refl, arith}
use Rattle.sp_emit.proofs.Steps.{step_redirected, not_redirected, marks_long}
use Rattle.sp_emit.proofs.emitter.Emitter.redirect.Goals as goal

pub returns-then-at-len : goal.returns-then-at-len
returns-then-at-len c =
    let e = c.self.inside in
    rw (← c.self.view_is)
    (record { marks = step_redirected e.kinds e.here.stacks e.consts.items e.steps.items c.args.at c.args.instr _ _ c.requires (omega arith) c.index_mut.ensures.value refl refl; now = refl; kinds = refl })

pub returns-else-at-len : goal.returns-else-at-len
returns-else-at-len c =
    let e = c.self.inside in
    let long = marks_long e.kinds e.here.stacks e.consts.items e.steps.items in
    let same = ap (λ x. length x.marks) c.self.view_is in
    record { marks = sym (not_redirected c.args.self.now.marks c.args.at c.args.instr (omega arith)); now = refl; kinds = refl }
