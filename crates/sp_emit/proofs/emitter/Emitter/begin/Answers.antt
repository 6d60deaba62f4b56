use Rattle.std.proofs.Common.{◌<◌, length, subst, sym}
use Rattle.std.specs.List.{AllByRecursion}
use Rattle.sp_emit.specs.Numbered.{RoundBelow}
use Rattle.sp_emit.specs.Emitted.{Emitted}
use Rattle.sp_emit.proofs.Steps.{moved_within, moved_to}
use Rattle.sp_emit.proofs.emitter.Emitter.begin.Goals as goal

pub invariant_of-self : goal.invariant_of-self
invariant_of-self c =
    let e = c.self.inside in
    let round = subst (λ (x : Emitted). RoundBelow (length x.kinds) c.args.round) (sym c.self.view_is) c.requires.round in
    let locals = subst (λ (x : Emitted). AllByRecursion (λ n. n < length x.kinds) c.args.locals.items) (sym c.self.view_is) c.requires.locals in
    moved_within e.kinds e.consts.items e.steps.items e.here c.begin.new.self _ c.begin.ensures (record { round = round; locals = locals; operands = tt }) c.self.invariant

pub returns : goal.returns
returns c =
    let e = c.self.inside in
    rw (← c.self.view_is) (moved_to e.kinds e.consts.items e.steps.items e.here c.begin.new.self _ c.begin.ensures c.self.invariant)
