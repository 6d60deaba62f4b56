use Rattle.std.proofs.Common.{ap, sym, subst, ◌∙◌, ◌≤◌, length, arith}
use Rattle.sp_match.specs.Bits.{holds}
use Rattle.sp_match.proofs.Tabling.{row_is}
use Rattle.sp_match.proofs.table.Table.copy_set.Goals as goal

pub returns-then-state-len-clause-spots : goal.returns-then-state-len-clause-spots
returns-then-state-len-clause-spots c = λ lt fits p.
    let is = row_is c.args.self.now.states.sets.items c.args.state c.index.result.now (omega arith) c.index.ensures in
    c.assign.ensures.spots (subst (λ z. length z ≤ length c.args.set.now.items) is fits) p ∙ ap (λ z. holds z p) (sym is)
