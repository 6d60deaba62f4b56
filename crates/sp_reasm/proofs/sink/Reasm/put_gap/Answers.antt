use Rattle.std.proofs.Common.{◌+◌, ◌-◌, subst}
use Rattle.sp_reasm.specs.declared.piece.Spot.TheVariants.{Missing}
use Rattle.sp_reasm.specs.Pieces.{laid}
use Rattle.sp_reasm.specs.inside.Settling.{Settles}
use Rattle.sp_reasm.proofs.SinkLemmas.{on_ok, is_lost}
use Rattle.sp_reasm.proofs.sink.Reasm.put_gap.Goals as goal

pub returns-clause-ok : goal.returns-clause-ok
returns-clause-ok c =
    on_ok c.settle.result
    (λ done. is_lost c.args.self.now c.settle.new.self c.args.at c.passed-past.result c.args.len c.reached-top.result c.args.notes.now c.settle.new.notes c.passed-past.ensures c.reached-top.ensures
    (subst (λ t. Settles c.args.self.now c.settle.new.self (laid (c.args.at + c.passed-past.result) (Missing (c.args.len - c.passed-past.result))) c.reached-top.result c.args.self.now.head t c.args.notes.now c.settle.new.notes) c.new-told.ensures done))
    c.settle.ensures.ok
