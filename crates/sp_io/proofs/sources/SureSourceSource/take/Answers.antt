use Rattle.sp_io.proofs.PieceLemmas.{takes_from}
use Rattle.sp_io.proofs.sources.SureSourceSource.take.Goals as goal

pub returns-clause-takes : goal.returns-clause-takes
returns-clause-takes c =
    let took = c.take.ensures in
    rw (← c.self.view_is) (takes_from _ _ _ _ _ _ c.requires took.bytes took.pieces took.end took.err)
