use Rattle.sp_sync.proofs.Telling.{start_fails}
use Rattle.sp_sync.proofs.search.Search.start.Goals as goal

pub returns-clause-failed : goal.returns-clause-failed
returns-clause-failed c = λ tokens from d ended h.
    let s = c.args.self.now in
    start_fails s.attempt.matcher s.attempt.start s.attempt.wants s.found tokens from d ended h
