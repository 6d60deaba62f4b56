use Rattle.sp_sync.proofs.Telling.{answers}
use Rattle.sp_sync.proofs.search.Search.found.Goals as goal

pub returns-clause-place : goal.returns-clause-place
returns-clause-place c = λ tokens from d ended h.
    let s = c.args.self.now in
    answers s.attempt.matcher s.attempt.start s.attempt.wants s.found tokens from d ended h
