use Rattle.sp_sync.proofs.attempt.Attempt.new.Goals as goal

pub returns-clause-read : goal.returns-clause-read
returns-clause-read c = λ tokens s. c.in_ok-matcher.ensures.read tokens s
