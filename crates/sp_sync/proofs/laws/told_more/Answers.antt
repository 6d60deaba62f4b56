use Rattle.sp_sync.proofs.Telling.{told_with_more}
use Rattle.sp_sync.proofs.laws.told_more.Goals as goal

pub returns : goal.returns
returns c = λ s tokens from d t ended h. told_with_more s.attempt.matcher s.attempt.start s.attempt.wants s.found tokens from d t ended h
