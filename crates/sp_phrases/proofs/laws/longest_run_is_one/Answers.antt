use Rattle.sp_phrases.proofs.Unique.{one_longest}
use Rattle.sp_phrases.proofs.laws.longest_run_is_one.Goals as goal

pub returns : goal.returns
returns c = λ start tokens m n x y. one_longest start tokens m n x y
