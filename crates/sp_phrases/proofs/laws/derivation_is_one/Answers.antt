use Rattle.sp_phrases.proofs.Unique.{one_derivation}
use Rattle.sp_phrases.proofs.laws.derivation_is_one.Goals as goal

pub returns : goal.returns
returns c = λ start tokens m first second p q. one_derivation start tokens m first second p q
