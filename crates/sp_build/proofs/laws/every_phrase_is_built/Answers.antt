use Rattle.sp_build.proofs.Texts.{phrase_is_built}
use Rattle.sp_build.proofs.laws.every_phrase_is_built.Goals as goal

pub returns : goal.returns
returns c = λ start text tokens m actions d. phrase_is_built start text tokens m actions d
