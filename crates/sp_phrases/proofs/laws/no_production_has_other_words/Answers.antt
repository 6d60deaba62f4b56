use Rattle.std.proofs.Common.{refl}
use Rattle.sp_grammar.specs.Own.{own}
use Rattle.sp_phrases.proofs.laws.no_production_has_other_words.Goals as goal

pub returns : goal.returns
unfolding own
returns c = refl
