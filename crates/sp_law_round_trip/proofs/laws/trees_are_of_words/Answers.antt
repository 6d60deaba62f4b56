use Rattle.sp_law_round_trip.proofs.AlikeTexts.{same_tree}
use Rattle.sp_law_round_trip.proofs.laws.trees_are_of_words.Goals as goal

pub returns : goal.returns
returns c = λ first second t e is. same_tree first second t e is
