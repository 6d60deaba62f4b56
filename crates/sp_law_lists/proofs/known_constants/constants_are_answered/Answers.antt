use Rattle.sp_law_lists.proofs.known_constants_lemmas.Places.{constant_there, constant_typed}
use Rattle.sp_law_lists.proofs.known_constants_lemmas.Rounds.{constant_answered}
use Rattle.sp_law_lists.proofs.known_constants_lemmas.Named.{all_answered}
use Rattle.sp_law_lists.proofs.known_constants.constants_are_answered.Goals as goal

pub returns-clause-answered : goal.returns-clause-answered
returns-clause-answered c = all_answered

pub returns-clause-typed : goal.returns-clause-typed
returns-clause-typed c = λ list f known t it g e.
    (let lt = constant_there list f g e in constant_typed list f known _ lt (constant_answered list f known t it _ lt))
