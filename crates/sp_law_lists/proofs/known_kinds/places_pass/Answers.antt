use Rattle.sp_law_lists.specs.known_types.Full.{is_right}
use Rattle.sp_law_lists.proofs.known_types_lemmas.Tests.{at_first, place_of}
use Rattle.sp_law_lists.proofs.known_kinds_lemmas.Operations.{joined, place_so}
use Rattle.sp_law_lists.proofs.known_kinds.places_pass.Goals as goal

pub returns : goal.returns
returns c = λ around k m owner e asked offset built made clear right widened owners change kept.
    place_so around k m asked offset e (joined around k m e built made clear right widened owners) (place_of k e (at_first is_right e right) change) owner kept
