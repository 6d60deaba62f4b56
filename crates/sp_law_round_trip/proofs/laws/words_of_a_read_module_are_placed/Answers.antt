use Rattle.sp_law_round_trip.proofs.PlacedWords.{words_placed}
use Rattle.sp_law_round_trip.proofs.laws.words_of_a_read_module_are_placed.Goals as goal

pub returns : goal.returns
returns c = λ lexed m is read. words_placed lexed m is read
