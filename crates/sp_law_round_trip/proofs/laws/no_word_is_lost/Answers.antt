use Rattle.sp_law_round_trip.proofs.KeptWords.{same_kept, same_told}
use Rattle.sp_law_round_trip.proofs.laws.no_word_is_lost.Goals as goal

pub returns-clause-words : goal.returns-clause-words
returns-clause-words c = λ lexed m is read. same_kept lexed m is read

pub returns-clause-tokens : goal.returns-clause-tokens
returns-clause-tokens c = λ lexed m is read tokens again. same_told lexed m is read tokens again
