use Rattle.std.proofs.Common.{length}
use Rattle.sp_type_functions.proofs.events.+are_told.Given as goal

abbrev pub decreases-are_told : goal.decreases-are_told
decreases-are_told l = length l.words.now
