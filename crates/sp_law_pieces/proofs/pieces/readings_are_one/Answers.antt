use Rattle.sp_law_pieces.proofs.Readings.{readings_are_one}
use Rattle.sp_law_pieces.proofs.pieces.readings_are_one.Goals as goal

pub returns : goal.returns
returns c = readings_are_one
