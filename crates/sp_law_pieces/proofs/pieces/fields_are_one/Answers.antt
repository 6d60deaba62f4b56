use Rattle.sp_law_pieces.proofs.Fields.{fields_are_one}
use Rattle.sp_law_pieces.proofs.pieces.fields_are_one.Goals as goal

pub returns : goal.returns
returns c = fields_are_one
