use Rattle.sp_unbuilt.proofs.Written.{first_in}
use Rattle.sp_unbuilt.proofs.laws.first_of_unbuilt.Goals as goal

pub returns : goal.returns
returns c = first_in
