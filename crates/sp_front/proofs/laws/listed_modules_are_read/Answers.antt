use Rattle.sp_front.proofs.Read.{list_read}
use Rattle.sp_front.proofs.laws.listed_modules_are_read.Goals as goal

pub returns : goal.returns
returns c = λ files names dirs list x. list_read files names dirs list x
