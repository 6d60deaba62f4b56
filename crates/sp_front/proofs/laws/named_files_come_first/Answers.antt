use Rattle.sp_front.proofs.FirstNamed.{named_come_first}
use Rattle.sp_front.proofs.laws.named_files_come_first.Goals as goal

pub returns : goal.returns
returns c = λ files names dirs list x. named_come_first files names dirs list x
