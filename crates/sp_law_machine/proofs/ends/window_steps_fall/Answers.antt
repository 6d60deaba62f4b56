use Rattle.sp_law_machine.proofs.ends_lemmas.Windows.{window_steps_fall}
use Rattle.sp_law_machine.proofs.ends.window_steps_fall.Goals as goal

pub returns : goal.returns
returns c = window_steps_fall
