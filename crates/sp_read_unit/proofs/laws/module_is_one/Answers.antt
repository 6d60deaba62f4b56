use Rattle.sp_read_unit.proofs.Whole.{one_module}
use Rattle.sp_read_unit.proofs.laws.module_is_one.Goals as goal

pub returns : goal.returns
returns c = λ tokens first second p q. one_module tokens first second p q
