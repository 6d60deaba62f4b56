use Rattle.sp_session.proofs.Meanings.{units_are_steady}
use Rattle.sp_session.proofs.laws.units_are_steady.Goals as goal

pub returns : goal.returns
returns c = units_are_steady
