use Rattle.sp_session.proofs.Meanings.{units_are_decided}
use Rattle.sp_session.proofs.laws.units_are_decided.Goals as goal

pub returns : goal.returns
returns c = units_are_decided
