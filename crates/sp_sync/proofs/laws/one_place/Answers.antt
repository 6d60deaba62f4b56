use Rattle.sp_sync.proofs.Placing.{one_place_is}
use Rattle.sp_sync.proofs.laws.one_place.Goals as goal

pub returns : goal.returns
returns c = one_place_is
