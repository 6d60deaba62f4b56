use Rattle.sp_sync.proofs.Placing.{steady_at}
use Rattle.sp_sync.proofs.laws.steady_place.Goals as goal

pub returns : goal.returns
returns c = steady_at
