use Rattle.sp_machine.proofs.Spots.{none_there}
use Rattle.sp_machine.proofs.in_place.is_empty.Goals as goal

pub returns : goal.returns
returns c = none_there c.args.vector.now c.in-Vector.items.now c.is_empty.result c.in-Vector.ensures.value c.is_empty.ensures
