use Rattle.std.proofs.Common.{◌∙◌}
use Rattle.sp_value.proofs.Search.{has_from_place}
use Rattle.sp_value.proofs.keyed.has.Goals as goal

pub returns : goal.returns
returns g c = c.is_ok.ensures.value ∙ has_from_place g.T.Keyed.key c.args.items.now c.args.key.now c.place.result c.requires c.place.ensures
