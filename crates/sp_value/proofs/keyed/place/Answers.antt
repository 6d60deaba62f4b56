use Rattle.std.proofs.Common.{rules}
use Rattle.std.proofs.lemmas.Fn.{always_returns_same}
use Rattle.sp_value.specs.Order.{val_cmp}
use Rattle.sp_value.proofs.Search.{place_found}
use Rattle.sp_value.proofs.keyed.place.Goals as goal

pub returns : goal.returns
returns g c =
    let facts = c.binary_search_by.ensures in
    place_found g.T.Keyed.key c.args.items.now c.args.key.now c.binary_search_by.result c.requires facts.bound (facts.position (λ item. val_cmp (g.T.Keyed.key item) c.args.key.now) (always_returns_same _ _ _ (λ a r f called. search rules)))
