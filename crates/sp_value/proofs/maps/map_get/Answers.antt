use Rattle.std.proofs.Common.{ap, ◌∙◌}
use Rattle.std.specs.Option.{option_map}
use Rattle.sp_value.specs.Val.{Val}
use Rattle.sp_value.specs.Ascending.{entry_key}
use Rattle.sp_value.proofs.PieceKeys.{lent, lent_ascends, found_lent}
use Rattle.sp_value.proofs.maps.map_get.Goals as goal

pub value_in-requires : goal.value_in-requires
value_in-requires c =
    lent_ascends entry_key c.args.pieces.now c.piece_of-c.result c.index-pieces-c.result c.as_slice.result.now c.requires.ascending c.piece_of-c.ensures.within
    (lent entry_key c.args.pieces.now c.piece_of-c.result c.index-pieces-c.result c.deref.result.now c.as_slice.result.now c.index-pieces-c.is c.deref.ensures c.as_slice.ensures.value)

pub returns : goal.returns
returns c =
    c.value_in.ensures
    ∙ ap (option_map (λ (e : Val × Val). e.1)) (found_lent entry_key c.args.key.now c.args.pieces.now c.piece_of-c.result c.index-pieces-c.result c.as_slice.result.now c.piece_of-c.ensures.place
    (lent entry_key c.args.pieces.now c.piece_of-c.result c.index-pieces-c.result c.deref.result.now c.as_slice.result.now c.index-pieces-c.is c.deref.ensures c.as_slice.ensures.value))
