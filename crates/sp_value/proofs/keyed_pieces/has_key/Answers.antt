use Rattle.std.proofs.Common.{ap, ◌∙◌}
use Rattle.std.specs.Prelude.{is_some}
use Rattle.sp_value.proofs.PieceKeys.{lent, lent_ascends, found_lent}
use Rattle.sp_value.proofs.keyed_pieces.has_key.Goals as goal

pub has-requires : goal.has-requires
has-requires g c =
    lent_ascends g.T.Keyed.key c.args.pieces.now c.piece_of-c.result c.index-pieces-c.result c.as_slice.result.now c.requires.ascending c.piece_of-c.ensures.within
    (lent g.T.Keyed.key c.args.pieces.now c.piece_of-c.result c.index-pieces-c.result c.deref.result.now c.as_slice.result.now c.index-pieces-c.is c.deref.ensures c.as_slice.ensures.value)

pub returns : goal.returns
returns g c =
    c.has.ensures
    ∙ ap is_some (found_lent g.T.Keyed.key c.args.key.now c.args.pieces.now c.piece_of-c.result c.index-pieces-c.result c.as_slice.result.now c.piece_of-c.ensures.place
    (lent g.T.Keyed.key c.args.pieces.now c.piece_of-c.result c.index-pieces-c.result c.deref.result.now c.as_slice.result.now c.index-pieces-c.is c.deref.ensures c.as_slice.ensures.value))
