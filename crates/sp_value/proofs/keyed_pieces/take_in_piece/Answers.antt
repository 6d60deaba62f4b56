use Rattle.std.proofs.Common.{ap}
use Rattle.sp_value.proofs.PieceLists.{none_but}
use Rattle.sp_value.proofs.PieceKeys.{lent_ascends, take_ok, change_err, shrank}
use Rattle.sp_value.proofs.keyed_pieces.take_in_piece.Goals as goal

pub take-requires : goal.take-requires
take-requires g c = lent_ascends g.T.Keyed.key c.args.pieces.now.items c.args.c c.index_mut.result.now c.index_mut.result.now.value.items c.requires.pieces.ascending c.requires.within (ap (λ p. p.value.items) c.index_mut.ensures.value)

pub returns-clause-ok : goal.returns-clause-ok
returns-clause-ok g c = take_ok g.T.Keyed.key c.take.result c.args.key.now c.args.pieces.now.items c.args.c c.index_mut.result.now c.take.new.items c.index_mut.ensures.value c.requires.place c.take.ensures.ok

pub returns-clause-shrinks : goal.returns-clause-shrinks
returns-clause-shrinks g c = shrank c.take.result c.args.pieces.now.items c.args.c c.index_mut.result.now c.take.new.items c.index_mut.ensures.value c.requires.within c.take.ensures.shrinks

pub returns-clause-err : goal.returns-clause-err
returns-clause-err g c = change_err c.take.result c.args.pieces.now.items c.args.c c.index_mut.result.now c.take.new.items c.index_mut.ensures.value c.requires.within c.take.ensures.err

pub returns-clause-none_empty : goal.returns-clause-none_empty
returns-clause-none_empty g c = none_but c.args.pieces.now.items c.args.c c.take.new.items c.requires.pieces.none_empty
