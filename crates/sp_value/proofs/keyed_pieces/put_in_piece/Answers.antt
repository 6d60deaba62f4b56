use Rattle.std.proofs.Common.{ap}
use Rattle.sp_value.proofs.PieceKeys.{lent_ascends, put_ok, put_some, change_err, grew}
use Rattle.sp_value.proofs.keyed_pieces.put_in_piece.Goals as goal

pub put_shared-requires : goal.put_shared-requires
put_shared-requires g c = lent_ascends g.T.Keyed.key c.args.pieces.now.items c.args.c c.index_mut.result.now c.index_mut.result.now.value.items c.requires.pieces.ascending c.requires.within (ap (λ p. p.value.items) c.index_mut.ensures.value)

pub returns-clause-ok : goal.returns-clause-ok
returns-clause-ok g c = put_ok g.T.Keyed.key c.put_shared.result c.args.item c.args.pieces.now.items c.args.c c.index_mut.result.now c.put_shared.new.items c.index_mut.ensures.value c.requires.place c.put_shared.ensures.ok

pub returns-clause-grows : goal.returns-clause-grows
returns-clause-grows g c = grew c.put_shared.result c.args.pieces.now.items c.args.c c.index_mut.result.now c.put_shared.new.items c.index_mut.ensures.value c.requires.within c.put_shared.ensures.grows

pub returns-clause-err : goal.returns-clause-err
returns-clause-err g c = change_err c.put_shared.result c.args.pieces.now.items c.args.c c.index_mut.result.now c.put_shared.new.items c.index_mut.ensures.value c.requires.within c.put_shared.ensures.err

pub returns-clause-none_empty : goal.returns-clause-none_empty
returns-clause-none_empty g c = put_some g.T.Keyed.key c.put_shared.result c.args.item c.args.pieces.now.items c.args.c c.index_mut.result.now c.put_shared.new.items c.index_mut.ensures.value c.requires.within c.requires.pieces.none_empty c.put_shared.ensures.ok c.put_shared.ensures.err
