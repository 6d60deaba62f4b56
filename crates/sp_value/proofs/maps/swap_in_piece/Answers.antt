use Rattle.std.proofs.Common.{ap}
use Rattle.sp_value.specs.Ascending.{entry_key}
use Rattle.sp_value.proofs.PieceKeys.{lent_ascends, swap_there, swap_ok, swap_taken, change_err, as_long, as_full}
use Rattle.sp_value.proofs.maps.swap_in_piece.Goals as goal

pub swap_entry-requires : goal.swap_entry-requires
swap_entry-requires c = lent_ascends entry_key c.args.pieces.now.items c.args.c c.index_mut.result.now c.index_mut.result.now.value.items c.requires.pieces.ascending c.requires.within (ap (λ p. p.value.items) c.index_mut.ensures.value)

pub returns-clause-there : goal.returns-clause-there
returns-clause-there c = swap_there c.swap_entry.result c.args.key.now c.args.pieces.now.items c.args.c c.index_mut.result.now c.index_mut.ensures.value c.requires.place c.swap_entry.ensures.there

pub returns-clause-ok : goal.returns-clause-ok
returns-clause-ok c = swap_ok c.swap_entry.result c.args.key.now c.args.x.now c.args.pieces.now.items c.args.c c.index_mut.result.now c.swap_entry.new.entries c.index_mut.ensures.value c.requires.within c.requires.place c.swap_entry.ensures.ok

pub returns-clause-taken : goal.returns-clause-taken
returns-clause-taken c = swap_taken c.swap_entry.result c.args.key.now c.swap_entry.new.x c.args.x.now c.args.pieces.now.items c.args.c c.index_mut.result.now c.index_mut.ensures.value c.requires.place c.swap_entry.ensures.taken

pub returns-clause-err : goal.returns-clause-err
returns-clause-err c = change_err c.swap_entry.result c.args.pieces.now.items c.args.c c.index_mut.result.now c.swap_entry.new.entries c.index_mut.ensures.value c.requires.within c.swap_entry.ensures.err

pub returns-clause-none_empty : goal.returns-clause-none_empty
returns-clause-none_empty c = as_full c.args.pieces.now.items c.args.c c.index_mut.result.now c.swap_entry.new.entries c.index_mut.ensures.value c.requires.within c.requires.pieces.none_empty c.swap_entry.ensures.length

pub returns-clause-length : goal.returns-clause-length
returns-clause-length c = as_long c.args.pieces.now.items c.args.c c.index_mut.result.now c.swap_entry.new.entries c.index_mut.ensures.value c.requires.within c.swap_entry.ensures.length
