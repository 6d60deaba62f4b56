use Rattle.std.proofs.Common.{◌+◌, sym, subst, arith}
use Rattle.sp_reasm.specs.Pieces.{owner_of}
use Rattle.sp_reasm.specs.inside.Filling.{IsKept, IsPut}
use Rattle.sp_reasm.proofs.FillLemmas.{covered_data, covered_lost, kept_free, piece_put, none_put}
use Rattle.sp_reasm.proofs.fill.put_at.Goals as goal

pub returns-in-Bytes-clause-ok : goal.returns-in-Bytes-clause-ok
returns-in-Bytes-clause-ok c = covered_data (owner_of c.args.pieces.now) c.args.start c.args.cover c.args.at c.in-Bytes.bytes.now c.in-Bytes.ensures

pub returns-in-Missing-clause-ok : goal.returns-in-Missing-clause-ok
returns-in-Missing-clause-ok c = covered_lost (owner_of c.args.pieces.now) c.args.start c.args.cover c.args.at c.in-Missing.len c.in-Missing.ensures

pub put-requires-clause-free : goal.put-requires-clause-free
put-requires-clause-free c =
    kept_free (owner_of c.args.pieces.now) (owner_of c.args.pieces.now) c.args.at c.in-Free.room c.part-part.result c.in-Some.piece (subst (λ o. IsKept c.args.at c.part-part.result o) c.in-Some.is c.in_ok-piece.ensures) c.part-part.ensures.within c.in-Free.ensures

pub returns-in_ok-put-in-Some-clause-ok : goal.returns-in_ok-put-in-Some-clause-ok
returns-in_ok-put-in-Some-clause-ok c =
    subst (λ n. IsPut (owner_of c.args.pieces.now) (owner_of c.put.new.pieces) c.args.start c.args.cover c.args.at (c.args.at + n)) (sym c.len.ensures)
    (piece_put (owner_of c.args.pieces.now) (owner_of c.put.new.pieces) c.args.start c.args.cover c.args.at c.in-Free.room c.part-part.result c.in-Some.piece (subst (λ o. IsKept c.args.at c.part-part.result o) c.in-Some.is c.in_ok-piece.ensures) c.part-part.ensures.spot c.part-part.ensures.within c.in-Free.ensures c.in_ok-put-in-Some.ensures.ok)

pub returns-in-None-clause-ok : goal.returns-in-None-clause-ok
returns-in-None-clause-ok c =
    let within = c.requires.within in
    let fits = c.requires.fits in
    subst (λ n. IsPut (owner_of c.args.pieces.now) (owner_of c.args.pieces.now) c.args.start c.args.cover c.args.at (c.args.at + n)) (sym c.len.ensures)
    (none_put (owner_of c.args.pieces.now) c.args.start c.args.cover c.args.at c.in-Free.room c.part-part.result (omega (arith, within, fits)) (subst (λ o. IsKept c.args.at c.part-part.result o) c.in-None.is c.in_ok-piece.ensures) c.part-part.ensures.spot c.part-part.ensures.within c.in-Free.ensures)
