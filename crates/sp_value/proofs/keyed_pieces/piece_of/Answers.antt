use Rattle.std.proofs.Common.{Ok, Err, sym, subst, rules}
use Rattle.std.proofs.lemmas.Fn.{always_returns_same}
use Rattle.sp_value.specs.Order.{val_cmp}
use Rattle.sp_value.specs.Pieces.{first_key, IsIn}
use Rattle.sp_value.proofs.Search.{place_found}
use Rattle.sp_value.proofs.PieceKeys.{piece_key, firsts_ascend, piece_found, piece_of_gap}
use Rattle.sp_value.proofs.keyed_pieces.piece_of.Goals as goal

pub returns-in-Ok-clause-place : goal.returns-in-Ok-clause-place
returns-in-Ok-clause-place g c =
    let key = g.T.Keyed.key in
    let facts = c.in-Ok.ensures in
    let firsts = firsts_ascend key c.args.pieces.now c.requires.pieces.none_empty c.requires.pieces.ascending in
    piece_found key c.args.key.now c.args.pieces.now c.in-Ok.c c.requires.pieces facts.bound
    (place_found (piece_key key) c.args.pieces.now c.args.key.now (Ok c.in-Ok.c) firsts facts.bound (facts.position (λ p. val_cmp (first_key key p.value.items) c.args.key.now) (always_returns_same _ _ _ (λ a r f called. search rules))))

pub returns-in-Err-clause-place : goal.returns-in-Err-clause-place
returns-in-Err-clause-place g c =
    let key = g.T.Keyed.key in
    let facts = c.in-Err.ensures in
    let firsts = firsts_ascend key c.args.pieces.now c.requires.pieces.none_empty c.requires.pieces.ascending in
    subst (IsIn key c.args.key.now c.args.pieces.now) (sym c.saturating_sub.ensures) (piece_of_gap key c.args.key.now c.args.pieces.now c.in-Err.c c.requires.pieces c.requires.some
    (place_found (piece_key key) c.args.pieces.now c.args.key.now (Err c.in-Err.c) firsts facts.bound (facts.position (λ p. val_cmp (first_key key p.value.items) c.args.key.now) (always_returns_same _ _ _ (λ a r f called. search rules)))))
