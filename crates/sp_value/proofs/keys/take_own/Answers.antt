use Rattle.std.proofs.Common.{ap, sym, ◌∙◌, subst}
use Rattle.sp_value.specs.Ascending.{IsAscending}
use Rattle.sp_value.specs.Pieces.{all_in, NoneEmpty}
use Rattle.sp_value.proofs.PieceKeys.{after_take}
use Rattle.sp_value.proofs.keys.take_own.Goals as goal

pub returns-in-Some-clause-pieces : goal.returns-in-Some-clause-pieces
returns-in-Some-clause-pieces g c = record {
  none_empty = c.take_key.ensures.none_empty;
  ascending = after_take g.T.Keyed.key c.take_key.result c.args.key.now (all_in c.args.pieces.now.value.items) (all_in c.in-Some.own.now.items) (all_in c.take_key.new.pieces.items) c.requires.ascending (ap (λ v. all_in v.items) c.in-Some.ensures.value) c.take_key.ensures.ok c.take_key.ensures.err;
}

pub returns-in_ok-pieces-in-None-clause-pieces : goal.returns-in_ok-pieces-in-None-clause-pieces
returns-in_ok-pieces-in-None-clause-pieces g c =
    let whole = ap (λ v. v.items) c.in_ok-pieces-in-None.ensures.ok in
    record {
      none_empty = subst NoneEmpty (sym whole) c.take_key-in-None.ensures.none_empty;
      ascending = subst (λ ps. IsAscending g.T.Keyed.key (all_in ps)) (sym whole)
          (after_take g.T.Keyed.key c.take_key-in-None.result c.args.key.now (all_in c.args.pieces.now.value.items) (all_in c.in_ok-copy-in-None.copy.items) (all_in c.take_key-in-None.new.pieces.items) c.requires.ascending (c.in_ok-copy-in-None.ensures.all ∙ ap (λ v. all_in v.items) c.deref-in-None.ensures) c.take_key-in-None.ensures.ok c.take_key-in-None.ensures.err);
    }
