use Rattle.std.proofs.Common.{ap, sym, ◌∙◌, subst}
use Rattle.sp_value.specs.Ascending.{IsAscending}
use Rattle.sp_value.specs.Pieces.{all_in, NoneEmpty}
use Rattle.sp_value.proofs.PieceKeys.{after_put}
use Rattle.sp_value.proofs.keys.put_own.Goals as goal

pub returns-in-Some-clause-pieces : goal.returns-in-Some-clause-pieces
returns-in-Some-clause-pieces g c = record {
  none_empty = c.put_item.ensures.none_empty;
  ascending = after_put g.T.Keyed.key c.put_item.result c.args.item (all_in c.args.pieces.now.value.items) (all_in c.in-Some.own.now.items) (all_in c.put_item.new.pieces.items) c.requires.ascending (ap (λ v. all_in v.items) c.in-Some.ensures.value) c.put_item.ensures.ok c.put_item.ensures.err;
}

pub returns-in_ok-pieces-in-None-clause-pieces : goal.returns-in_ok-pieces-in-None-clause-pieces
returns-in_ok-pieces-in-None-clause-pieces g c =
    let whole = ap (λ v. v.items) c.in_ok-pieces-in-None.ensures.ok in
    record {
      none_empty = subst NoneEmpty (sym whole) c.put_item-in-None.ensures.none_empty;
      ascending = subst (λ ps. IsAscending g.T.Keyed.key (all_in ps)) (sym whole)
          (after_put g.T.Keyed.key c.put_item-in-None.result c.args.item (all_in c.args.pieces.now.value.items) (all_in c.in_ok-copy-in-None.copy.items) (all_in c.put_item-in-None.new.pieces.items) c.requires.ascending (c.in_ok-copy-in-None.ensures.all ∙ ap (λ v. all_in v.items) c.deref-in-None.ensures) c.put_item-in-None.ensures.ok c.put_item-in-None.ensures.err);
    }
