use Rattle.std.proofs.Common.{ap, sym, ◌∙◌, subst}
use Rattle.sp_value.specs.Ascending.{entry_key, IsAscending}
use Rattle.sp_value.specs.Pieces.{all_in, NoneEmpty}
use Rattle.sp_value.proofs.PieceKeys.{after_swap}
use Rattle.sp_value.proofs.swap.swap_in_map.Goals as goal

pub returns-in-Some-clause-pieces : goal.returns-in-Some-clause-pieces
returns-in-Some-clause-pieces c = record {
  none_empty = c.map_swap.ensures.none_empty;
  ascending = after_swap c.map_swap.result c.args.key.now c.args.x.now (all_in c.args.pieces.now.value.items) (all_in c.in-Some.own.now.items) (all_in c.map_swap.new.pieces.items) c.requires.ascending (ap (λ v. all_in v.items) c.in-Some.ensures.value) c.map_swap.ensures.ok c.map_swap.ensures.err;
}

pub returns-in_ok-pieces-in-None-clause-pieces : goal.returns-in_ok-pieces-in-None-clause-pieces
returns-in_ok-pieces-in-None-clause-pieces c =
    let whole = ap (λ v. v.items) c.in_ok-pieces-in-None.ensures.ok in
    record {
      none_empty = subst NoneEmpty (sym whole) c.map_swap-in-None.ensures.none_empty;
      ascending = subst (λ ps. IsAscending entry_key (all_in ps)) (sym whole)
          (after_swap c.map_swap-in-None.result c.args.key.now c.in_ok-taken-in-None.taken (all_in c.args.pieces.now.value.items) (all_in c.in_ok-copy-in-None.copy.items) (all_in c.map_swap-in-None.new.pieces.items) c.requires.ascending (c.in_ok-copy-in-None.ensures.all ∙ ap (λ v. all_in v.items) c.deref-in-None.ensures) c.map_swap-in-None.ensures.ok c.map_swap-in-None.ensures.err);
    }
