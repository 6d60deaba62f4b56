use Rattle.std.proofs.Common.{◌≡◌, map, sym, subst, ◌∙◌}
use Rattle.std.specs.List.Sorted.{IsPermutation, IsSorted}
use Rattle.std.proofs.lemmas.Result.{IfOk-weaker}
use Rattle.sp_type_hook_order.specs.Order.{numbers, rank_of, order_by, run_order}
use Rattle.sp_type_hook_order.proofs.Orders.{moved, sorted, is_run_order}
use Rattle.sp_type_hook_order.proofs.order.run_order.Goals as goal

each : (c : goal.After-drop-all) → IsPermutation (numbers 0 c.args.ranks.now) (map (λ x. x.1) c.deref.result.now)
each c =
    let ranks = c.args.ranks.now in
    let made = c.in_ok-all.ensures in
    subst (λ l. IsPermutation (numbers 0 ranks) (map (λ x. x.1) l)) (sym c.deref.ensures.value)
    (moved (λ x. x.0.0) (λ x. x.1) ranks c.in_ok-all.all.items c.sort_unstable.new.self.items made.numbers c.sort_unstable.ensures.permutation)

falls : (c : goal.After-drop-all) → IsSorted (order_by (rank_of c.args.ranks.now)) (map (λ x. x.1) c.deref.result.now)
falls c =
    let ranks = c.args.ranks.now in
    let made = c.in_ok-all.ensures in
    subst (λ l. IsSorted (order_by (rank_of ranks)) (map (λ x. x.1) l)) (sym c.deref.ensures.value)
    (sorted (λ x. x.0.0) (λ x. x.1) ranks c.in_ok-all.all.items c.sort_unstable.new.self.items made.ranks made.numbers c.sort_unstable.ensures.permutation c.sort_unstable.ensures.sorted)

pub returns-clause-each : goal.returns-clause-each
returns-clause-each c =
    IfOk-weaker c.numbers_of.result (λ v. v.items ≡ map (λ x. x.1) c.deref.result.now) (λ v. IsPermutation (numbers 0 c.args.ranks.now) v.items)
    (λ v is. subst (IsPermutation (numbers 0 c.args.ranks.now)) (sym is) (each c)) c.numbers_of.ensures

pub returns-clause-falls : goal.returns-clause-falls
returns-clause-falls c =
    IfOk-weaker c.numbers_of.result (λ v. v.items ≡ map (λ x. x.1) c.deref.result.now) (λ v. IsSorted (order_by (rank_of c.args.ranks.now)) v.items)
    (λ v is. subst (IsSorted (order_by (rank_of c.args.ranks.now))) (sym is) (falls c)) c.numbers_of.ensures

pub returns-clause-order : goal.returns-clause-order
returns-clause-order c =
    IfOk-weaker c.numbers_of.result (λ v. v.items ≡ map (λ x. x.1) c.deref.result.now) (λ v. v.items ≡ run_order c.args.ranks.now)
    (λ v is. is ∙ is_run_order c.args.ranks.now (map (λ x. x.1) c.deref.result.now) (each c) (falls c)) c.numbers_of.ensures
