use Rattle.std.proofs.Common.{◌≡◌, ◌++◌, drop, map}
use Rattle.sp_type_hook_order.specs.Order.{numbers}
use Rattle.sp_type_hook_order.proofs.order.ranked.Given as goal

abbrev pub invariant-loop-i : goal.invariant-loop-i
invariant-loop-i l =
    (map (λ x. x.0.0) l.all.items ++ drop l.i l.ranks ≡ l.ranks)
    × (map (λ x. x.1) l.all.items ++ numbers l.i (drop l.i l.ranks) ≡ numbers 0 l.ranks)
    × (l.number ≡ l.i)
