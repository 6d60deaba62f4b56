use Rattle.std.proofs.Common.{◌≡◌, ◌++◌, drop, map}
use Rattle.sp_type_hook_order.proofs.order.numbers_of.Given as goal

abbrev pub invariant-loop-i : goal.invariant-loop-i
invariant-loop-i l = l.numbers.items ++ map (λ x. x.1) (drop l.i l.all) ≡ map (λ x. x.1) l.all
