use Rattle.std.proofs.Common.{◌≡◌, ◌+◌, ◌*◌, drop}
use Rattle.sp_types.specs.Types.{tys, all_same}
use Rattle.sp_types.specs.inside.Codes.{ty_size, tys_size}
use Rattle.sp_types.proofs.+same.Given as goal

abbrev pub decreases-types::Type::same : goal.decreases-types::Type::same
decreases-types::Type::same l = 2 * ty_size l.self.now + 1

abbrev pub decreases-compare::all_same : goal.decreases-compare::all_same
decreases-compare::all_same l = 2 * tys_size (tys l.ts.now)

abbrev pub invariant-compare::all_same-loop-i : goal.invariant-compare::all_same-loop-i
invariant-compare::all_same-loop-i l = all_same (tys (drop l.i l.ts)) (tys (drop l.i l.us)) ≡ all_same (tys l.ts) (tys l.us)
