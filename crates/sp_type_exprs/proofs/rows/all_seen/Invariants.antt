use Rattle.std.proofs.Common.{◌≡◌, map, take}
use Rattle.sp_type_operands.specs.Literals.{seen}
use Rattle.sp_type_exprs.proofs.rows.all_seen.Given as goal

abbrev pub invariant-loop-e : goal.invariant-loop-e
invariant-loop-e l = l.all.items ≡ map seen (take l.e-index l.list)
