use Rattle.std.proofs.Common.{◌≡◌, ◌+◌, ◌*◌, drop}
use Rattle.sp_types.specs.Types.{tys}
use Rattle.sp_types.specs.inside.Codes.{ty_size, tys_size}
use Rattle.sp_rule_bodies.specs.StmtTests.{are_printable}
use Rattle.sp_rule_bodies.proofs.printable.+printable.Given as goal

abbrev pub decreases-is_printable : goal.decreases-is_printable
decreases-is_printable l = 2 * ty_size l.t.now + 1

abbrev pub decreases-are_printable : goal.decreases-are_printable
decreases-are_printable l = 2 * tys_size (tys l.parts.now)

abbrev pub invariant-are_printable-loop-part : goal.invariant-are_printable-loop-part
invariant-are_printable-loop-part l = are_printable (tys (drop l.part-index l.parts)) ≡ are_printable (tys l.parts)
