use Rattle.std.proofs.Common.{◌≡◌, drop}
use Rattle.sp_typed_units.specs.Parts.{parts}
use Rattle.sp_code.specs.Shapes.{Round}
use Rattle.sp_code_programs.specs.units.Units.{unit_shape, parts_code}
use Rattle.sp_lower_unit.proofs.Joined.{Row}
use Rattle.sp_lower_unit.proofs.parts.parts.Given as goal

abbrev pub invariant-loop-next : goal.invariant-loop-next
invariant-loop-next l =
    (r : Round) → l.fn.out.now ≡ unit_shape l.unit r
    → Row (λ ps. parts_code l.list l.unit (unit_shape l.unit r) l.order (parts ps)) (unit_shape l.unit r) l.fn.out l.out l.all (drop l.next-index l.all)
