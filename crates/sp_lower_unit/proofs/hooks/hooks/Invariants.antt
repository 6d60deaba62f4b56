use Rattle.std.proofs.Common.{◌≡◌, ℕ, length, drop}
use Rattle.sp_code.specs.Shapes.{Round}
use Rattle.sp_code_programs.specs.units.Bodies.{hooks_code}
use Rattle.sp_code_programs.specs.units.Units.{unit_shape}
use Rattle.sp_lower_unit.specs.Handed.{handed_locals}
use Rattle.sp_lower_unit.proofs.Joined.{Row}
use Rattle.sp_lower_unit.proofs.hooks.hooks.Given as goal

abbrev pub invariant-loop-body : goal.invariant-loop-body
invariant-loop-body l =
    (u : ℕ) (r : Round) → l.fn.out.now ≡ unit_shape u r
    → Row (hooks_code (unit_shape u r) (length l.list.functions) (handed_locals l.handed)) (unit_shape u r) l.fn.out l.out l.bodies (drop l.body-index l.bodies)
