-- That the code of units keeps to its shapes, and that it can be entered.
use Rattle.std.specs.Prelude.{◌≡◌, ℕ, List, [], ◌∷◌, length, reverse, Some, slice_get}
use Rattle.sp_methods.specs.Kinds.{Kind, UnitOf}
use Rattle.sp_typed_units.specs.declared.declarations.Typed.{Typed}
use Rattle.sp_typed_units.specs.declared.declarations.Unit.{Unit as TypedUnit}
use Rattle.sp_code.specs.declared.instr.Instr.TheVariants as does
use Rattle.sp_code.specs.Machine.{Plain}
use Rattle.sp_code.specs.Shapes.{UnitKinds, Shape, Shapes, OfUnit, OfEnding, OfFailing, Shown, Takes, Keeps}
use Rattle.sp_code_programs.specs.exprs.Marked.{Shows}
use Rattle.sp_code_programs.specs.units.Units.{slot_kinds, unit_shape, unit_code, ending_code, failing_code, HasUnit}
use Rattle.sp_law_code.specs.exprs.Laws.{AllKeep}
use Rattle.sp_law_code.specs.units.Fits.{UnitFits}

-- Where a program has the shapes of the code of a unit whose parts fit, each instruction of the code keeps to them, and the code begins
-- with the shape before it: that of its parts, that behind them, and that of its failing.
abbrev pub UnitsKeep : Type 0
UnitsKeep =
    (p : Plain) (shapes : Shapes) (list : Typed) (u : ℕ) (x : TypedUnit) → UnitFits p shapes list u x → (at : ℕ) →
    (Shows shapes.at at (unit_code list at u x) → AllKeep p shapes at (unit_code list at u x) × Shown p shapes at (unit_shape u OfUnit))
    × (Shows shapes.at at (ending_code list u) → AllKeep p shapes at (ending_code list u) × Shown p shapes at (unit_shape u OfEnding))
    × (Shows shapes.at at (failing_code list u) → AllKeep p shapes at (failing_code list u) × Shown p shapes at (unit_shape u OfFailing))

-- the kinds of a unit, which takes operands of these kinds, the top first
pub record AreKindsOf (x : TypedUnit) (ins : List Kind) (kinds : UnitKinds) : Type 0 where
  pub takes : length ins ≡ length x.parameters
  pub parameters : kinds.parameters ≡ reverse ins
  pub members : length kinds.members ≡ length x.members
  pub locals : kinds.locals ≡ slot_kinds

-- Where a program has such a unit with the shapes of its code, what enters the unit keeps to the shapes, if its operands are of the kinds
-- of the unit's parameters, and behind it the unit is on top of what was below them.
abbrev pub UnitsEnter : Type 0
UnitsEnter =
    (p : Plain) (shapes : Shapes) (list : Typed) (u : ℕ) (x : TypedUnit) → UnitFits p shapes list u x → (code : HasUnit p list u x) →
    Shows shapes.at code.start (unit_code list code.start u x) → Shows shapes.at code.ending (ending_code list u) → Shows shapes.at code.failing (failing_code list u) →
    (kinds : UnitKinds) (ins : List Kind) → slice_get shapes.units u ≡ Some kinds → AreKindsOf x ins kinds →
    (pc : ℕ) (s : Shape) → Takes p shapes pc s ins (UnitOf u ∷ []) → Keeps p shapes (does.EnterUnit u) pc s
