-- That the code of a starter keeps to its shapes, and that a machine which is started on a unit does.
use Rattle.std.specs.Prelude.{◌≡◌, ℕ, List, [], Some, slice_get}
use Rattle.sp_value.specs.Val.{Val}
use Rattle.sp_methods.specs.Kinds.{Have}
use Rattle.sp_typed_units.specs.declared.declarations.Typed.{Typed}
use Rattle.sp_typed_units.specs.declared.declarations.Unit.{Unit as TypedUnit}
use Rattle.sp_code.specs.Machine.{Plain}
use Rattle.sp_code.specs.Shapes.{UnitKinds, Shapes, Shaped}
use Rattle.sp_code_programs.specs.exprs.Marked.{Shows}
use Rattle.sp_code_programs.specs.units.Units.{unit_code, ending_code, failing_code, starter_kinds, starter_code, HasUnit}
use Rattle.sp_law_code.specs.exprs.Laws.{AllKeep}
use Rattle.sp_law_code.specs.units.Fits.{UnitFits}
use Rattle.sp_law_code.specs.units.Keeps.{AreKindsOf}
use Rattle.sp_law_programs.specs.unit_told.Told.{started}

-- Where a program has such a unit with the shapes of its code, whose kinds are those of its parameters, and the shapes of a starter of
-- it, each instruction of the starter keeps to them.
abbrev pub StartersKeep : Type 0
StartersKeep =
    (p : Plain) (shapes : Shapes) (list : Typed) (u : ℕ) (x : TypedUnit) → UnitFits p shapes list u x → (code : HasUnit p list u x) →
    Shows shapes.at code.start (unit_code list code.start u x) → Shows shapes.at code.ending (ending_code list u) → Shows shapes.at code.failing (failing_code list u) →
    (kinds : UnitKinds) → slice_get shapes.units u ≡ Some kinds → AreKindsOf x (starter_kinds list x) kinds →
    (at : ℕ) → Shows shapes.at at (starter_code list u x) → AllKeep p shapes at (starter_code list u x)

-- A machine before a starter keeps to the shapes, if the arguments are of the kinds of the parameters.
abbrev pub StartedKeeps : Type 0
StartedKeeps =
    (p : Plain) (shapes : Shapes) (list : Typed) (u : ℕ) (x : TypedUnit) (at : ℕ) → Shows shapes.at at (starter_code list u x) →
    (ws : List Val) → Have [] (starter_kinds list x) ws → Shaped p shapes (started at ws)
