-- What is true of the meaning of a unit that a program runs.
use Rattle.std.specs.Prelude.{◌≡◌, ℕ}
use Rattle.sp_base.specs.declared.places.Limits.{Limits}
use Rattle.sp_typed_units.specs.declared.declarations.Typed.{Typed}
use Rattle.sp_code.specs.declared.program.Program.{Program}
use Rattle.sp_code.specs.Programs.{plain_of, shapes_of}
use Rattle.sp_meaning.specs.Steady.{IsDecided, IsSettled, IsSteady}
use Rattle.sp_session.specs.Units.{unit_meaning}
use Rattle.sp_session.specs.Session.{Runs}
use Rattle.sp_session.specs.Example.{list, program, shapes}

-- What was told stays told, whatever follows.
abbrev pub UnitsAreSteady : Type 0
UnitsAreSteady = (list : Typed) (program : Program) (limits : Limits) (u : ℕ) → Runs list program limits u → IsSteady (unit_meaning list limits u)

-- A unit that is over tells nothing more, and stands as it did.
abbrev pub UnitsAreSettled : Type 0
UnitsAreSettled = (list : Typed) (program : Program) (limits : Limits) (u : ℕ) → Runs list program limits u → IsSettled (unit_meaning list limits u)

-- Where the input has ended the unit is over.
abbrev pub UnitsAreDecided : Type 0
UnitsAreDecided = (list : Typed) (program : Program) (limits : Limits) (u : ℕ) → Runs list program limits u → IsDecided (unit_meaning list limits u)

-- A program that has the code and the tables of the example runs the example's unit.
abbrev pub ExampleRuns : Type 0
ExampleRuns = (typed : Typed) (p : Program) (limits : Limits) → typed ≡ list → ((within : Limits) → plain_of within p ≡ program within) → shapes_of p ≡ shapes → Runs typed p limits 0
