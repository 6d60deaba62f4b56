-- What is true of the program of a list of modules.
use Rattle.std.specs.Prelude.{◌≡◌, ℕ, List, [], length, reverse, Some, None, slice_get}
use Rattle.sp_value.specs.Val.{Val}
use Rattle.sp_methods.specs.Kinds.{Have}
use Rattle.sp_typed_units.specs.declared.declarations.Function.{Function}
use Rattle.sp_typed_units.specs.declared.declarations.Hook.{Hook}
use Rattle.sp_typed_units.specs.declared.declarations.Member.{Member}
use Rattle.sp_typed_units.specs.declared.declarations.Parameter.{Parameter}
use Rattle.sp_typed_units.specs.declared.declarations.Typed.{Typed}
use Rattle.sp_typed_units.specs.declared.declarations.Unit.{Unit as TypedUnit}
use Rattle.sp_meaning_states.specs.States.{Reading}
use Rattle.sp_meaning_states.specs.Reads.{Ask, Read}
use Rattle.sp_meaning_states.specs.Scopes as called_is
use Rattle.sp_meaning_states.specs.Types.{kind_of_type}
use Rattle.sp_meaning.specs.Globals.{globals_of}
use Rattle.sp_code.specs.Machine.{Plain}
use Rattle.sp_code.specs.declared.program.Program.{Program}
use Rattle.sp_code.specs.Programs.{IsSoundProgram}
use Rattle.sp_code.specs.Shapes.{UnitKinds, Shapes, OfFunction, IsMember, Enters, Shaped, IsSound}
use Rattle.sp_code.specs.Turns.{Turns}
use Rattle.sp_code_programs.specs.exprs.Marked.{HasAt, Shows}
use Rattle.sp_code_programs.specs.exprs.Code.{kind_at}
use Rattle.sp_code_programs.specs.units.Bodies.{HasBodies}
use Rattle.sp_code_programs.specs.units.Units.{starter_kinds, HasUnits, HasStarter}
use Rattle.sp_code_programs.specs.programs.Routines.{parameter_kinds}
use Rattle.sp_code_programs.specs.programs.Programs.{entries_from, kinds_of_locals}
use Rattle.sp_meaning.specs.Names.{hook_names_of, value_names_of}
use Rattle.sp_code_programs.specs.programs.Currents.{current_kind, currents_of}
use Rattle.sp_code_programs.specs.programs.Units.{unit_entries, kinds_of_units}
use Rattle.sp_code_programs.specs.programs.Whole.{all_routines, units_start, starter_at, whole_code, IsProgramOf, IsCompiled}
use Rattle.sp_law_code.specs.bodies.Parts.{BodiesAreCounted}
use Rattle.sp_law_code.specs.units.Parts.{UnitsAreCounted}
use Rattle.sp_law_code.specs.units.Fits as code_units
use Rattle.sp_law_code.specs.units.Keeps.{AreKindsOf}
use Rattle.sp_law_programs.specs.program_laid.Fits.{BodiesFit}
use Rattle.sp_law_programs.specs.program_laid.Places.{StmtChangesPlaces}
use Rattle.sp_law_programs.specs.program_laid.Turning.{BodiesKeepToLoops}
use Rattle.sp_law_programs.specs.unit_told.Told.{started, meant, Starts}
use Rattle.sp_law_programs.specs.whole_program.Fits.{ListFits, AlwaysFits}
use Rattle.sp_law_programs.specs.whole_program.Meant.{list_means}

-- A program is that of a list where all code of the list stands at its beginning, with its shapes and nothing behind, and its tables are
-- those of the list.
abbrev pub WhatStandsIsTheProgram : Type 0
WhatStandsIsTheProgram =
    (list : Typed) (p : Plain) (shapes : Shapes) → HasAt p 0 (whole_code list) → length p.code ≡ length (whole_code list) → Shows shapes.at 0 (whole_code list) → length shapes.at ≡ length (whole_code list) →
    p.bodies ≡ entries_from 0 (all_routines list) → shapes.bodies ≡ kinds_of_locals (all_routines list) →
    p.units ≡ unit_entries list (units_start list) 0 list.units → shapes.units ≡ kinds_of_units (globals_of list).ranges list.units → p.names ≡ value_names_of list →
    IsProgramOf list p shapes

-- Such a program has all bodies of the list, all its units, and a starter of each where that is said to stand.
abbrev pub ProgramsHaveBodies : Type 0
ProgramsHaveBodies = (list : Typed) (p : Plain) (shapes : Shapes) → IsProgramOf list p shapes → HasBodies p (hook_names_of list) list

abbrev pub ProgramsHaveUnits : Type 0
ProgramsHaveUnits = (list : Typed) (p : Plain) (shapes : Shapes) → IsProgramOf list p shapes → HasUnits p list

abbrev pub ProgramsHaveStarters : Type 0
ProgramsHaveStarters =
    (list : Typed) (p : Plain) (shapes : Shapes) → IsProgramOf list p shapes → (u : ℕ) (x : TypedUnit) → slice_get list.units u ≡ Some x → HasStarter p list (starter_at list u) u x

-- Starters stand at the very end of its code, and its table has as many units as the list, so that the address of each starter is known
-- from the program alone.
abbrev pub StartersAreLast : Type 0
StartersAreLast = (list : Typed) (p : Plain) (shapes : Shapes) → IsProgramOf list p shapes → (length p.code ≡ starter_at list (length list.units)) × (length p.units ≡ length list.units)

-- What a unit means in such a program it means by the list.
abbrev pub UnitsMeanTheirs : Type 0
UnitsMeanTheirs =
    (list : Typed) (p : Plain) (shapes : Shapes) → IsProgramOf list p shapes → (reads : Reading → Ask → Read) (n u : ℕ) (ws : List Val) →
    meant p (hook_names_of list) list reads n u ws ≡ list_means list p.limits reads n u ws

-- Its shapes have the kinds of each unit, which takes what its starter does.
abbrev pub UnitsHaveKinds : Type 0
UnitsHaveKinds =
    (list : Typed) (p : Plain) (shapes : Shapes) → IsProgramOf list p shapes → (u : ℕ) (x : TypedUnit) → slice_get list.units u ≡ Some x →
    (kinds : UnitKinds) × (slice_get shapes.units u ≡ Some kinds) × AreKindsOf x (starter_kinds list x) kinds

-- They have each member and each parameter of a unit with the kind of its type.
abbrev pub MembersAreListed : Type 0
MembersAreListed =
    (list : Typed) (p : Plain) (shapes : Shapes) → IsProgramOf list p shapes → (u : ℕ) (x : TypedUnit) → slice_get list.units u ≡ Some x →
    ((m : ℕ) (y : Member) → slice_get x.members m ≡ Some y → IsMember p shapes u m (kind_of_type (globals_of list).ranges y.ty))
    × ((n : ℕ) (y : Parameter) → slice_get x.parameters n ≡ Some y → (t : UnitKinds) × (slice_get shapes.units u ≡ Some t) × (slice_get t.parameters n ≡ Some (kind_of_type (globals_of list).ranges y.ty)))

-- Each of its functions can be called with values of the kinds of its parameters, the last on top, and gives a value of the kind of its
-- result, if what its body changes are places.
abbrev pub FunctionsAreEntered : Type 0
FunctionsAreEntered =
    (list : Typed) (p : Plain) (shapes : Shapes) → IsProgramOf list p shapes → (f : ℕ) (x : Function) → slice_get list.functions f ≡ Some x → StmtChangesPlaces x.body →
    Enters p shapes f None called_is.Called.Function (OfFunction (kind_of_type (globals_of list).ranges x.result)) (reverse (parameter_kinds (globals_of list).ranges x.parameters))

-- the kind of `$$` in a body of a hook is the one of its number
abbrev pub CurrentsAreListed : Type 0
CurrentsAreListed = (list : Typed) (h : ℕ) (x : Hook) → slice_get list.hooks h ≡ Some x → kind_at (currents_of list) h ≡ current_kind (globals_of list).ranges list.units h x

-- Where bodies and units fit in its tables, the program is sound.
abbrev pub ProgramsAreSound : Type 0
ProgramsAreSound =
    (list : Typed) (p : Plain) (shapes : Shapes) → IsProgramOf list p shapes → BodiesFit p shapes (currents_of list) list →
    ((u : ℕ) (x : TypedUnit) → slice_get list.units u ≡ Some x → code_units.UnitFits p shapes list u x) → IsSound p shapes

-- Where its bodies keep to their loops, each of its cycles counts a turn, whatever its units are.
abbrev pub ProgramsTurn : Type 0
ProgramsTurn = (list : Typed) (p : Plain) (shapes : Shapes) → IsProgramOf list p shapes → BodiesKeepToLoops list → Turns p

-- Where the list fits, so do its units in the tables of the program.
abbrev pub ListedUnitsFit : Type 0
ListedUnitsFit =
    (list : Typed) (p : Plain) (shapes : Shapes) → IsProgramOf list p shapes → ListFits list p shapes → (u : ℕ) (x : TypedUnit) → slice_get list.units u ≡ Some x → code_units.UnitFits p shapes list u x

-- Then calls and hooks in bodies and units have as many values as they take.
abbrev pub ListedCallsCount : Type 0
ListedCallsCount = (list : Typed) (p : Plain) (shapes : Shapes) → IsProgramOf list p shapes → ListFits list p shapes → BodiesAreCounted p list × UnitsAreCounted p list

-- So the program is sound, and each of its cycles counts a turn.
abbrev pub FittingProgramsAreSound : Type 0
FittingProgramsAreSound = (list : Typed) (p : Plain) (shapes : Shapes) → IsProgramOf list p shapes → ListFits list p shapes → IsSound p shapes × Turns p

-- So is a compiled program of a list that fits, whatever its limits.
abbrev pub CompiledListsAreSound : Type 0
CompiledListsAreSound = (list : Typed) (p : Program) → IsCompiled list p → AlwaysFits list → IsSoundProgram p

-- It starts each unit with as many arguments as the unit has parameters, so that a machine which is started on the unit tells what the
-- unit means; and where the arguments are of the kinds of the parameters, the machine begins as its shapes say.
abbrev pub FittingProgramsStart : Type 0
FittingProgramsStart =
    (list : Typed) (p : Plain) (shapes : Shapes) → IsProgramOf list p shapes → ListFits list p shapes → (u : ℕ) (x : TypedUnit) → slice_get list.units u ≡ Some x → (ws : List Val) →
    (length ws ≡ length x.parameters → Starts p (hook_names_of list) list (starter_at list u) u ws)
    × (Have [] (starter_kinds list x) ws → Shaped p shapes (started (starter_at list u) ws))
