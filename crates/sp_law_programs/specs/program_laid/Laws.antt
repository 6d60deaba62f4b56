-- What is true of a program that is laid out of a list of modules.
use Rattle.std.specs.Prelude.{◌≡◌, ℕ, ◌+◌, List, length, reverse, Some, None, slice_get}
use Rattle.sp_methods.specs.Kinds.{Kind}
use Rattle.sp_typed_units.specs.declared.declarations.Function.{Function}
use Rattle.sp_typed_units.specs.declared.declarations.Hook.{Hook}
use Rattle.sp_typed_units.specs.declared.declarations.Typed.{Typed}
use Rattle.sp_meaning_states.specs.Scopes as called_is
use Rattle.sp_meaning_states.specs.Types.{kind_of_type}
use Rattle.sp_meaning.specs.Globals.{globals_of}
use Rattle.sp_meaning.specs.Hooks.{is_foreach}
use Rattle.sp_code.specs.Machine.{Plain}
use Rattle.sp_code.specs.Shapes.{Shapes, OfFunction, OfHook, Enters, IsSound}
use Rattle.sp_code.specs.Turns.{Turns}
use Rattle.sp_code_programs.specs.exprs.Marked.{Marked, HasAt, Shows}
use Rattle.sp_code_programs.specs.exprs.Code.{kind_at}
use Rattle.sp_code_programs.specs.units.Bodies.{HasBodies}
use Rattle.sp_code_programs.specs.programs.Routines.{hook_unit, parameter_kinds, handed_kinds, routines_of}
use Rattle.sp_code_programs.specs.programs.Programs.{entries_from, kinds_of_locals, bodies_end, program_code, IsLaid}
use Rattle.sp_law_code.specs.exprs.Laws.{AllKeep}
use Rattle.sp_law_code.specs.bodies.Parts.{BodiesAreCounted}
use Rattle.sp_law_code.specs.turns.Falling.{AllTurn}
use Rattle.sp_law_programs.specs.program_laid.Fits.{BodiesFit}
use Rattle.sp_law_programs.specs.program_laid.Places.{StmtChangesPlaces}
use Rattle.sp_law_programs.specs.program_laid.Turning.{BodiesKeepToLoops}
use Rattle.sp_law_meaning.specs.Standing.{BodiesStand}

-- A program that is laid out has all bodies of the list, so that the laws of functions and hooks are ones of it.
abbrev pub LaidProgramsHaveBodies : Type 0
LaidProgramsHaveBodies =
    (p : Plain) (shapes : Shapes) (hook_names : List (List ℕ)) (currents : List Kind) (list : Typed) (rest : List Marked) →
    IsLaid p shapes hook_names currents list rest → HasBodies p hook_names list

-- What is laid out behind the bodies stands where they end, and its shapes are shown there.
abbrev pub WhatFollowsStands : Type 0
WhatFollowsStands =
    (p : Plain) (shapes : Shapes) (hook_names : List (List ℕ)) (currents : List Kind) (list : Typed) (rest : List Marked) →
    IsLaid p shapes hook_names currents list rest →
    HasAt p (bodies_end hook_names currents list) rest × Shows shapes.at (bodies_end hook_names currents list) rest

-- And where all of it stands at the beginning of a program, with its shapes and nothing behind, the program is so laid out.
abbrev pub WhatStandsIsLaid : Type 0
WhatStandsIsLaid =
    (p : Plain) (shapes : Shapes) (hook_names : List (List ℕ)) (currents : List Kind) (list : Typed) (rest : List Marked) →
    p.bodies ≡ entries_from 0 (routines_of hook_names currents list) → shapes.bodies ≡ kinds_of_locals (routines_of hook_names currents list) →
    HasAt p 0 (program_code hook_names currents list rest) → length p.code ≡ length (program_code hook_names currents list rest) →
    Shows shapes.at 0 (program_code hook_names currents list rest) → length shapes.at ≡ length (program_code hook_names currents list rest) →
    IsLaid p shapes hook_names currents list rest

-- A function of such a program can be called from anywhere with values of the kinds of its parameters, the last on top, and gives a value
-- of the kind of its result, if what its body changes are places.
abbrev pub LaidFunctionsEnter : Type 0
LaidFunctionsEnter =
    (p : Plain) (shapes : Shapes) (hook_names : List (List ℕ)) (currents : List Kind) (list : Typed) (rest : List Marked) →
    IsLaid p shapes hook_names currents list rest →
    (f : ℕ) (x : Function) → slice_get list.functions f ≡ Some x → StmtChangesPlaces x.body →
    Enters p shapes f None called_is.Called.Function (OfFunction (kind_of_type (globals_of list).ranges x.result)) (reverse (parameter_kinds (globals_of list).ranges x.parameters))

-- A body of a hook can be run in its unit with what the hook hands to it.
abbrev pub LaidHooksEnter : Type 0
LaidHooksEnter =
    (p : Plain) (shapes : Shapes) (hook_names : List (List ℕ)) (currents : List Kind) (list : Typed) (rest : List Marked) →
    IsLaid p shapes hook_names currents list rest →
    (h : ℕ) (x : Hook) → slice_get list.hooks h ≡ Some x → StmtChangesPlaces x.body →
    Enters p shapes (length list.functions + h) (hook_unit x.of) (called_is.Called.Hook (is_foreach x.of)) (OfHook (is_foreach x.of)) (reverse (handed_kinds (globals_of list).ranges (kind_at currents h) x))

-- A program that is laid out is sound where its bodies fit, and what stands behind them keeps to its shapes.
abbrev pub LaidProgramsAreSound : Type 0
LaidProgramsAreSound =
    (p : Plain) (shapes : Shapes) (hook_names : List (List ℕ)) (currents : List Kind) (list : Typed) (rest : List Marked) →
    IsLaid p shapes hook_names currents list rest → BodiesFit p shapes currents list → AllKeep p shapes (bodies_end hook_names currents list) rest →
    IsSound p shapes

-- Where all bodies fit, each break and each continue in them stands in a loop.
abbrev pub FittingBodiesKeepToLoops : Type 0
FittingBodiesKeepToLoops = (p : Plain) (shapes : Shapes) (currents : List Kind) (list : Typed) → BodiesFit p shapes currents list → BodiesKeepToLoops list

-- A program that is laid out counts a turn in each cycle where its bodies keep to their loops, and what stands behind them counts a turn
-- in each cycle and leads nowhere else without one.
abbrev pub LaidProgramsTurn : Type 0
LaidProgramsTurn =
    (p : Plain) (shapes : Shapes) (hook_names : List (List ℕ)) (currents : List Kind) (list : Typed) (rest : List Marked) →
    IsLaid p shapes hook_names currents list rest → BodiesKeepToLoops list → AllTurn (bodies_end hook_names currents list) rest →
    Turns p

-- Each call in the bodies of a program that is laid out has as many values as the program's function takes, if it has as many arguments
-- as the function of the list has parameters.
abbrev pub LaidProgramsCount : Type 0
LaidProgramsCount =
    (p : Plain) (shapes : Shapes) (hook_names : List (List ℕ)) (currents : List Kind) (list : Typed) (rest : List Marked) →
    IsLaid p shapes hook_names currents list rest → BodiesStand list →
    BodiesAreCounted p list
