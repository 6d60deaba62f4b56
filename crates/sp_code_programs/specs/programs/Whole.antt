-- The program of a list of modules: the code of all bodies, behind it that of all units, and behind that a starter of each unit.
use Rattle.std.specs.Prelude.{◌≡◌, ℕ, ◌+◌, List, ◌++◌}
use Rattle.sp_base.specs.declared.places.Limits.{Limits}
use Rattle.sp_typed_units.specs.declared.declarations.Typed.{Typed}
use Rattle.sp_meaning.specs.Globals.{globals_of}
use Rattle.sp_code.specs.declared.program.Program.{Program}
use Rattle.sp_code.specs.Machine.{Plain}
use Rattle.sp_code.specs.Shapes.{Shapes}
use Rattle.sp_code.specs.Programs.{plain_of, shapes_of}
use Rattle.sp_code_programs.specs.exprs.Marked.{Marked}
use Rattle.sp_code_programs.specs.programs.Routines.{Routine, routines_of}
use Rattle.sp_meaning.specs.Names.{hook_names_of, value_names_of}
use Rattle.sp_code_programs.specs.programs.Currents.{currents_of}
use Rattle.sp_code_programs.specs.programs.Units.{units_code, units_end, unit_entries, starters_code, kinds_of_units}
use Rattle.sp_code_programs.specs.programs.Programs.{bodies_end, program_code, IsLaid}

-- all bodies
abbrev pub all_routines : Typed → List Routine
all_routines list = routines_of (hook_names_of list) (currents_of list) list

-- where the code of units begins, and where that of starters does
abbrev pub units_start : Typed → ℕ
units_start list = bodies_end (hook_names_of list) (currents_of list) list

abbrev pub starters_start : Typed → ℕ
starters_start list = units_end list (units_start list) 0 list.units

-- where the starter of a unit stands: each has two instructions
abbrev pub starter_at : Typed → ℕ → ℕ
starter_at list u = starters_start list + (u + u)

-- what stands behind the bodies
abbrev pub behind_bodies : Typed → List Marked
behind_bodies list = units_code list (units_start list) 0 list.units ++ starters_code list 0 list.units

-- all its code
abbrev pub whole_code : Typed → List Marked
whole_code list = program_code (hook_names_of list) (currents_of list) list (behind_bodies list)

-- A program and its shapes are those of a list of modules: its code and its tables. They hang on the list alone, but for the numbers of
-- constants and the limits.
pub record IsProgramOf (list : Typed) (p : Plain) (shapes : Shapes) : Type 0 where
  pub laid : IsLaid p shapes (hook_names_of list) (currents_of list) list (behind_bodies list)
  pub units : p.units ≡ unit_entries list (units_start list) 0 list.units
  pub kinds : shapes.units ≡ kinds_of_units (globals_of list).ranges list.units
  pub names : p.names ≡ value_names_of list

-- So is a compiled program, whatever its limits.
abbrev pub IsCompiled : Typed → Program → Type 0
IsCompiled list p = (limits : Limits) → IsProgramOf list (plain_of limits p) (shapes_of p)
