-- All code of a list, and the program that is made of it.
use Rattle.std.specs.Prelude.{◌≡◌, List}
use Rattle.sp_typed_units.specs.declared.declarations.Typed.{Typed}
use Rattle.sp_meaning.specs.Globals.{globals_of}
use Rattle.sp_code.specs.declared.program.Labels.{Labels}
use Rattle.sp_code.specs.declared.program.Ranges.{Ranges}
use Rattle.sp_code.specs.declared.program.Program.{Program}
use Rattle.sp_code.specs.Programs.{bodies_of, units_of, member_names, label_names, range_names, unit_kinds, body_kinds}
use Rattle.sp_emit.specs.Emitted.{Emitted}
use Rattle.sp_emit.specs.Emission.{IsEmission}
use Rattle.sp_code_programs.specs.programs.Programs.{entries_from, kinds_of_locals}
use Rattle.sp_meaning.specs.Names.{names_of_members, names_of_labels, names_of_ranges}
use Rattle.sp_code_programs.specs.programs.Units.{unit_entries, kinds_of_units}
use Rattle.sp_code_programs.specs.programs.Whole.{all_routines, units_start, whole_code, IsCompiled}
use Rattle.sp_lower.specs.declared.programs.Code.{Code}

-- What was emitted is all code of a list, and the tables of bodies and units are those of the list.
pub record IsCode (list : Typed) (code : Code) : Type 0 where
  pub emitted : Emitted
  pub emission : IsEmission emitted code.emission
  pub marks : emitted.marks ≡ whole_code list
  pub entries : bodies_of code.bodies.entries.items ≡ entries_from 0 (all_routines list)
  pub locals : body_kinds emitted.kinds code.bodies.locals.items ≡ kinds_of_locals (all_routines list)
  pub units : units_of code.units.items ≡ unit_entries list (units_start list) 0 list.units
  pub members : member_names code.units.items ≡ names_of_members list.units
  pub kinds : unit_kinds emitted.kinds code.units.items ≡ kinds_of_units (globals_of list).ranges list.units

-- With the names of labels and of ranges it is the program of the list.
abbrev pub IsAssembled : Code → List Labels → List Ranges → Program → Type 0
IsAssembled code enums bitfields p =
    (list : Typed) → IsCode list code → label_names enums ≡ names_of_labels list.enums → range_names bitfields ≡ names_of_ranges list.bitfields → IsCompiled list p
