-- All code of a list and its tables, as a program.
use Rattle.std.proofs.Common.{◌≡◌, ℕ, suc, List, [], ◌∷◌, ◌++◌, append_assoc, length, refl, sym, ap, subst, ◌∙◌, Vec, Global}
use Rattle.sp_base.specs.declared.places.Limits.{Limits}
use Rattle.sp_methods.specs.Kinds.{Kind}
use Rattle.sp_typed_units.specs.declared.declarations.Typed.{Typed}
use Rattle.sp_meaning_states.specs.Telling.{Names}
use Rattle.sp_meaning.specs.Globals.{globals_of}
use Rattle.sp_code.specs.declared.program.Labels.{Labels}
use Rattle.sp_code.specs.declared.program.Program.{Program}
use Rattle.sp_code.specs.declared.program.Ranges.{Ranges}
use Rattle.sp_code.specs.declared.program.ShapeRow.{ShapeRow}
use Rattle.sp_code.specs.Machine.{Plain}
use Rattle.sp_code.specs.Shapes.{Opens, Shape, Shapes}
use Rattle.sp_code.specs.Programs.{kinds_from, stacks_from, opens_from, shapes_at, body_kinds, unit_kinds, label_names, range_names, plain_of, shapes_of}
use Rattle.sp_code_programs.specs.exprs.Marked.{Marked, HasAt, Shows}
use Rattle.sp_emit.specs.Emission.{IsEmission}
use Rattle.sp_emit.specs.Emitted.{Emitted}
use Rattle.sp_emit.proofs.Growing.{grows_then}
use Rattle.sp_meaning.specs.Names.{hook_names_of, names_of_members, names_of_labels, names_of_ranges}
use Rattle.sp_code_programs.specs.programs.Currents.{currents_of}
use Rattle.sp_code_programs.specs.programs.Programs.{entries_from, routines_code}
use Rattle.sp_code_programs.specs.programs.Units.{units_code, unit_entries, starters_code}
use Rattle.sp_code_programs.specs.programs.Whole.{all_routines, units_start, behind_bodies, whole_code, IsProgramOf}
use Rattle.sp_law_programs.proofs.program_laid_lemmas.Laid.{what_stands_is_laid}
use Rattle.sp_law_programs.proofs.program_laid_lemmas.Routines.{routines_sized}
use Rattle.sp_lower.specs.declared.programs.Code.{Code}
use Rattle.sp_lower.specs.inside.Laid.{LaysAll}
use Rattle.sp_lower.specs.inside.Units.{LaysUnits, AddsStarters}
use Rattle.sp_lower.specs.inside.Whole.{IsCode, IsAssembled}

-- all code of a list, where nothing was emitted before
pub code_is : (list : Typed) (a b c d : Emitted) (code : Code) → a.marks ≡ [] → LaysAll list a b code.bodies → LaysUnits list b [] c code.units.items 0 list.units → AddsStarters list c d 0 list.units
    → IsEmission d code.emission → IsCode list code
code_is list a b c d code empty all units starters emission =
    let g = globals_of list in
    let rs = all_routines list in
    let first : b.marks ≡ routines_code g 0 rs = all.marks ∙ ap (λ (l : List Marked). l ++ routines_code g (length l) rs) empty in
    let long : length b.marks ≡ units_start list = ap length first ∙ routines_sized g rs 0 in
    let of_units = units_code list (units_start list) 0 list.units in
    let of_starters = starters_code list 0 list.units in
    record {
      emitted = d;
      emission = emission;
      marks =
          starters.marks
          ∙ ap (λ (l : List Marked). l ++ of_starters) units.marks
          ∙ ap (λ n. (b.marks ++ units_code list n 0 list.units) ++ of_starters) long
          ∙ ap (λ (l : List Marked). (l ++ of_units) ++ of_starters) first
          ∙ append_assoc (routines_code g 0 rs) of_units of_starters;
      entries = all.entries ∙ ap (λ (l : List Marked). entries_from (length l) rs) empty;
      locals = all.locals d.kinds (grows_then b.kinds c.kinds d.kinds units.grown starters.kinds);
      units = units.entries ∙ ap (λ n. unit_entries list n 0 list.units) long;
      members = units.members;
      kinds = units.kinds d.kinds starters.kinds;
    }

shapes_long : (ks : List Kind) (ss : List (List ℕ)) (os : List (List Opens)) (rows : List ShapeRow) → length (shapes_at ks ss os rows) ≡ length rows
shapes_long ks ss os [] = refl
shapes_long ks ss os (s ∷ rows) = ap suc (shapes_long ks ss os rows)

abbrev pub program_of : Code → Vec Labels Global → Vec Ranges Global → Program
program_of code enums bitfields =
    record {
      code = code.emission.code;
      consts = code.emission.consts;
      units = code.units;
      hooks = code.bodies.entries;
      shapes =
          record {
            kinds = code.emission.kinds;
            stacks = code.emission.stacks;
            opens = code.emission.opens;
            at = code.emission.at;
            bodies = code.bodies.locals;
            enums = enums;
            bitfields = bitfields;
          };
    }

abbrev names_with : List (List (List ℕ)) → List (List (ℕ × List ℕ)) → List (List (List ℕ)) → Names
names_with members labels ranges = record { members = members; labels = labels; ranges = ranges }

module _ (code : Code) (enums : Vec Labels Global) (bitfields : Vec Ranges Global) (list : Typed) (is : IsCode list code) (limits : Limits) where
  abbrev program : Program
  program = program_of code enums bitfields

  abbrev p : Plain
  p = plain_of limits program

  abbrev shapes : Shapes
  shapes = shapes_of program

  abbrev at_by : List Kind → List Shape
  at_by ks =
      let ss = stacks_from [] code.emission.stacks.items in
      shapes_at ks ss (opens_from ks ss [] code.emission.opens.items) code.emission.at.items

  stands : HasAt p 0 (whole_code list)
  stands = subst (λ (ms : List Marked). HasAt p 0 ms) is.marks (is.emission.code p refl refl)

  shows : Shows shapes.at 0 (whole_code list)
  shows =
      subst (λ (ms : List Marked). Shows shapes.at 0 ms) is.marks
      (subst (λ (ks : List Kind). Shows (at_by ks) 0 is.emitted.marks) (sym is.emission.kinds) is.emission.shapes)

  pub is_program : label_names enums.items ≡ names_of_labels list.enums → range_names bitfields.items ≡ names_of_ranges list.bitfields → IsProgramOf list p shapes
  is_program labels ranges =
      let ss = stacks_from [] code.emission.stacks.items in
      let ks = kinds_from [] code.emission.kinds.items in
      let shapes_counted : length shapes.at ≡ length (whole_code list) =
      shapes_long ks ss (opens_from ks ss [] code.emission.opens.items) code.emission.at.items ∙ is.emission.counted_shapes ∙ ap length is.marks in
      record {
        laid =
            what_stands_is_laid p shapes (hook_names_of list) (currents_of list) list (behind_bodies list) is.entries
            (ap (λ js. body_kinds js code.bodies.locals.items) is.emission.kinds ∙ is.locals) stands (is.emission.counted ∙ ap length is.marks) shows shapes_counted;
        units = is.units;
        kinds = ap (λ js. unit_kinds js code.units.items) is.emission.kinds ∙ is.kinds;
        names =
            ap (λ ms. names_with ms (label_names enums.items) (range_names bitfields.items)) is.members
            ∙ ap (λ ls. names_with (names_of_members list.units) ls (range_names bitfields.items)) labels
            ∙ ap (λ rs. names_with (names_of_members list.units) (names_of_labels list.enums) rs) ranges;
      }

pub assembled_is : (code : Code) (enums : Vec Labels Global) (bitfields : Vec Ranges Global) → IsAssembled code enums.items bitfields.items (program_of code enums bitfields)
assembled_is code enums bitfields list is labels ranges limits = is_program code enums bitfields list is limits labels ranges
