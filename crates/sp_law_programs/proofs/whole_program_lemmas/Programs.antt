-- The program of a list has the list's bodies, units and starters, is sound where they fit, and counts its turns.
use Rattle.std.proofs.Common.{◌≡◌, ℕ, ◌+◌, List, ◌++◌, length, Some, sym, ap, ◌∙◌, subst, arith, length-append}
use Rattle.std.specs.Prelude.{slice_get}
use Rattle.sp_typed_units.specs.declared.declarations.Typed.{Typed}
use Rattle.sp_typed_units.specs.declared.declarations.Unit.{Unit as TypedUnit}
use Rattle.sp_meaning_states.specs.Reads.{NoWord}
use Rattle.sp_meaning.specs.Globals.{globals_of}
use Rattle.sp_code_meaning.specs.Units.{unit_means}
use Rattle.sp_code.specs.Machine.{Plain}
use Rattle.sp_code.specs.Shapes.{Shapes}
use Rattle.sp_code_programs.specs.exprs.Marked.{Marked, HasAt, Shows}
use Rattle.sp_code_programs.specs.units.Units.{starter_kinds, starter_code, HasUnit}
use Rattle.sp_meaning.specs.Names.{hook_names_of}
use Rattle.sp_code_programs.specs.programs.Currents.{currents_of}
use Rattle.sp_code_programs.specs.programs.Units.{ending_at, failing_at, units_code, starters_code, kinds_of_unit}
use Rattle.sp_code_programs.specs.programs.Routines.{routines_of}
use Rattle.sp_code_programs.specs.programs.Programs.{routines_code, program_code}
use Rattle.sp_code_programs.specs.programs.Whole.{units_start, starters_start, starter_at, behind_bodies, IsProgramOf}
use Rattle.sp_law_code.specs.exprs.Laws.{AllKeep}
use Rattle.sp_law_code.proofs.exprs_lemmas.Steps.{has_front, has_back}
use Rattle.sp_law_code.proofs.exprs_lemmas.Keeping.{shows_front, shows_back, keep_both}
use Rattle.sp_law_code.specs.units.Fits.{UnitFits}
use Rattle.sp_law_code.specs.units.Keeps.{AreKindsOf}
use Rattle.sp_law_code.proofs.turns_lemmas.Programs.{joined_turn}
use Rattle.sp_law_programs.proofs.program_laid_lemmas.Laid.{rest_at, laid_programs_have_bodies, what_follows_stands, what_stands_is_laid, laid_programs_are_sound}
use Rattle.sp_law_programs.proofs.program_laid_lemmas.Placed.{wanted_length}
use Rattle.sp_law_programs.proofs.program_laid_lemmas.Enters.{laid_functions_enter}
use Rattle.sp_law_programs.proofs.program_laid_lemmas.Turning.{laid_programs_turn}
use Rattle.sp_meaning_states.specs.States.{first}
use Rattle.sp_law_programs.proofs.unit_told_lemmas.Kept.{starters_keep}
use Rattle.sp_law_programs.specs.whole_program.Laws.{WhatStandsIsTheProgram, UnitsMeanTheirs, ProgramsHaveBodies, ProgramsHaveUnits, ProgramsHaveStarters, StartersAreLast, UnitsHaveKinds, MembersAreListed, FunctionsAreEntered, ProgramsAreSound, ProgramsTurn}
use Rattle.sp_law_programs.proofs.whole_program_lemmas.Placed.{units_sized, start_among, entry_from, entry_among, entries_counted, starters_sized, Pieces, unit_among, starter_among, all_units_turn, all_starters_turn, all_units_keep, all_starters_keep}
use Rattle.sp_law_programs.proofs.whole_program_lemmas.Tables.{kinds_among, member_among, parameter_among, kinds_are}

three_long : (a b c : List Marked) → length (a ++ (b ++ c)) ≡ 0 + length a + length b + length c
three_long a b c = omega (arith, length-append {A = Marked})

module _ (list : Typed) (p : Plain) (shapes : Shapes) (is : IsProgramOf list p shapes) where
  abbrev units : List Marked
  units = units_code list (units_start list) 0 list.units

  abbrev starters : List Marked
  starters = starters_code list 0 list.units

  abbrev Stands : ℕ → List Marked → Type 0
  Stands n ms = HasAt p n ms

  abbrev Shown : ℕ → List Marked → Type 0
  Shown n ms = Shows shapes.at n ms

  behind : HasAt p (units_start list) (units ++ starters) × Shows shapes.at (units_start list) (units ++ starters)
  behind = what_follows_stands p shapes (hook_names_of list) (currents_of list) list (behind_bodies list) is.laid

  sized : units_start list + length units ≡ starters_start list
  sized = units_sized list list.units (units_start list) 0

  units_stand : HasAt p (units_start list) units
  units_stand = has_front p (λ _ _. NoWord) (units_start list) units starters behind.0

  pub units_show : Shows shapes.at (units_start list) units
  units_show = shows_front p shapes (units_start list) units starters behind.1

  starters_stand : HasAt p (starters_start list) starters
  starters_stand = subst (λ n. HasAt p n starters) sized (has_back p (λ _ _. NoWord) (units_start list) units starters behind.0)

  starters_show : Shows shapes.at (starters_start list) starters
  starters_show = subst (λ n. Shows shapes.at n starters) sized (shows_back p shapes (units_start list) units starters behind.1)

  -- the unit of a number
  module _ (u : ℕ) (x : TypedUnit) (listed : slice_get list.units u ≡ Some x) where
    abbrev start : ℕ
    start = start_among list (units_start list) 0 list.units u

    from_none : 0 + u ≡ u
    from_none = omega arith

    stands : Pieces list Stands start u x
    stands =
        subst (λ n. Pieces list Stands start n x) from_none
        (unit_among list Stands (has_front p (λ _ _. NoWord)) (has_back p (λ _ _. NoWord)) list.units (units_start list) 0 u x listed units_stand)

    pub shows : Pieces list Shown start u x
    shows =
        subst (λ n. Pieces list Shown start n x) from_none
        (unit_among list Shown (shows_front p shapes) (shows_back p shapes) list.units (units_start list) 0 u x listed units_show)

    abbrev has_unit : HasUnit p list u x
    has_unit =
        record {
          start = start;
          ending = ending_at list start u x;
          failing = failing_at list start u x;
          listed = ap (λ us. slice_get us u) is.units ∙ entry_among list list.units (units_start list) 0 u x listed ∙ ap (λ n. Some (entry_from list start n x)) from_none;
          parts_stand = stands.parts;
          ending_stands = stands.ending;
          failing_stands = stands.failing;
        }

    pub has_kinds : slice_get shapes.units u ≡ Some (kinds_of_unit (globals_of list).ranges x)
    has_kinds = ap (λ ks. slice_get ks u) is.kinds ∙ kinds_among (globals_of list).ranges list.units u x listed

    pub are_kinds : AreKindsOf x (starter_kinds list x) (kinds_of_unit (globals_of list).ranges x)
    are_kinds = kinds_are (globals_of list).ranges x

    starter_stands : HasAt p (starter_at list u) (starter_code list u x)
    starter_stands =
        subst (λ n. HasAt p (starter_at list u) (starter_code list n x)) from_none
        (starter_among list Stands (has_front p (λ _ _. NoWord)) (has_back p (λ _ _. NoWord)) list.units (starters_start list) 0 u x listed starters_stand)

    pub starter_shows : Shows shapes.at (starter_at list u) (starter_code list u x)
    starter_shows =
        subst (λ n. Shows shapes.at (starter_at list u) (starter_code list n x)) from_none
        (starter_among list Shown (shows_front p shapes) (shows_back p shapes) list.units (starters_start list) 0 u x listed starters_show)

    starter_keeps : UnitFits p shapes list u x → (n : ℕ) → Shows shapes.at n (starter_code list u x) → AllKeep p shapes n (starter_code list u x)
    starter_keeps fits n shown =
        starters_keep p shapes list u x fits has_unit shows.parts shows.ending shows.failing (kinds_of_unit (globals_of list).ranges x) has_kinds are_kinds n shown

  -- all that stands behind the bodies keeps to its shapes, if units fit
  behind_keeps : ((u : ℕ) (x : TypedUnit) → slice_get list.units u ≡ Some x → UnitFits p shapes list u x) → AllKeep p shapes (units_start list) (units ++ starters)
  behind_keeps fits =
      let of_units : (j : ℕ) (x : TypedUnit) → slice_get list.units j ≡ Some x → UnitFits p shapes list (0 + j) x =
      λ j x e. let n : 0 + j ≡ j = omega arith in subst (λ n. UnitFits p shapes list n x) (sym n) (fits j x e) in
      let of_starters : (j : ℕ) (x : TypedUnit) → slice_get list.units j ≡ Some x → (n : ℕ) → Shows shapes.at n (starter_code list (0 + j) x) → AllKeep p shapes n (starter_code list (0 + j) x) =
      λ j x e at.
      let n : 0 + j ≡ j = omega arith in
      subst (λ n. Shows shapes.at at (starter_code list n x) → AllKeep p shapes at (starter_code list n x)) (sym n) (starter_keeps j x e (fits j x e) at) in
      keep_both p shapes (units_start list) units starters (all_units_keep p shapes list list.units (units_start list) 0 of_units units_show)
      (subst (λ n. AllKeep p shapes n starters) (sym sized) (all_starters_keep p shapes list list.units (starters_start list) 0 of_starters starters_show))

pub what_stands_is_the_program : WhatStandsIsTheProgram
what_stands_is_the_program list p shapes has counted shown counted_shapes of_bodies of_locals of_units of_kinds of_names =
    record {
      laid = what_stands_is_laid p shapes (hook_names_of list) (currents_of list) list (behind_bodies list) of_bodies of_locals has counted shown counted_shapes;
      units = of_units;
      kinds = of_kinds;
      names = of_names;
    }

pub units_mean_theirs : UnitsMeanTheirs
units_mean_theirs list p shapes is reads n u ws = ap (λ names. unit_means names (hook_names_of list) list p.limits reads n u ws first) is.names

pub programs_have_bodies : ProgramsHaveBodies
programs_have_bodies list p shapes is = laid_programs_have_bodies p shapes (hook_names_of list) (currents_of list) list (behind_bodies list) is.laid

pub programs_have_units : ProgramsHaveUnits
programs_have_units list p shapes is u x listed = has_unit list p shapes is u x listed

pub programs_have_starters : ProgramsHaveStarters
programs_have_starters list p shapes is u x listed = starter_stands list p shapes is u x listed

pub starters_are_last : StartersAreLast
starters_are_last list p shapes is =
    let names = hook_names_of list in
    let currents = currents_of list in
    let units = units_code list (units_start list) 0 list.units in
    let starters = starters_code list 0 list.units in
    let routines = routines_code (globals_of list) 0 (routines_of names currents list) in
    let all = wanted_length p.consts (program_code names currents list (behind_bodies list)) p.code is.laid.code in
    let bodies : 0 + length routines ≡ units_start list = rest_at p shapes names currents list (behind_bodies list) is.laid in (
      all ∙ three_long routines units starters ∙ ap (λ n. n + length units + length starters) bodies ∙ ap (λ n. n + length starters) (sized list p shapes is) ∙ ap (λ n. starters_start list + n) (starters_sized list list.units 0),
      ap (λ us. length us) is.units ∙ entries_counted list list.units (units_start list) 0,
    )

pub members_are_listed : MembersAreListed
members_are_listed list p shapes is u x listed =
    let ranges = (globals_of list).ranges in
    let kinds = has_kinds list p shapes is u x listed in
    ((λ m y e. (kinds_of_unit ranges x, kinds, member_among ranges x.members m y e)), (λ n y e. (kinds_of_unit ranges x, kinds, parameter_among ranges x.parameters n y e)))

pub functions_are_entered : FunctionsAreEntered
functions_are_entered list p shapes is f x listed changes = laid_functions_enter p shapes (hook_names_of list) (currents_of list) list (behind_bodies list) is.laid f x listed changes

pub units_have_kinds : UnitsHaveKinds
units_have_kinds list p shapes is u x listed = (kinds_of_unit (globals_of list).ranges x, has_kinds list p shapes is u x listed, are_kinds list p shapes is u x listed)

pub programs_are_sound : ProgramsAreSound
programs_are_sound list p shapes is bodies_fit units_fit =
    laid_programs_are_sound p shapes (hook_names_of list) (currents_of list) list (behind_bodies list) is.laid bodies_fit (behind_keeps list p shapes is units_fit)

pub programs_turn : ProgramsTurn
programs_turn list p shapes is keep =
    let units = units_code list (units_start list) 0 list.units in
    let starters = starters_code list 0 list.units in
    laid_programs_turn p shapes (hook_names_of list) (currents_of list) list (behind_bodies list) is.laid keep
    (joined_turn (units_start list) units starters (all_units_turn list list.units (units_start list) 0) (all_starters_turn list list.units (units_start list + length units) 0))
