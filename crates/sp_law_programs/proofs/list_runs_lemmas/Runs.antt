-- The program of a list that fits runs each of its units that is built, and the laws of what it tells are ones of the list.
use Rattle.std.proofs.Common.{◌≡◌, ℕ, suc, ◌+◌, List, [], ◌∷◌, ◌++◌, length, refl, sym, ap, ◌∙◌, subst}
use Rattle.std.specs.Prelude.{unwrap_or}
use Rattle.sp_base.specs.Input.{held_open, ended}
use Rattle.sp_base.specs.declared.places.Limits.{Limits}
use Rattle.sp_value.specs.Val.{Val}
use Rattle.sp_methods.specs.Kinds.{Kind, Have}
use Rattle.sp_typed_units.specs.declared.declarations.Parameter.{Parameter}
use Rattle.sp_typed_units.specs.declared.declarations.Typed.{Typed}
use Rattle.sp_meaning_states.specs.States.{Reading, end_of, events_of}
use Rattle.sp_meaning_states.specs.Reads.{Ask, Read, reads}
use Rattle.sp_meaning.specs.Globals.{globals_of}
use Rattle.sp_code.specs.declared.program.Program.{Program}
use Rattle.sp_code.specs.Machine.{Plain, Config, step}
use Rattle.sp_code.specs.Programs.{plain_of, shapes_of}
use Rattle.sp_code.specs.Shapes.{Shapes, Shaped}
use Rattle.sp_code_programs.specs.units.Units.{kinds_over, starter_kinds}
use Rattle.sp_meaning.specs.Names.{hook_names_of}
use Rattle.sp_code_programs.specs.programs.Whole.{starter_at}
use Rattle.sp_law_machine.specs.ends.Ending.{IsStop}
use Rattle.sp_law_programs.specs.finished_bodies.Laws.{IsFinished}
use Rattle.sp_law_programs.specs.unit_told.Told.{started, Tells}
use Rattle.sp_law_programs.specs.finished_units.Built.{UnitIsBuilt}
use Rattle.sp_law_programs.specs.finished_units.Fuel.{IsUnitEnd}
use Rattle.sp_law_programs.specs.finished_units.Meaning.{meaning, RunsUnit}
use Rattle.sp_law_programs.specs.finished_units.Laws.{IsLast}
use Rattle.sp_law_programs.proofs.finished_units_lemmas.Meanings.{meanings_end, meanings_are_reached, stops_tell, meanings_stay, ended_inputs_decide, feeds_tell}
use Rattle.sp_law_programs.proofs.whole_program_lemmas.Programs.{units_have_kinds, units_mean_theirs}
use Rattle.sp_law_programs.proofs.whole_program_lemmas.Fitting.{listed_units_fit, compiled_lists_are_sound, fitting_programs_start, fitting_lists_stand}
use Rattle.sp_law_programs.specs.list_runs.Runs.{IsRunnable, list_meaning}
use Rattle.sp_law_programs.specs.list_runs.Laws.{ProgramsRun, MeaningsAreTheLists, CompiledListsRun, UnitsAreRunnable, UnitsTakeNone, RunnableUnitsRun, ListMeaningsEnd, HasTold, ListMeaningsAreReached, ListStopsTell, StaysOn, ListMeaningsStay, ListEndedInputsDecide, ListFeedsTell}
use Rattle.sp_law_programs.proofs.list_runs_lemmas.Entered.{functions_fit_as_called, hooks_fit_as_run}

as_many : (units : List ℕ) (ks : List Kind) (vs : List Val) → Have units ks vs → length vs ≡ length ks
as_many units [] [] h = refl
as_many units [] (v ∷ vs) h = absurd h
as_many units (k ∷ ks) [] h = absurd h
as_many units (k ∷ ks) (v ∷ vs) h = ap suc (as_many units ks vs h.1)

pub programs_run : ProgramsRun
programs_run list p shapes is fits bodies u x listed built ws have =
    let taken = (units_have_kinds list p shapes is u x listed).2 in
    let s = (fitting_programs_start list p shapes is fits u x listed ws).0 (as_many [] (starter_kinds list x) ws have ∙ taken.takes) in
    let same : x ≡ s.unit = ap (λ o. unwrap_or o x) (sym listed ∙ s.listed) in
    let t = units_have_kinds list p shapes is u s.unit s.listed in
    record {
      starts = s;
      functions = functions_fit_as_called list p shapes is fits bodies;
      hooks = hooks_fit_as_run list p shapes is fits;
      fits = listed_units_fit list p shapes is fits u s.unit s.listed;
      built = subst (λ x. UnitIsBuilt list u x) same built;
      kinds = t.0;
      listed = t.1;
      are = t.2;
      arguments = subst (λ x. Have [] (starter_kinds list x) ws) same have;
    }

pub meanings_are_the_lists : MeaningsAreTheLists
meanings_are_the_lists list p shapes is reads u ws = units_mean_theirs list p shapes is reads (p.limits.turns + 1) u ws

pub compiled_lists_run : CompiledListsRun
compiled_lists_run list program is fits bodies = (
  compiled_lists_are_sound list program is fits,
  λ u x listed built ws have limits.
      let p = plain_of limits program in
      let shapes = shapes_of program in
      programs_run list p shapes (is limits) (fits p shapes (is limits)) bodies u x listed built ws have,
  let limits : Limits = record { turns = 0; depth = 0; fibers = 0 } in
      let p = plain_of limits program in
      let shapes = shapes_of program in
      fitting_lists_stand list p shapes (is limits) (fits p shapes (is limits)),
)

pub units_are_runnable : UnitsAreRunnable
units_are_runnable list program is runs u x listed ws have =
    record { compiled = is; fits = runs.fits; bodies = runs.bodies; unit = x; listed = listed; built = runs.units u x listed; arguments = have }

pub units_take_none : UnitsTakeNone
units_take_none list x e = subst (λ (xs : List Parameter). Have [] (kinds_over (globals_of list).ranges xs []) []) (sym e) tt

-- a unit that is runnable, within limits
module _ (list : Typed) (program : Program) (u : ℕ) (ws : List Val) (r : IsRunnable list program u ws) (limits : Limits) where
  abbrev p : Plain
  p = plain_of limits program

  abbrev shapes : Shapes
  shapes = shapes_of program

  abbrev names : List (List ℕ)
  names = hook_names_of list

  abbrev at : ℕ
  at = starter_at list u

  runs : RunsUnit p shapes names list at u ws
  runs = (compiled_lists_run list program r.compiled r.fits r.bodies).1 u r.unit r.listed r.built ws r.arguments limits

  begins : Shaped p shapes (started at ws)
  begins = (fitting_programs_start list p shapes (r.compiled limits) (r.fits p shapes (r.compiled limits)) u r.unit r.listed ws).1 r.arguments

  -- its meaning in the program is that of the list
  same : (reads : Reading → Ask → Read) → meaning p names list reads u ws ≡ list_meaning list limits reads u ws
  same reads = meanings_are_the_lists list p shapes (r.compiled limits) reads u ws

pub runnable_units_run : RunnableUnitsRun
runnable_units_run list program u ws r = (compiled_lists_are_sound list program r.compiled r.fits, λ limits. (begins list program u ws r limits, runs list program u ws r limits))

pub list_meanings_end : ListMeaningsEnd
list_meanings_end list program u ws r limits reads =
    subst (λ m. IsFinished m × IsUnitEnd 0 (end_of m)) (same list program u ws r limits reads)
    (meanings_end (plain_of limits program) (shapes_of program) (hook_names_of list) list (starter_at list u) u ws (runs list program u ws r limits) reads)

pub list_meanings_are_reached : ListMeaningsAreReached
list_meanings_are_reached list program u ws r limits reads =
    let p = plain_of limits program in
    subst (λ m. (d : Config) × HasTold list program u ws limits reads (events_of m) d × IsStop (step p reads d) × Tells p reads d (events_of m) m) (same list program u ws r limits reads)
    (meanings_are_reached p (shapes_of program) (hook_names_of list) list (starter_at list u) u ws (runs list program u ws r limits) reads)

pub list_stops_tell : ListStopsTell
list_stops_tell list program u ws r limits reads d es told stop =
    let p = plain_of limits program in
    subst (λ m. Tells p reads d es m) (same list program u ws r limits reads)
    (stops_tell p (shapes_of program) (hook_names_of list) list (starter_at list u) u ws (runs list program u ws r limits) reads d es told stop)

pub list_meanings_stay : ListMeaningsStay
list_meanings_stay list program u ws r limits verdict steady s t close =
    let front = reads verdict s held_open in
    let whole = reads verdict (s ++ t) close in
    let names = hook_names_of list in
    let p = plain_of limits program in
    subst (λ m. StaysOn m (list_meaning list limits whole u ws)) (same list program u ws r limits front)
    (subst (λ m. StaysOn (meaning p names list front u ws) m) (same list program u ws r limits whole)
    (meanings_stay p (shapes_of program) names list (starter_at list u) u ws (runs list program u ws r limits) verdict steady s t close))

pub list_ended_inputs_decide : ListEndedInputsDecide
list_ended_inputs_decide list program u ws r limits verdict s =
    subst (λ m. IsLast (end_of m)) (same list program u ws r limits (reads verdict s ended))
    (ended_inputs_decide (plain_of limits program) (shapes_of program) (hook_names_of list) list (starter_at list u) u ws (runs list program u ws r limits) verdict s)

pub list_feeds_tell : ListFeedsTell
list_feeds_tell list program u ws r limits verdict steady s t close d e es fs front rest stop =
    let whole = reads verdict (s ++ t) close in
    let p = plain_of limits program in
    subst (λ m. Tells p whole e (es ++ fs) m) (same list program u ws r limits whole)
    (feeds_tell p (shapes_of program) (hook_names_of list) list (starter_at list u) u ws (runs list program u ws r limits) verdict steady s t close d e es fs front rest stop)
