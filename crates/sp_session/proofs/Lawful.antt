-- What the laws of programs say of a list's program that runs a unit of it.
use Rattle.std.proofs.Common.{◌≡◌, ℕ, suc, ◌+◌, ◌-◌, ◌≤◌, ◌<◌, List, [], ◌∷◌, ◌++◌, length, refl, sym, ap, ◌∙◌, subst, arith}
use Rattle.std.proofs.lemmas.Option.{slice_get_within}
use Rattle.sp_base.specs.Input.{Close, held_open, ended}
use Rattle.sp_base.specs.declared.places.Limits.{Limits}
use Rattle.sp_events.specs.declared.event.What.{What}
use Rattle.sp_typed_units.specs.declared.declarations.Typed.{Typed}
use Rattle.sp_meaning_states.specs.States.{Result, end_of, events_of}
use Rattle.sp_meaning_states.specs.Reads.{Grows, Match}
use Rattle.sp_code.specs.declared.program.Program.{Program}
use Rattle.sp_code.specs.declared.program.UnitCode.{UnitCode}
use Rattle.sp_code.specs.Machine.{Plain, Config, step}
use Rattle.sp_code.specs.Programs.{units_of, names_of, plain_of, shapes_of}
use Rattle.sp_code.specs.Runs.{Comes}
use Rattle.sp_code.specs.Shapes.{Shaped}
use Rattle.sp_law_machine.specs.continues.Laws.{IsSteady}
use Rattle.sp_law_machine.specs.ends.Ending.{IsStop}
use Rattle.sp_machine.specs.Plain.{no_tokens}
use Rattle.sp_meaning.specs.Names.{hook_names_of, value_names_of}
use Rattle.sp_code_programs.specs.programs.Whole.{starter_at}
use Rattle.sp_law_programs.specs.unit_told.Told.{IsNeed, Tells}
use Rattle.sp_law_programs.proofs.unit_told_lemmas.Kept.{started_keeps}
use Rattle.sp_law_programs.specs.finished_units.Meaning.{meaning}
use Rattle.sp_law_programs.specs.finished_units.Laws.{IsLast}
use Rattle.sp_law_programs.proofs.finished_units_lemmas.Meanings.{stops_tell, meanings_stay, ended_inputs_decide}
use Rattle.sp_law_programs.proofs.whole_program_lemmas.Programs.{units_mean_theirs, starters_are_last, starter_shows}
use Rattle.sp_fiber.specs.Moves.{whole_reads}
use Rattle.sp_session.specs.Session.{Runs, start}
use Rattle.sp_session.proofs.Laid.{laid_result}

-- no instruction asks for tokens
steady : IsSteady no_tokens
steady = record { stays = λ set w t over told. absurd (told refl); fits = λ set w over token n e. absurd (let q : Grows ≡ Match token n = e in cc) }

units_counted : (us : List UnitCode) → length (units_of us) ≡ length us
units_counted [] = refl
units_counted (u ∷ us) = ap (λ n. suc n) (units_counted us)

module _ (list : Typed) (program : Program) (limits : Limits) (u : ℕ) (runs : Runs list program limits u) where
  abbrev p : Plain
  p = plain_of limits program

  -- the names with which values are told are those of the list
  pub same_names : names_of program ≡ value_names_of list
  same_names = (runs.compiled limits).names

  -- what the unit means in the program it means by the list
  means_the_list : (s : List ℕ) (close : Close) → meaning p (hook_names_of list) list (whole_reads s close) u [] ≡ laid_result list limits u s close
  means_the_list s close = units_mean_theirs list p (shapes_of program) (runs.compiled limits) (whole_reads s close) (limits.turns + 1) u []

  -- a machine that began before the starter and stops has told the unit's result
  pub stops_tell_unit : (s : List ℕ) (close : Close) (d : Config) (es : List What) → Comes p (whole_reads s close) (start list u) es d → IsStop (step p (whole_reads s close) d)
      → Tells p (whole_reads s close) d es (laid_result list limits u s close)
  stops_tell_unit s close d es comes stop =
      subst (Tells p (whole_reads s close) d es) (means_the_list s close) (stops_tell p (shapes_of program) (hook_names_of list) list (starter_at list u) u [] runs.unit (whole_reads s close) d es comes stop)

  abbrev Stays : List ℕ → List ℕ → Close → Result → Result → Type 0
  Stays s t close front whole = ((fs : List What) × (events_of whole ≡ events_of front ++ fs)) × ((IsNeed (end_of front) → ⊥) → whole ≡ front)

  -- what the unit does on a front of an input
  pub unit_stays : (s t : List ℕ) (close : Close) → Stays s t close (laid_result list limits u s held_open) (laid_result list limits u (s ++ t) close)
  unit_stays s t close =
      subst (λ r. Stays s t close r (laid_result list limits u (s ++ t) close)) (means_the_list s held_open)
      (subst (Stays s t close (meaning p (hook_names_of list) list (whole_reads s held_open) u [])) (means_the_list (s ++ t) close)
      (meanings_stay p (shapes_of program) (hook_names_of list) list (starter_at list u) u [] runs.unit no_tokens steady s t close))

  -- and where the input has ended
  pub unit_ends : (s : List ℕ) → IsLast (end_of (laid_result list limits u s ended))
  unit_ends s = subst (λ r. IsLast (end_of r)) (means_the_list s ended) (ended_inputs_decide p (shapes_of program) (hook_names_of list) list (starter_at list u) u [] runs.unit no_tokens s)

  -- a machine before the starter keeps to the shapes
  pub starts_shaped : Shaped p (shapes_of program) (start list u)
  starts_shaped =
      let x = runs.unit.starts.unit in
      started_keeps p (shapes_of program) list u x (starter_at list u) (starter_shows list p (shapes_of program) (runs.compiled limits) u x runs.unit.starts.listed) [] runs.unit.arguments

  -- the starters are the end of the code, of two instructions each
  last : (length program.code.items ≡ starter_at list (length list.units)) × (length (units_of program.units.items) ≡ length list.units)
  last = starters_are_last list p (shapes_of program) (runs.compiled limits)

  abbrev units : ℕ
  units = length program.units.items

  all_units : units ≡ length list.units
  all_units = sym (units_counted program.units.items) ∙ last.1

  pub unit_is_there : u < units
  unit_is_there = subst (λ n. u < n) (sym all_units) (slice_get_within list.units u runs.unit.starts.unit runs.unit.starts.listed)

  pub starter_stands : starter_at list u ≡ length program.code.items - (units - u) - (units - u)
  starter_stands =
      let code = last.0 in
      let there = unit_is_there in
      omega (arith, code, all_units, there)

  pub starters_fit : units - u ≤ length program.code.items - (units - u)
  starters_fit =
      let code = last.0 in
      let there = unit_is_there in
      omega (arith, code, all_units, there)
