-- What a unit means that a program runs: what it told stays told, and where it is over it stays so.
use Rattle.std.proofs.Common.{◌≡◌, ◌≢◌, ℕ, List, [], ◌++◌, refl, sym, ap, ◌∙◌, append_assoc}
use Rattle.std.proofs.lemmas.List.{append-nil}
use Rattle.sp_base.specs.Input.{Close, held_open, ended}
use Rattle.sp_base.specs.declared.places.Limits.{Limits}
use Rattle.sp_events.specs.declared.event.Event.{Event}
use Rattle.sp_events.specs.declared.event.What.{What}
use Rattle.sp_typed_units.specs.declared.declarations.Typed.{Typed}
use Rattle.sp_meaning_states.specs.States.{Gives, Failed, Need, Result, Ends, end_of, events_of}
use Rattle.sp_meaning_states.specs.Telling.{Names}
use Rattle.sp_code.specs.declared.program.Program.{Program}
use Rattle.sp_meaning.specs.Names.{value_names_of}
use Rattle.sp_law_programs.specs.unit_told.Told.{IsNeed}
use Rattle.sp_law_programs.specs.finished_units.Laws.{IsLast}
use Rattle.sp_meaning.specs.declared.stand.Stand.{Stand}
use Rattle.sp_meaning.specs.declared.stand.Stand.TheVariants as stand_is
use Rattle.sp_meaning.specs.Meaning.{Meaning}
use Rattle.sp_session.specs.Units.{of_flow, last, stand_of, meaning_of, unit_meaning}
use Rattle.sp_session.specs.Session.{Runs}
use Rattle.sp_session.specs.Laws.{UnitsAreSteady, UnitsAreSettled, UnitsAreDecided}
use Rattle.sp_law_meaning.specs.Standing.{ListStands}
use Rattle.sp_session.proofs.Laid.{laid_result, meaning_is}
use Rattle.sp_session.proofs.Fronts.{of_flow_both}
use Rattle.sp_session.proofs.Lawful.{unit_stays, unit_ends}

-- a unit that waits has no last event
pub waits_last : (names : Names) (r : Result) → stand_of r ≡ stand_is.Waiting → last names r ≡ []
waits_last names (Ends (Gives v) es st) e = absurd (let q : stand_is.Done ≡ stand_is.Waiting = e in cc)
waits_last names (Ends (Failed x) es st) e = absurd (let q : stand_is.Failed _ ≡ stand_is.Waiting = e in cc)
waits_last names (Ends _ es st) e = refl

need_waits : (r : Result) → IsNeed (end_of r) → stand_of r ≡ stand_is.Waiting
need_waits (Ends (Need m) es st) h = refl
need_waits (Ends _ es st) h = absurd h

-- where the last of its events are these
pub events_behind : (names : Names) (r : Result) (es fs : List What) → events_of r ≡ es ++ fs → of_flow (events_of r) ++ last names r ≡ of_flow es ++ (of_flow fs ++ last names r)
events_behind names r es fs is = ap (λ es. of_flow es ++ last names r) is ∙ ap (λ xs. xs ++ last names r) (of_flow_both es fs) ∙ append_assoc (of_flow es) (of_flow fs) (last names r)

module _ (list : Typed) (limits : Limits) (u : ℕ) where
  abbrev names : Names
  names = value_names_of list

  abbrev result : List ℕ → Close → Result
  result s close = laid_result list limits u s close

  abbrev meaning : List ℕ → Close → Meaning
  meaning s close = unit_meaning list limits u s close

  module _ (stands : ListStands list) where
    pub stand_is_of : (s : List ℕ) (close : Close) → (meaning s close).stand ≡ stand_of (result s close)
    stand_is_of s close = ap (λ (m : Meaning). m.stand) (meaning_is list limits u stands s close)

    pub events_are_of : (s : List ℕ) (close : Close) → (meaning s close).events ≡ of_flow (events_of (result s close)) ++ last names (result s close)
    events_are_of s close = ap (λ (m : Meaning). m.events) (meaning_is list limits u stands s close)

    -- those of a unit that waits
    pub waiting_events : (s : List ℕ) (close : Close) (es : List What) → (meaning s close).stand ≡ stand_is.Waiting → events_of (result s close) ≡ es → (meaning s close).events ≡ of_flow es
    waiting_events s close es waits is =
        events_are_of s close
        ∙ ap (λ xs. of_flow (events_of (result s close)) ++ xs) (waits_last names (result s close) (sym (stand_is_of s close) ∙ waits))
        ∙ append-nil (of_flow (events_of (result s close)))
        ∙ ap of_flow is

  module _ (program : Program) (runs : Runs list program limits u) where
    pub settled : (s t : List ℕ) (close : Close) → (meaning s held_open).stand ≢ stand_is.Waiting → meaning (s ++ t) close ≡ meaning s held_open
    settled s t close final =
        meaning_is list limits u runs.stands (s ++ t) close
        ∙ ap (meaning_of names) ((unit_stays list program limits u runs s t close).1 (λ need. final (stand_is_of runs.stands s held_open ∙ need_waits (result s held_open) need)))
        ∙ sym (meaning_is list limits u runs.stands s held_open)

    -- also where the input just ends
    pub settled_ended : (s : List ℕ) → (meaning s held_open).stand ≢ stand_is.Waiting → meaning s ended ≡ meaning s held_open
    settled_ended s final = ap (λ bytes. meaning bytes ended) (sym (append-nil s)) ∙ settled s [] ended final

    abbrev GoesOn : List ℕ → List ℕ → Close → Type 0
    GoesOn s t close = (more : List Event) × ((meaning (s ++ t) close).events ≡ (meaning s held_open).events ++ more)

    pub steady : (s t : List ℕ) (close : Close) → GoesOn s t close
    steady s t close = by_stand (meaning s held_open).stand refl
      where
        over : (meaning s held_open).stand ≢ stand_is.Waiting → GoesOn s t close
        over final = ([], ap (λ (m : Meaning). m.events) (settled s t close final) ∙ sym (append-nil _))

        by_stand : (x : Stand) → (meaning s held_open).stand ≡ x → GoesOn s t close
        by_stand stand_is.Waiting e =
            let fs = (unit_stays list program limits u runs s t close).0 in
            let whole = result (s ++ t) close in (
              of_flow fs.0 ++ last names whole,
              events_are_of runs.stands (s ++ t) close
                  ∙ events_behind names whole (events_of (result s held_open)) fs.0 fs.1
                  ∙ ap (λ xs. xs ++ (of_flow fs.0 ++ last names whole)) (sym (waiting_events runs.stands s held_open (events_of (result s held_open)) e refl)),
            )
        by_stand stand_is.Done e = over (λ waits. let q : stand_is.Done ≡ stand_is.Waiting = sym e ∙ waits in cc)
        by_stand (stand_is.Failed x) e = over (λ waits. let q : stand_is.Failed x ≡ stand_is.Waiting = sym e ∙ waits in cc)

    last_decides : (r : Result) → IsLast (end_of r) → stand_of r ≢ stand_is.Waiting
    last_decides (Ends (Gives v) es st) h e = let q : stand_is.Done ≡ stand_is.Waiting = e in cc
    last_decides (Ends (Failed x) es st) h e = let q : stand_is.Failed _ ≡ stand_is.Waiting = e in cc
    last_decides (Ends _ es st) h e = h

    pub decided : (s : List ℕ) → (meaning s ended).stand ≢ stand_is.Waiting
    decided s e = last_decides (result s ended) (unit_ends list program limits u runs s) (sym (stand_is_of runs.stands s ended) ∙ e)

pub units_are_steady : UnitsAreSteady
units_are_steady list program limits u runs = steady list limits u program runs

pub units_are_settled : UnitsAreSettled
units_are_settled list program limits u runs = settled list limits u program runs

pub units_are_decided : UnitsAreDecided
units_are_decided list program limits u runs = decided list limits u program runs
