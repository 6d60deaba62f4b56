-- A unit of one byte with a body of `%done`: what it means over fronts of an input, and what is told of it.
use Rattle.std.specs.Prelude.{◌≡◌, ℕ, List, [], ◌∷◌, ◌++◌, Some, None, codes, refl}
use Rattle.std.proofs.Common.{sym, ap, ◌∙◌}
use Rattle.sp_base.specs.Input.{Close, held_open, ended}
use Rattle.sp_base.specs.declared.kinds.PKind.TheVariants as error_is
use Rattle.sp_base.specs.declared.places.Limits.{Limits}
use Rattle.sp_base.specs.declared.places.ParseError.{ParseError}
use Rattle.sp_events.specs.Tree.{TreeData, uint, unit, field, no_fields}
use Rattle.sp_events.specs.declared.event.Event.{Event}
use Rattle.sp_events.specs.declared.event.What.{What}
use Rattle.sp_value.specs.Val as value_is
use Rattle.sp_meaning_states.specs.States.{Gives, Failed, Result, Ends, error_with, first}
use Rattle.sp_meaning.specs.Names.{value_names_of}
use Rattle.sp_fiber.specs.declared.phase.Phase.TheVariants as fiber_is
use Rattle.sp_meaning.specs.declared.stand.Stand.TheVariants as stand_is
use Rattle.sp_meaning.specs.Meaning.{Meaning, told}
use Rattle.sp_session.specs.declared.session.Phase.TheVariants as phase_is
use Rattle.sp_session.specs.Example.{list}
use Rattle.sp_session.specs.Units.{stand_of, meaning_of, unit_result, unit_meaning}
use Rattle.sp_session.specs.Session.{IsLive, told_in}
use Rattle.sp_session.specs.Telling.{news, next_stand, IsFront}

abbrev limits : Limits
limits = record { turns = 4; depth = 3; fibers = 1 }

-- what it means over these bytes
abbrev over : List ℕ → Close → Meaning
over s close = meaning_of (value_names_of list) (unit_result list limits 0 s close)

-- the body of `%done`, and the unit with its byte
abbrev hook : Event
hook = record { at = []; what = What.Hook (codes "M::U::%done") [] }

abbrev with_byte : TreeData
with_byte = unit (field (codes "a") (uint 7) no_fields)

abbrev short : ParseError
short = record { kind = error_is.Short; offset = 0; text = None }

it_waits_for_its_byte : over [] held_open ≡ record { events = []; stand = stand_is.Waiting; retention_points = 0 ∷ [] }
it_waits_for_its_byte = refl

it_tells_the_hook_and_is_done : over (7 ∷ []) held_open ≡ record { events = hook ∷ told (What.Done with_byte); stand = stand_is.Done; retention_points = [] }
it_tells_the_hook_and_is_done = refl

what_follows_is_no_more : over (7 ∷ 8 ∷ 9 ∷ []) ended ≡ over (7 ∷ []) held_open
what_follows_is_no_more = refl

an_input_without_a_byte_is_too_short : over [] ended ≡ record { events = told (What.Failed short); stand = stand_is.Failed short; retention_points = [] }
an_input_without_a_byte_is_too_short = refl

-- its meaning is that
it_means_that : (s : List ℕ) (close : Close) → unit_meaning list limits 0 s close ≡ over s close
unfolding unit_meaning
it_means_that s close = refl

-- the end isn't told before the hook
abbrev what_of : List Event → What
what_of [] = What.ForwardEod
what_of (e ∷ es) = e.what

not_done_before_the_hook : (over (7 ∷ []) held_open).events ≡ told (What.Done with_byte) ++ hook ∷ [] → ⊥
not_done_before_the_hook e = let q : What.Hook (codes "M::U::%done") [] ≡ What.Done with_byte = ap what_of e in cc

-- an error with its text, at its place in the flow's input
an_error_keeps_its_text : stand_of (Ends (Failed (error_with error_is.Throw (Some (codes "no")) first)) [] first) ≡ stand_is.Failed (record { kind = error_is.Throw; offset = 0; text = Some (codes "no") })
an_error_keeps_its_text = refl

no_error_is_done : (e : ParseError) → stand_of (Ends (Gives (value_is.unit 0)) [] first) ≡ stand_is.Failed e → ⊥
no_error_is_done e is = let q : stand_is.Done ≡ stand_is.Failed e = is in cc

-- a unit that was over has nothing new, and stands as before
abbrev done : Result
done = Ends (Gives (value_is.unit 0)) [] first

nothing_is_told_again : news (value_names_of list) done [] stand_is.Done ≡ []
nothing_is_told_again = refl

it_stays_failed : next_stand done (stand_is.Failed short) ≡ stand_is.Failed short
it_stays_failed = refl

-- a session that was only started has told nothing, and one that was fed has told the meaning
told_at_first : told_in phase_is.Fresh over (7 ∷ []) ≡ []
told_at_first = refl

told_when_fed : told_in phase_is.Fed over (7 ∷ []) ≡ hook ∷ told (What.Done with_byte)
told_when_fed = refl

nothing_is_done_at_first : IsLive phase_is.Fresh over stand_is.Done fiber_is.Fresh [] → ⊥
nothing_is_done_at_first live = let q : stand_is.Done ≡ stand_is.Waiting = live.1 in cc

-- a front has no gaps
end_first : IsFront [] (told (What.Done with_byte)) (hook ∷ told (What.Done with_byte)) → ⊥
end_first f =
    let all : hook ∷ told (What.Done with_byte) ≡ told (What.Done with_byte) ++ f.rest = f.all ∙ ap (λ es. es ++ f.rest) (sym f.is) in
    let q : What.Hook (codes "M::U::%done") [] ≡ What.Done with_byte = ap what_of all in
    cc
