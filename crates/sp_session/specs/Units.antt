-- What a unit of a list of modules means where it reads a flow's own bytes: the events that it tells, how it stands, and the places from
-- which on it must see the bytes again.
use Rattle.std.specs.Prelude.{ℕ, ◌+◌, List, [], ◌∷◌, ◌++◌}
use Rattle.sp_base.specs.Input.{Close}
use Rattle.sp_base.specs.declared.places.Limits.{Limits}
use Rattle.sp_base.specs.declared.places.ParseError.{ParseError}
use Rattle.sp_events.specs.declared.event.Event.{Event}
use Rattle.sp_events.specs.declared.event.What.{What}
use Rattle.sp_typed_units.specs.declared.declarations.Typed.{Typed}
use Rattle.sp_meaning_states.specs.States.{Error, Gives, Failed, Need, Result, Ends, first, events_of}
use Rattle.sp_meaning_states.specs.Telling.{Names, value_tree}
use Rattle.sp_meaning.specs.Names.{hook_names_of, value_names_of}
use Rattle.sp_fiber.specs.Moves.{whole_reads}
use Rattle.sp_meaning.specs.declared.stand.Stand.{Stand}
use Rattle.sp_meaning.specs.Meaning.{Meaning, UnitMeaning, told}
use Rattle.sp_meaning.specs.Units.{unit_means}

-- what the fiber of the flow's own bytes tells, as events
abbrev pub of_flow : List What → List Event
of_flow [] = []
of_flow (e ∷ es) = record { at = []; what = e } ∷ of_flow es

-- an error as it is told: where it stands in the flow's input, and its text
abbrev pub told_error : Error → ParseError
told_error e = record { kind = e.kind; offset = e.place; text = e.text }

-- The last event, where nothing more is awaited: the unit with the members that are set, by name and in their order, or the error. What
-- waits has none. A unit that reads a flow's own bytes has no other ends.
abbrev pub last : Names → Result → List Event
last names (Ends (Gives v) es st) = told (What.Done (value_tree names st.instances v))
last names (Ends (Failed e) es st) = told (What.Failed (told_error e))
last names (Ends how es st) = []

-- how the unit stands
abbrev pub stand_of : Result → Stand
stand_of (Ends (Gives v) es st) = Stand.Done
stand_of (Ends (Failed e) es st) = Stand.Failed (told_error e)
stand_of (Ends how es st) = Stand.Waiting

-- the least place that is still needed, where it waits
abbrev pub points_of : Result → List ℕ
points_of (Ends (Need m) es st) = m ∷ []
points_of (Ends how es st) = []

abbrev pub meaning_of : Names → Result → Meaning
meaning_of names r = record { events = of_flow (events_of r) ++ last names r; stand = stand_of r; retention_points = points_of r }

-- What the unit u of a list does with an input, within limits and without arguments. Calls and rounds are inside one another no more than
-- the turns allow, so one more than these is enough, and any greater number says the same.
abbrev pub unit_result : Typed → Limits → ℕ → List ℕ → Close → Result
unit_result list limits u s close = unit_means (value_names_of list) (hook_names_of list) list limits (whole_reads s close) (limits.turns + 1) u [] first

-- What it means. Proofs don't see into it by themselves.
unfoldable pub unit_meaning : Typed → Limits → ℕ → UnitMeaning
unit_meaning list limits u s close = meaning_of (value_names_of list) (unit_result list limits u s close)
