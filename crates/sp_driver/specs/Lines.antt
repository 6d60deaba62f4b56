-- The lines of a run.
use Rattle.std.specs.Prelude.{ℕ, Bool, true, false, ◌||◌, if◌then◌else◌, List, [], codes, flat_map}
use Rattle.sp_events.specs.declared.event.Event.{Event}
use Rattle.sp_events.specs.declared.event.What.{What}
use Rattle.sp_events.specs.declared.event.What.TheVariants.{Hook, Print, Write, Forward, ForwardEod, Done, Failed}
use Rattle.sp_json.specs.Lines.{line_of}

-- the name of the one flow of a run
abbrev pub flow_name : List ℕ
flow_name = codes "0"

-- What is printed, and the end of a unit, always has a line. That a hook ran, and what is written to a sink or forwarded, has one only
-- where it is traced.
abbrev pub is_told : What → Bool
is_told (Hook name args) = false
is_told (Print values) = true
is_told (Write sink seq bytes) = false
is_told (Forward bytes) = false
is_told ForwardEod = false
is_told (Done t) = true
is_told (Failed e) = true

-- the line of an event, where it has one
abbrev pub event_line : Bool → Event → List ℕ
event_line trace e = if trace || is_told e.what then line_of flow_name e else []

-- the lines of events, one after another
abbrev pub event_lines : Bool → List Event → List ℕ
event_lines trace es = flat_map (event_line trace) es
