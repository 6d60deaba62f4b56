-- The lines of a run: each is a compact JSON object (RFC 8259) with its keys in byte order, and a newline.
use Rattle.std.specs.Prelude.{ℕ, List, ◌++◌, true, Option, None, Some, codes, decimal, flat_map}
use Rattle.serde_json.specs.Data.{Data, boolean, number, unsigned, string, array, object, Members, member, no_members}
use Rattle.serde_json.specs.Written.{compact_text}
use Rattle.sp_base.specs.Kinds.{run_kind_name}
use Rattle.sp_events.specs.Tree.{TreeData, trees_of}
use Rattle.sp_events.specs.declared.event.Event.{Event}
use Rattle.sp_events.specs.declared.event.What.{What}
use Rattle.sp_events.specs.declared.event.What.TheVariants.{Hook, Print, Write, Forward, ForwardEod, Done, Failed}
use Rattle.sp_json.specs.Values.{tree_json, trees_json, bytes_json}

-- the flow's name, and behind it a dot and a number for each connect on the way to the fiber
abbrev pub path_text : List ℕ → List ℕ → List ℕ
path_text flow numbers = flow ++ flat_map (λ n. codes "." ++ decimal n) numbers

abbrev pub list_json : List TreeData → Data
list_json values = array (trees_json (trees_of values))

-- the text that an assertion or a throw carries, where it has one
abbrev pub text_member : Option (List ℕ) → Members
text_member None = no_members
text_member (Some text) = member (codes "text") (string text) no_members

abbrev pub members_of : List ℕ → What → Members
members_of at (Hook name args) = member (codes "args") (list_json args) (member (codes "at") (string at) (member (codes "hook") (string name) no_members))
members_of at (Print values) = member (codes "at") (string at) (member (codes "print") (list_json values) no_members)
members_of at (Write sink seq bytes) =
    member (codes "at") (string at) (member (codes "seq") (number (unsigned seq)) (member (codes "sink") (string sink) (member (codes "write") (bytes_json bytes) no_members)))
members_of at (Forward bytes) = member (codes "at") (string at) (member (codes "forward") (bytes_json bytes) no_members)
members_of at ForwardEod = member (codes "at") (string at) (member (codes "forward_eod") (boolean true) no_members)
members_of at (Done t) = member (codes "at") (string at) (member (codes "done") (tree_json t) no_members)
members_of at (Failed e) =
    member (codes "at") (string at) (member (codes "error") (string (run_kind_name e.kind)) (member (codes "offset") (number (unsigned e.offset)) (text_member e.text)))

abbrev pub event_json : List ℕ → What → Data
event_json at what = object (members_of at what)

abbrev pub line_of : List ℕ → Event → List ℕ
line_of flow e = compact_text (event_json (path_text flow e.at) e.what) ++ codes "\n"

-- the lines of events, one after another
abbrev pub lines_of : List ℕ → List Event → List ℕ
lines_of flow es = flat_map (line_of flow) es

-- how many bytes of a flow were received, and how many of them are kept
abbrev pub report_json : List ℕ → ℕ → ℕ → Data
report_json flow kept received =
    object (member (codes "at") (string flow) (member (codes "kept") (number (unsigned kept)) (member (codes "received") (number (unsigned received)) no_members)))

abbrev pub report_of : List ℕ → ℕ → ℕ → List ℕ
report_of flow kept received = compact_text (report_json flow kept received) ++ codes "\n"
