-- What a run of a unit keeps, how its parts end, and how parts are put together.
use Rattle.std.specs.Prelude.{ℕ, ◌+◌, Bool, true, false, List, [], ◌++◌, Option, Some, None, Result as Answer, Ok, Err, nat_lt, max, slice_get, slice_set, unwrap_or, if◌then◌else◌}
use Rattle.sp_base.specs.declared.kinds.PKind.{PKind}
use Rattle.sp_base.specs.declared.kinds.PKind.TheVariants.{Turns, Depth, Unset}
use Rattle.sp_events.specs.declared.event.What.{What}
use Rattle.sp_value.specs.Val.{Val, void, bool, unit}

-- an error on its way out: its text, where an assertion or a `throw` has one; its place, which is counted in the reading of
-- this level; and the numbers of the open views at whose limit the data of a Short ended
pub record Error : Type 0 where
  pub kind : PKind
  pub text : Option (List ℕ)
  pub place : ℕ
  pub level : ℕ
  pub overs : List ℕ

-- what an input holds: the fiber's own bytes, or the value of a `&parse-from`
pub data Source : Type 0 where
  Main : Source
  Given : List ℕ → Source

-- a view of an input: its number, the place of its first byte, and the place behind its last one
pub record View : Type 0 where
  pub number : ℕ
  pub start : ℕ
  pub limit : ℕ

-- an input that is being read: the next byte, the highest place so far, the turns since that place rose, and the open views, the
-- innermost first
pub record Reading : Type 0 where
  pub source : Source
  pub place : ℕ
  pub high : ℕ
  pub count : ℕ
  pub views : List View

-- an instance of a unit: its type, the place at which it began, its parameters, and what its members hold: nothing where a
-- field is unset
pub record Instance : Type 0 where
  pub unit : ℕ
  pub start : ℕ
  pub parameters : List Val
  pub members : List (Option Val)

-- the instances in the order in which they were entered, which is their number; the one at hand; the locals of the body at hand;
-- the input at hand and those round it, with their count; the number of the next view; how many units and functions are open;
-- whether a `&try` field is open; and a place to which the input is to move
pub record State : Type 0 where
  pub instances : List Instance
  pub self : ℕ
  pub locals : List Val
  pub now : Reading
  pub outer : List Reading
  pub level : ℕ
  pub stamps : ℕ
  pub depth : ℕ
  pub tries : Bool
  pub move : Option ℕ

-- how a part ends. `Gives` is the good end of an expression, and `Fine` that of a statement; `Broke` and `Continued` are the ways
-- out of a round of a loop, `Returned` that of a body, `Stopped` that of a foreach hook, `Backs` that to an open `&try` field, and
-- `Rejected` that of a trial. `Need` waits, and has the least place that is still needed. `Unfinished` claims nothing.
pub data End : Type 0 where
  Gives : Val → End
  Fine : End
  Failed : Error → End
  Broke Continued : End
  Returned : Val → End
  Stopped Backs Rejected : End
  Need : ℕ → End
  Unfinished : End

-- the end of a part, what it told, and the state behind it
pub data Result : Type 0 where
  Ends : End → List What → State → Result

abbrev pub ends : End → State → Result
ends how st = Ends how [] st

-- a part that told this before
abbrev pub behind : List What → Result → Result
behind es (Ends how fs st) = Ends how (es ++ fs) st

-- what is made of the end of a part, behind what the part told
abbrev pub on_end : (End → State → Result) → Result → Result
on_end k (Ends Unfinished es st) = Ends Unfinished es st
on_end k (Ends how es st) = behind es (k how st)

-- what is made of a value, of a good end, and of the end of a round of a loop; other ends pass
abbrev pub with_value : (Val → State → Result) → End → State → Result
with_value go (Gives v) st = go v st
with_value go Fine st = ends Unfinished st
with_value go how st = ends how st

abbrev pub with_done : (State → Result) → End → State → Result
with_done go Fine st = go st
with_done go (Gives v) st = ends Unfinished st
with_done go how st = ends how st

abbrev pub with_round : (State → Result) → End → State → Result
with_round go Fine st = go st
with_round go Continued st = go st
with_round go Broke st = ends Fine st
with_round go (Gives v) st = ends Unfinished st
with_round go how st = ends how st

abbrev pub got : (Val → State → Result) → Result → Result
got go r = on_end (with_value go) r

abbrev pub done : (State → Result) → Result → Result
done go r = on_end (with_done go) r

abbrev pub round : (State → Result) → Result → Result
round go r = on_end (with_round go) r

abbrev pub truth_of : Val → Bool
truth_of (bool b) = b
truth_of v = false

-- one of two parts, by a Boolean
abbrev pub chosen : Bool → (State → Result) → (State → Result) → State → Result
chosen true a b st = a st
chosen false a b st = b st

-- an error at the place at which the input stands
abbrev pub error_with : PKind → Option (List ℕ) → State → Error
error_with kind text st = record { kind = kind; text = text; place = st.now.place; level = st.level; overs = [] }

abbrev pub error_at : PKind → State → Error
error_at kind st = error_with kind None st

abbrev pub fails : PKind → State → Result
fails kind st = ends (Failed (error_at kind st)) st

-- the value of an operator, or its error
abbrev pub answer : Answer Val PKind → State → Result
answer (Ok v) st = ends (Gives v) st
answer (Err kind) st = fails kind st

abbrev pub local_of : State → ℕ → Val
local_of st l = unwrap_or (slice_get st.locals l) void

abbrev pub set_local : ℕ → Val → State → State
set_local l v st = record st { locals = slice_set st.locals l v }

abbrev pub no_instance : Instance
no_instance = record { unit = 0; start = 0; parameters = []; members = [] }

abbrev pub instance_of : State → ℕ → Instance
instance_of st n = unwrap_or (slice_get st.instances n) no_instance

-- a parameter of the unit at hand
abbrev pub parameter_of : State → ℕ → Val
parameter_of st n = unwrap_or (slice_get (instance_of st st.self).parameters n) void

-- what a member of an instance holds; the member of void, which a local of a unit's type may be, is unset
abbrev pub flat : Option (Option Val) → Option Val
flat (Some o) = o
flat None = None

abbrev pub member_of : State → Val → ℕ → Option Val
member_of st (unit n) m = flat (slice_get (instance_of st n).members m)
member_of st v m = None

abbrev pub with_member : ℕ → Val → Instance → Instance
with_member m v x = record x { members = slice_set x.members m (Some v) }

-- the value of a member, unless it is unset
abbrev pub value_or_unset : Option Val → State → Result
value_or_unset (Some v) st = ends (Gives v) st
value_or_unset None st = fails Unset st

abbrev pub set_member : ℕ → ℕ → Val → State → State
set_member n m v st = record st { instances = slice_set st.instances n (with_member m v (instance_of st n)) }

-- a member's new value
abbrev pub put_member : Val → ℕ → Val → State → Result
put_member (unit n) m v st = ends Fine (set_member n m v st)
put_member u m v st = fails Unset st

-- how far the place is behind the start of a unit
abbrev pub start_of : State → Val → ℕ
start_of st (unit n) = (instance_of st n).start
start_of st v = 0

-- one more turn, unless that passes the limit
abbrev pub one_more : State → State
one_more st = record st { now = record st.now { count = st.now.count + 1 } }

abbrev pub turn : ℕ → State → Result
turn limit st = if nat_lt st.now.count limit then ends Fine (one_more st) else fails Turns st

-- one more unit or function may be open, unless that passes the limit
abbrev pub deeper : ℕ → State → Result
deeper limit st = if nat_lt st.depth limit then ends Fine st else fails Depth st

-- the input moves; the count of turns goes back to 0 where its highest place rises
abbrev pub going : ℕ → Reading → Reading
going to r = record r { place = to; high = max r.high to; count = if nat_lt r.high to then 0 else r.count }

abbrev pub go : ℕ → State → State
go to st = record st { now = going to st.now }

-- the state in which a run begins: no unit is entered, and the input is the fiber's own bytes, of which none was read
abbrev pub first : State
first =
    record {
      instances = [];
      self = 0;
      locals = [];
      now = record { source = Main; place = 0; high = 0; count = 0; views = [] };
      outer = [];
      level = 0;
      stamps = 0;
      depth = 0;
      tries = false;
      move = None;
    }

-- how a part ends, what it tells, and the state behind it
abbrev pub end_of : Result → End
end_of (Ends how es st) = how

abbrev pub events_of : Result → List What
events_of (Ends how es st) = es

abbrev pub state_of : Result → State
state_of (Ends how es st) = st
