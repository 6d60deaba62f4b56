-- Open constructs: what each becomes of an end that leaves it, and which place it still needs.
use Rattle.std.specs.Prelude.{ℕ, ◌-◌, Bool, true, false, ◌||◌, ◌==◌, List, [], ◌∷◌, Option, Some, None, nat_lt, min, slice_set, if◌then◌else◌}
use Rattle.sp_base.specs.declared.kinds.PKind.{PKind}
use Rattle.sp_base.specs.declared.kinds.PKind.TheVariants.{SizeLeft, SizeOver, Turns, Depth, FiberDepth}
use Rattle.sp_value.specs.Val.{Val, unit, bool}
use Rattle.sp_meaning_states.specs.States.{Error, View, Reading, State, End, Gives, Fine, Failed, Returned, Stopped, Backs, Rejected, Need, Unfinished, Result, ends, on_end, error_at, Instance, instance_of}

-- a body that is called: a function; a body of a hook, and whether that tells if a container goes on; or a body of a hook of a unit
-- that fails
pub data Called : Type 0 where
  Function : Called
  Hook : (each : Bool) → Called
  FailingHook : Called

-- how a body of a hook is called from a unit that fails or doesn't
abbrev pub called_where : (failing : Bool) → Called → Called
called_where true (Hook false) = FailingHook
called_where failing called = called

-- What is known of an open construct.
pub data Scope : Type 0 where
  -- a unit: whether its start is still needed, its instance and start; the unit round it and that one's locals
  InUnit : (keeps : Bool) (instance start : ℕ) (self : ℕ) (locals : List Val) → Scope
  -- the parts of a unit, from its variables to `%done`: the address of what runs where they fail
  InParts : (failing : ℕ) → Scope
  -- a unit that fails, while its `%error` and `%finally` run: the error
  InFailing : Error → Scope
  -- a body that is called: the unit round it, and the locals outside
  InCall : Called → (self : ℕ) (locals : List Val) → Scope
  -- `&size`: the views outside, and the limit
  InSize : (views : List View) (limit : ℕ) → Scope
  -- `&max-size`: the views outside, the number of its own, where it began, and the size
  InMax : (views : List View) (number start n : ℕ) → Scope
  -- `&parse-from` and `&parse-at`: level and place outside
  InFrom : (level at : ℕ) → Scope
  InAt : (level at : ℕ) → Scope
  -- `&try`: whether one was open outside, where it began, and the member that stays unset
  InTry : (tries : Bool) (place : ℕ) (unset : Option ℕ) → Scope

-- an error that leaves a reading stands at the place of the field outside
abbrev pub placed : ℕ → ℕ → Error → Error
placed level at e = if nat_lt level e.level then record e { place = at; level = level; overs = [] } else e

abbrev pub is_among : ℕ → List ℕ → Bool
is_among n [] = false
is_among n (m ∷ ms) = n == m || is_among n ms

-- a Short at the limit of the view of a `&max-size` is SizeOver
abbrev pub over_of : ℕ → Error → Error
over_of number e = if is_among number e.overs then record e { kind = SizeOver; overs = [] } else e

-- an error that ends the fiber: no hook runs then
abbrev pub ends_fiber : PKind → Bool
ends_fiber Turns = true
ends_fiber Depth = true
ends_fiber FiberDepth = true
ends_fiber kind = false

-- what a body of a hook of a failing unit makes of its own error
abbrev pub dropped_unless : Bool → Error → End
dropped_unless true e = Failed e
dropped_unless false e = Fine

abbrev pub put_views : List View → State → State
put_views vs st = record st { now = record st.now { views = vs } }

abbrev pub put_place : ℕ → State → State
put_place to st = record st { now = record st.now { place = to } }

-- the reading outside
abbrev pub popped : List Reading → State → State
popped [] st = st
popped (r ∷ rs) st = record st { now = r; outer = rs }

abbrev pub leave_from : ℕ → State → State
leave_from level st = record (popped st.outer st) { level = level; move = None }

abbrev pub leave_at : ℕ → ℕ → State → State
leave_at level at st = record (put_place at st) { level = level; move = None }

-- the unit and the locals outside; a function and a unit are no longer among those that are open
abbrev pub outside : ℕ → List Val → State → State
outside self locals st = record st { self = self; locals = locals }

abbrev pub one_less : State → State
one_less st = record st { depth = st.depth - 1 }

-- a field without a value
abbrev pub without_member : ℕ → Instance → Instance
without_member m x = record x { members = slice_set x.members m None }

abbrev pub unset_member : Option ℕ → State → State
unset_member (Some m) st = record st { instances = slice_set st.instances st.self (without_member m (instance_of st st.self)) }
unset_member None st = st

-- What becomes of an end that leaves a construct. What waits doesn't leave it. An end that can't come there claims nothing.
abbrev pub leave : Scope → End → State → Result
leave (InCall Function self locals) (Returned v) st = ends (Gives v) (one_less (outside self locals st))
leave (InCall Function self locals) (Failed e) st = ends (Failed e) (one_less (outside self locals st))
leave (InCall Function self locals) Backs st = ends Backs (one_less (outside self locals st))
leave (InCall Function self locals) Rejected st = ends Rejected (one_less (outside self locals st))
leave (InCall Function self locals) how st = ends Unfinished (one_less (outside self locals st))
leave (InCall (Hook true) self locals) (Returned v) st = ends (Gives (bool true)) (outside self locals st)
leave (InCall (Hook true) self locals) Stopped st = ends (Gives (bool false)) (outside self locals st)
leave (InCall (Hook false) self locals) (Returned v) st = ends Fine (outside self locals st)
leave (InCall (Hook each) self locals) (Failed e) st = ends (Failed e) (outside self locals st)
leave (InCall (Hook each) self locals) Backs st = ends Backs (outside self locals st)
leave (InCall (Hook each) self locals) Rejected st = ends Rejected (outside self locals st)
leave (InCall (Hook each) self locals) how st = ends Unfinished (outside self locals st)
leave (InCall FailingHook self locals) (Returned v) st = ends Fine (outside self locals st)
leave (InCall FailingHook self locals) (Failed e) st = ends (dropped_unless (ends_fiber e.kind) e) (outside self locals st)
leave (InCall FailingHook self locals) Backs st = ends Fine (outside self locals st)
leave (InCall FailingHook self locals) Rejected st = ends Fine (outside self locals st)
leave (InCall FailingHook self locals) how st = ends Unfinished (outside self locals st)
leave (InUnit keeps instance start self locals) Fine st = ends (Gives (unit instance)) (one_less (outside self locals st))
leave (InUnit keeps instance start self locals) (Failed e) st = ends (Failed e) (one_less (outside self locals st))
leave (InUnit keeps instance start self locals) Backs st = ends Backs (one_less (outside self locals st))
leave (InUnit keeps instance start self locals) Rejected st = ends Rejected (one_less (outside self locals st))
leave (InUnit keeps instance start self locals) how st = ends Unfinished (one_less (outside self locals st))
leave (InParts failing) Fine st = ends Fine st
leave (InParts failing) (Failed e) st = ends (Failed e) st
leave (InParts failing) Backs st = ends Backs st
leave (InParts failing) Rejected st = ends Rejected st
leave (InParts failing) how st = ends Unfinished st
leave (InFailing e) Fine st = ends (Failed e) st
leave (InFailing e) (Failed x) st = ends (Failed x) st
leave (InFailing e) Backs st = ends Backs st
leave (InFailing e) Rejected st = ends Rejected st
leave (InFailing e) how st = ends Unfinished st
leave (InSize views limit) (Gives v) st = if st.now.place == limit then ends (Gives v) (put_views views st) else ends (Failed (error_at SizeLeft st)) (put_views views st)
leave (InSize views limit) Fine st = ends Unfinished (put_views views st)
leave (InSize views limit) how st = ends how (put_views views st)
leave (InMax views number start n) (Gives v) st = if nat_lt n (st.now.place - start) then ends (Failed (error_at SizeOver st)) (put_views views st) else ends (Gives v) (put_views views st)
leave (InMax views number start n) (Failed e) st = ends (Failed (over_of number e)) (put_views views st)
leave (InMax views number start n) Fine st = ends Unfinished (put_views views st)
leave (InMax views number start n) how st = ends how (put_views views st)
leave (InFrom level at) (Failed e) st = ends (Failed (placed level at e)) (leave_from level st)
leave (InFrom level at) Fine st = ends Unfinished (leave_from level st)
leave (InFrom level at) how st = ends how (leave_from level st)
leave (InAt level at) (Failed e) st = ends (Failed (placed level at e)) (leave_at level at st)
leave (InAt level at) Fine st = ends Unfinished (leave_at level at st)
leave (InAt level at) how st = ends how (leave_at level at st)
leave (InTry tries place unset) Backs st = ends Fine (record (put_place place (unset_member unset st)) { tries = tries; move = None })
leave (InTry tries place unset) (Gives v) st = ends Unfinished (record st { tries = tries })
leave (InTry tries place unset) how st = ends how (record st { tries = tries })

-- the least place that a construct still needs, of the least one inside
abbrev pub needs : Scope → ℕ → ℕ
needs (InUnit true instance start self locals) m = min start m
needs (InAt level at) m = min at m
needs (InTry tries place unset) m = min place m
needs x m = m

-- an end of what is inside a construct
abbrev pub left : Scope → End → State → Result
left x (Need m) st = ends (Need (needs x m)) st
left x how st = leave x how st

-- a part inside a construct
abbrev pub inside : Scope → Result → Result
inside x r = on_end (left x) r
