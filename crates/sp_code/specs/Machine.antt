-- The plain machine: what one instruction does to plain data. It has an answer for every configuration; sound code never comes to
-- those that stay.
use Rattle.std.specs.Prelude.{ℕ, ◌+◌, ◌-◌, Bool, false, true, List, [], ◌∷◌, ◌++◌, length, take, drop, reverse, replicate, Option, Some, None, is_some, Result as Answer, Ok, Err, nat_lt, slice_get, unwrap_or, if◌then◌else◌}
use Rattle.sp_base.specs.declared.kinds.PKind.{PKind}
use Rattle.sp_base.specs.declared.kinds.PKind.TheVariants as error_is
use Rattle.sp_base.specs.declared.places.Limits.{Limits}
use Rattle.sp_numbers.specs.declared.width.Width.TheVariants.{W64}
use Rattle.sp_words.specs.Methods.{arity}
use Rattle.sp_events.specs.declared.event.What.{What}
use Rattle.sp_value.specs.Val.{Val, void, bool, uint, tuple, vector, unit, vals_of}
use Rattle.sp_value.specs.Integers.{integer_of}
use Rattle.sp_value.specs.Parts.{text_in}
use Rattle.sp_value.specs.Changes.{with_member as with_key, without_key}
use Rattle.sp_operators.specs.Operators.{unary, binary, cast}
use Rattle.sp_methods.specs.Methods.{method}
use Rattle.sp_meaning_states.specs.States.{Error, Reading, State, End, Gives, Fine, Failed, Returned, Result, Ends, error_at, error_with, truth_of, local_of, set_local, parameter_of, member_of, put_member, start_of, one_more, go}
use Rattle.sp_meaning_states.specs.Scopes.{Called, called_where, Scope, InUnit, InParts, InFailing, InCall, ends_fiber, leave, needs}
use Rattle.sp_meaning_states.specs.Reads.{Ask, Bytes, Read, Got, Lacks, Shorts, NoWord, least_with}
use Rattle.sp_meaning_states.specs.Values.{item_at, with_at, size_value, set_of, map_of, members_of}
use Rattle.sp_meaning_states.specs.Types.{width_bytes}
use Rattle.sp_meaning_states.specs.Telling.{Names, value_trees}
use Rattle.sp_code.specs.declared.instr.Instr.{Instr}
use Rattle.sp_code.specs.declared.instr.Instr.TheVariants.{Const, Load, Store, Param, SelfUnit, GetField, HasField, SetField, Unary, Binary, Cast, MakeTuple, MakeVector, MakeSet, MakeMap, Index, SetIndex, Size, Lib, AddKey, DeleteKey, Pop, Dup, Under, Jump, JumpNot, Call, Return, Turn, EachStart, EachNext, Print, Assert, Throw, Fail, EnterUnit, LeaveUnit, Hook, Offset, ReadInt}

-- a body of a function or a hook: where its code begins, how many values it takes, the first values of its other locals; and of a
-- hook its name, and how many of the values that it takes its event tells
pub record Body : Type 0 where
  pub start : ℕ
  pub called : Called
  pub takes : ℕ
  pub fresh : List Val
  pub name : List ℕ
  pub told : ℕ

-- a unit: where its code begins, where that behind its parts does, and where that of its failing does; whether its start is kept, how
-- many values it takes, how many members it has, and the first values of the locals of its own code
pub record UnitCode : Type 0 where
  pub start : ℕ
  pub ending : ℕ
  pub failing : ℕ
  pub keeps : Bool
  pub takes : ℕ
  pub members : ℕ
  pub fresh : List Val

-- a program as plain data, within limits
pub record Plain : Type 0 where
  pub limits : Limits
  pub names : Names
  pub consts : List Val
  pub bodies : List Body
  pub units : List UnitCode
  pub code : List Instr

-- an open construct, the address behind it, and the operands below it
pub record Frame : Type 0 where
  pub scope : Scope
  pub to : ℕ
  pub below : List Val

-- a machine at an instruction, or one that takes frames off by an end
pub data Config : Type 0 where
  At : (pc : ℕ) (operands : List Val) (frames : List Frame) (state : State) → Config
  Ending : End → List Frame → State → Config

-- what a step does: it tells something and goes on, it waits for more of the input, or all is over
pub data Next : Type 0 where
  Goes : List What → Config → Next
  Waits : ℕ → Next
  Over : End → State → Next

-- a value that an instruction gives, or its error
abbrev pub put : Answer Val PKind → ℕ → List Val → List Frame → State → Next
put (Ok v) pc vs fs st = Goes [] (At pc (v ∷ vs) fs st)
put (Err kind) pc vs fs st = Goes [] (Ending (Failed (error_at kind st)) fs st)

abbrev pub put_all : Answer (List Val) PKind → ℕ → List Val → List Frame → State → Next
put_all (Ok ws) pc vs fs st = Goes [] (At pc (ws ++ vs) fs st)
put_all (Err kind) pc vs fs st = Goes [] (Ending (Failed (error_at kind st)) fs st)

abbrev pub raise_with : PKind → Option (List ℕ) → List Frame → State → Next
raise_with kind text fs st = Goes [] (Ending (Failed (error_with kind text st)) fs st)

abbrev pub raise : PKind → List Frame → State → Next
raise kind fs st = raise_with kind None fs st

-- a turn, and what follows it
abbrev pub counted : ℕ → (State → Next) → List Frame → State → Next
counted limit next fs st = if nat_lt st.now.count limit then next (one_more st) else raise error_is.Turns fs st

-- one more unit or function is open, and what follows
abbrev pub nested : ℕ → (State → Next) → List Frame → State → Next
nested limit next fs st = if nat_lt st.depth limit then next (record st { depth = st.depth + 1 }) else raise error_is.Depth fs st

abbrev pub push_set : Option Val → ℕ → List Val → List Frame → State → Next
push_set (Some v) pc vs fs st = Goes [] (At pc (v ∷ vs) fs st)
push_set None pc vs fs st = raise error_is.Unset fs st

-- where an end leads behind a construct
abbrev pub landed : ℕ → List Val → List Frame → Result → Next
landed to vs fs (Ends (Gives v) es st) = Goes es (At to (v ∷ vs) fs st)
landed to vs fs (Ends Fine es st) = Goes es (At to vs fs st)
landed to vs fs (Ends how es st) = Goes es (Ending how fs st)

-- an error that leaves the parts of a unit, unless it ends the fiber, and the address of what runs then
abbrev pub caught_unless : Bool → ℕ → Error → Option (ℕ × Error)
caught_unless true failing e = None
caught_unless false failing e = Some (failing, e)

-- what leaves another construct isn't caught
abbrev pub caught : Scope → End → Option (ℕ × Error)
caught (InParts failing) (Failed e) = caught_unless (ends_fiber e.kind) failing e
caught x how = None

-- the unit fails: its frame stays, and keeps the error
abbrev pub failing_frame : Error → Frame → Frame
failing_frame e f = record f { scope = InFailing e }

-- the code of the failing runs in its frame
abbrev pub unless_caught : Option (ℕ × Error) → Frame → List Frame → State → Next → Next
unless_caught (Some c) f fs st otherwise = Goes [] (At c.0 [] (failing_frame c.1 f ∷ fs) st)
unless_caught None f fs st otherwise = otherwise

-- an end takes off the innermost frame, or the unit whose parts it leaves fails
abbrev pub take_off : End → List Frame → State → Next
take_off how [] st = Over how st
take_off how (f ∷ fs) st = unless_caught (caught f.scope how) f fs st (landed f.to f.below fs (leave f.scope how st))

-- a reading that may wait
abbrev pub read_next : Read → (ℕ → ℕ → List ℕ → Next) → Next → List Frame → State → Next
read_next (Got t n bs) good otherwise fs st = good t n bs
read_next (Lacks m) good otherwise fs st = Waits (least_with st.move m)
read_next (Shorts overs) good otherwise fs st = Goes [] (Ending (Failed (record (error_at error_is.Short st) { overs = overs })) fs st)
read_next NoWord good otherwise fs st = otherwise

abbrev pub each_next : ℕ → ℕ → ℕ → Option Val → ℕ → Val → List Val → List Frame → State → Next
each_next limit to pc (Some x) i c vs fs st = counted limit (λ st. Goes [] (At pc (x ∷ uint W64 (i + 1) ∷ c ∷ vs) fs st)) fs st
each_next limit to pc None i c vs fs st = Goes [] (At to vs fs st)

-- a body that is called, with what it takes and what stays below it
abbrev pub called_frame : Body → ℕ → List Val → State → Frame
called_frame e pc vs st = record { scope = InCall e.called st.self st.locals; to = pc; below = vs }

abbrev pub begun : Body → List Val → State → State
begun e ws st = record st { locals = reverse ws ++ e.fresh }

abbrev pub call_next : Limits → Option Body → ℕ → List Val → List Frame → State → Next
call_next limits (Some e) pc vs fs st =
    counted limits.turns (λ st. nested limits.depth (λ s. Goes [] (At e.start [] (called_frame e pc (drop e.takes vs) st ∷ fs) (begun e (take e.takes vs) s))) fs st) fs st
call_next limits None pc vs fs st = Goes [] (At pc vs fs st)

-- what a body of a hook tells when it begins, of the values that it takes
abbrev pub hook_event : Names → Body → List Val → State → What
hook_event names e ws st = What.Hook e.name (value_trees names st.instances (take e.told (reverse ws)))

-- the construct is a unit that fails
abbrev pub is_failing_scope : Scope → Bool
is_failing_scope (InFailing e) = true
is_failing_scope x = false

-- whether the code at hand is that of a unit that fails: its frame is then the innermost
abbrev pub is_failing : List Frame → Bool
is_failing [] = false
is_failing (f ∷ fs) = is_failing_scope f.scope

-- the frame of a body of a hook, of a unit that fails or doesn't
abbrev pub hook_frame : Bool → Body → ℕ → List Val → State → Frame
hook_frame failing e pc vs st = called_frame (record e { called = called_where failing e.called }) pc vs st

abbrev pub hook_next : Names → ℕ → Option Body → ℕ → List Val → List Frame → State → Next
hook_next names limit (Some e) pc vs fs st =
    counted limit (λ st. Goes (hook_event names e (take e.takes vs) st ∷ []) (At e.start [] (hook_frame (is_failing fs) e pc (drop e.takes vs) st ∷ fs) (begun e (take e.takes vs) st))) fs st
hook_next names limit None pc vs fs st = Goes [] (At pc vs fs st)

-- a unit that is entered: a turn, the depth, and a new instance, which is the one at hand
abbrev pub entered : UnitCode → ℕ → List Val → State → State
entered e u ws st =
    record st { instances = st.instances ++ (record { unit = u; start = st.now.place; parameters = reverse ws; members = replicate e.members None }) ∷ []; self = length st.instances; locals = e.fresh }

abbrev pub unit_frame : UnitCode → ℕ → List Val → State → Frame
unit_frame e pc vs st = record { scope = InUnit e.keeps (length st.instances) st.now.place st.self st.locals; to = pc; below = vs }

-- the frame of the parts, which leads behind them
abbrev pub parts_frame : UnitCode → Frame
parts_frame e = record { scope = InParts e.failing; to = e.ending; below = [] }

abbrev pub unit_next : Limits → Option UnitCode → ℕ → ℕ → List Val → List Frame → State → Next
unit_next limits (Some e) u pc vs fs st =
    counted limits.turns (λ st. nested limits.depth (λ s. Goes [] (At e.start [] (parts_frame e ∷ unit_frame e pc (drop e.takes vs) st ∷ fs) (entered e u (take e.takes vs) s))) fs st) fs st
unit_next limits None u pc vs fs st = Goes [] (At pc vs fs st)

-- the value below the top one stands under so many more
abbrev pub under : {A : Type 0} → ℕ → List A → List A
under n (x ∷ y ∷ xs) = x ∷ (take n xs ++ y ∷ drop n xs)
under n xs = xs

abbrev pub const_of : List Val → ℕ → Val
const_of consts c = unwrap_or (slice_get consts c) void

module _ (p : Plain) (reads : Reading → Ask → Read) where
  abbrev pub act : Option Instr → ℕ → List Val → List Frame → State → Next
  act (Some (Const c)) pc vs fs st = Goes [] (At (pc + 1) (const_of p.consts c ∷ vs) fs st)
  act (Some (Load l)) pc vs fs st = Goes [] (At (pc + 1) (local_of st l ∷ vs) fs st)
  act (Some (Store l)) pc (v ∷ vs) fs st = Goes [] (At (pc + 1) vs fs (set_local l v st))
  act (Some (Param n)) pc vs fs st = Goes [] (At (pc + 1) (parameter_of st n ∷ vs) fs st)
  act (Some SelfUnit) pc vs fs st = Goes [] (At (pc + 1) (unit st.self ∷ vs) fs st)
  act (Some (GetField m)) pc (u ∷ vs) fs st = push_set (member_of st u m) (pc + 1) vs fs st
  act (Some (HasField m)) pc (u ∷ vs) fs st = Goes [] (At (pc + 1) (bool (is_some (member_of st u m)) ∷ vs) fs st)
  act (Some (SetField m)) pc (u ∷ v ∷ vs) fs st = landed (pc + 1) vs fs (put_member u m v st)
  act (Some (Unary o)) pc (v ∷ vs) fs st = put (unary o v) (pc + 1) vs fs st
  act (Some (Binary o)) pc (y ∷ x ∷ vs) fs st = put (binary o x y) (pc + 1) vs fs st
  act (Some (Cast t)) pc (v ∷ vs) fs st = put (cast v t) (pc + 1) vs fs st
  act (Some (MakeTuple n)) pc vs fs st = Goes [] (At (pc + 1) (tuple (vals_of (reverse (take n vs))) ∷ drop n vs) fs st)
  act (Some (MakeVector n)) pc vs fs st = Goes [] (At (pc + 1) (vector (vals_of (reverse (take n vs))) ∷ drop n vs) fs st)
  act (Some (MakeSet n)) pc vs fs st = Goes [] (At (pc + 1) (set_of (reverse (take n vs)) ∷ drop n vs) fs st)
  act (Some (MakeMap n)) pc vs fs st = Goes [] (At (pc + 1) (map_of (reverse (take n vs)) ∷ drop n vs) fs st)
  act (Some Index) pc (k ∷ c ∷ vs) fs st = put (item_at c k) (pc + 1) vs fs st
  act (Some SetIndex) pc (x ∷ k ∷ c ∷ vs) fs st = put (with_at c k x) (pc + 1) vs fs st
  act (Some Size) pc (v ∷ vs) fs st = Goes [] (At (pc + 1) (size_value v ∷ vs) fs st)
  act (Some (Lib m)) pc vs fs st = put_all (method m (take (arity m) vs)) (pc + 1) (drop (arity m) vs) fs st
  act (Some AddKey) pc (k ∷ c ∷ vs) fs st = Goes [] (At (pc + 1) (with_key c k ∷ vs) fs st)
  act (Some DeleteKey) pc (k ∷ c ∷ vs) fs st = Goes [] (At (pc + 1) (without_key c k ∷ vs) fs st)
  act (Some Pop) pc (v ∷ vs) fs st = Goes [] (At (pc + 1) vs fs st)
  act (Some Dup) pc (k ∷ c ∷ vs) fs st = Goes [] (At (pc + 1) (k ∷ c ∷ k ∷ c ∷ vs) fs st)
  act (Some (Under n)) pc vs fs st = Goes [] (At (pc + 1) (under n vs) fs st)
  act (Some (Jump to)) pc vs fs st = Goes [] (At to vs fs st)
  act (Some (JumpNot to)) pc (v ∷ vs) fs st = Goes [] (if truth_of v then At (pc + 1) vs fs st else At to vs fs st)
  act (Some (Call f)) pc vs fs st = call_next p.limits (slice_get p.bodies f) (pc + 1) vs fs st
  act (Some Return) pc (v ∷ vs) fs st = Goes [] (Ending (Returned v) fs st)
  act (Some Turn) pc vs fs st = counted p.limits.turns (λ st. Goes [] (At (pc + 1) vs fs st)) fs st
  act (Some EachStart) pc (c ∷ vs) fs st = Goes [] (At (pc + 1) (uint W64 0 ∷ c ∷ vs) fs st)
  act (Some (EachNext to)) pc (uint w i ∷ c ∷ vs) fs st = each_next p.limits.turns to (pc + 1) (slice_get (members_of c) i) i c vs fs st
  act (Some (Print n)) pc vs fs st = Goes (What.Print (value_trees p.names st.instances (reverse (take n vs))) ∷ []) (At (pc + 1) (drop n vs) fs st)
  act (Some Assert) pc (t ∷ v ∷ vs) fs st = if truth_of v then Goes [] (At (pc + 1) vs fs st) else raise_with error_is.Assert (text_in t) fs st
  act (Some Throw) pc (t ∷ vs) fs st = raise_with error_is.Throw (text_in t) fs st
  act (Some (Fail kind)) pc vs fs st = raise kind fs st
  act (Some (EnterUnit u)) pc vs fs st = unit_next p.limits (slice_get p.units u) u (pc + 1) vs fs st
  act (Some LeaveUnit) pc vs fs st = Goes [] (Ending Fine fs st)
  act (Some (Hook h)) pc vs fs st = hook_next p.names p.limits.turns (slice_get p.bodies h) (pc + 1) vs fs st
  act (Some Offset) pc (u ∷ vs) fs st = Goes [] (At (pc + 1) (uint W64 (st.now.place - start_of st u) ∷ vs) fs st)
  act (Some (ReadInt form)) pc vs fs st =
      read_next (reads st.now (Bytes (width_bytes form.width))) (λ t n bs. Goes [] (At (pc + 1) (integer_of form.little form.signed bs ∷ vs) fs (go (st.now.place + n) st))) (raise error_is.NoMatch fs st) fs st
  -- stays
  act i pc vs fs st = Goes [] (At pc vs fs st)

  abbrev pub step : Config → Next
  step (At pc vs fs st) = act (slice_get p.code pc) pc vs fs st
  step (Ending how fs st) = take_off how fs st

-- the least place that these frames still need, of the least one inside them
abbrev pub low_of : List Frame → ℕ → ℕ
low_of [] m = m
low_of (f ∷ fs) m = low_of fs (needs f.scope m)
