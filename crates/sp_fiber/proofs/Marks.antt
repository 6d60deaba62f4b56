-- Where a step waits, and where all is over by it.
use Rattle.std.proofs.Common.{◌≡◌, ℕ, ◌+◌, Bool, true, false, List, [], ◌∷◌, take, drop, Option, Some, None, Result as Answer, Ok, Err, refl, ap, ◌∙◌}
use Rattle.std.specs.Prelude.{slice_get, length, nat_le, nat_lt, if◌then◌else◌}
use Rattle.sp_base.specs.declared.kinds.PKind.{PKind}
use Rattle.sp_base.specs.declared.places.Limits.{Limits}
use Rattle.sp_value.specs.Val.{Val, uint}
use Rattle.sp_value.specs.Parts.{text_in}
use Rattle.sp_operators.specs.Operators.{unary, binary, cast}
use Rattle.sp_methods.specs.Methods.{method}
use Rattle.sp_words.specs.Methods.{arity}
use Rattle.sp_meaning_states.specs.States.{Error, Reading, State, End, Gives, Fine, Result, Ends, truth_of, member_of, put_member}
use Rattle.sp_meaning_states.specs.Scopes.{leave}
use Rattle.sp_meaning_states.specs.Reads.{Ask, Bytes, Read, Got, Lacks, Shorts, NoWord, least_with, lacking, Seen, read_in}
use Rattle.sp_meaning_states.specs.Values.{item_at, with_at, members_of}
use Rattle.sp_meaning_states.specs.Types.{width_bytes}
use Rattle.sp_meaning_states.specs.Telling.{Names}
use Rattle.sp_machine.specs.Plain.{no_tokens}
use Rattle.sp_code.specs.declared.instr.Instr.{Instr}
use Rattle.sp_code.specs.declared.instr.Instr.TheVariants as does
use Rattle.sp_code.specs.Machine.{Body, UnitCode, Frame, Plain, Next, Goes, Waits, Over, put, put_all, raise_with, push_set, landed, caught, unless_caught, take_off, read_next, each_next, call_next, hook_next, unit_next, act}

-- an instruction of which bytes lack waits at its place, where the input isn't over; and none is the end of all
module _ (over : Bool) (place : ℕ) where
  abbrev pub IsHere : Read → Type 0
  IsHere (Lacks m) = (m ≡ place) × (over ≡ false)
  IsHere x = Unit {0}

  abbrev pub WaitsHere : Next → Type 0
  WaitsHere (Goes es d) = Unit {0}
  WaitsHere (Waits m) = (m ≡ place) × (over ≡ false)
  WaitsHere (Over how st) = ⊥

  put_here : (a : Answer Val PKind) (pc : ℕ) (vs : List Val) (fs : List Frame) (st : State) → WaitsHere (put a pc vs fs st)
  put_here (Ok v) pc vs fs st = tt
  put_here (Err kind) pc vs fs st = tt

  put_all_here : (a : Answer (List Val) PKind) (pc : ℕ) (vs : List Val) (fs : List Frame) (st : State) → WaitsHere (put_all a pc vs fs st)
  put_all_here (Ok ws) pc vs fs st = tt
  put_all_here (Err kind) pc vs fs st = tt

  set_here : (o : Option Val) (pc : ℕ) (vs : List Val) (fs : List Frame) (st : State) → WaitsHere (push_set o pc vs fs st)
  set_here (Some v) pc vs fs st = tt
  set_here None pc vs fs st = tt

  landed_here : (to : ℕ) (vs : List Val) (fs : List Frame) (r : Result) → WaitsHere (landed to vs fs r)
  landed_here to vs fs (Ends (Gives v) es st) = tt
  landed_here to vs fs (Ends Fine es st) = tt
  landed_here to vs fs (Ends _ es st) = tt

  either_here : (b : Bool) (x y : Next) → WaitsHere x → WaitsHere y → WaitsHere (if b then x else y)
  either_here true x y h g = h
  either_here false x y h g = g

  each_here : (limit to pc : ℕ) (o : Option Val) (i : ℕ) (c : Val) (vs : List Val) (fs : List Frame) (st : State) → WaitsHere (each_next limit to pc o i c vs fs st)
  each_here limit to pc (Some x) i c vs fs st = either_here (nat_lt st.now.count limit) _ _ tt tt
  each_here limit to pc None i c vs fs st = tt

  call_here : (limits : Limits) (o : Option Body) (pc : ℕ) (vs : List Val) (fs : List Frame) (st : State) → WaitsHere (call_next limits o pc vs fs st)
  call_here limits (Some e) pc vs fs st = either_here (nat_lt st.now.count limits.turns) _ _ (either_here (nat_lt st.depth limits.depth) _ _ tt tt) tt
  call_here limits None pc vs fs st = tt

  hook_here : (names : Names) (limit : ℕ) (o : Option Body) (pc : ℕ) (vs : List Val) (fs : List Frame) (st : State) → WaitsHere (hook_next names limit o pc vs fs st)
  hook_here names limit (Some e) pc vs fs st = either_here (nat_lt st.now.count limit) _ _ tt tt
  hook_here names limit None pc vs fs st = tt

  unit_here : (limits : Limits) (o : Option UnitCode) (u pc : ℕ) (vs : List Val) (fs : List Frame) (st : State) → WaitsHere (unit_next limits o u pc vs fs st)
  unit_here limits (Some e) u pc vs fs st = either_here (nat_lt st.now.count limits.turns) _ _ (either_here (nat_lt st.depth limits.depth) _ _ tt tt) tt
  unit_here limits None u pc vs fs st = tt

  read_here : (x : Read) (good : ℕ → ℕ → List ℕ → Next) (otherwise : Next) (fs : List Frame) (st : State) → st.move ≡ None → IsHere x → ((t n : ℕ) (bs : List ℕ) → WaitsHere (good t n bs)) → WaitsHere otherwise
      → WaitsHere (read_next x good otherwise fs st)
  read_here (Got t n bs) good otherwise fs st none h g k = g t n bs
  read_here (Lacks m) good otherwise fs st none h g k = (ap (λ o. least_with o m) none ∙ h.0, h.1)
  read_here (Shorts overs) good otherwise fs st none h g k = tt
  read_here NoWord good otherwise fs st none h g k = k

  -- bytes that are there, or lack
  bytes_here : (b : Bool) (n : ℕ) (bs overs : List ℕ) → IsHere (if b then Got 0 n bs else lacking over place overs)
  bytes_here true n bs overs = tt
  bytes_here false n bs overs = lacks over refl
    where
      lacks : (x : Bool) → over ≡ x → IsHere (lacking x place overs)
      lacks true e = tt
      lacks false e = (refl, e)

  module _ (p : Plain) (read : Reading → Ask → Read) where
    pub act_here : (o : Option Instr) (pc : ℕ) (vs : List Val) (fs : List Frame) (st : State) → st.move ≡ None → ((n : ℕ) → IsHere (read st.now (Bytes n))) → WaitsHere (act p read o pc vs fs st)
    act_here (Some (does.Store l)) pc (v ∷ vs) fs st none h = tt
    act_here (Some (does.GetField m)) pc (u ∷ vs) fs st none h = set_here (member_of st u m) (pc + 1) vs fs st
    act_here (Some (does.HasField m)) pc (u ∷ vs) fs st none h = tt
    act_here (Some (does.SetField m)) pc (u ∷ v ∷ vs) fs st none h = landed_here (pc + 1) vs fs (put_member u m v st)
    act_here (Some (does.Unary o)) pc (v ∷ vs) fs st none h = put_here (unary o v) (pc + 1) vs fs st
    act_here (Some (does.Binary o)) pc (y ∷ x ∷ vs) fs st none h = put_here (binary o x y) (pc + 1) vs fs st
    act_here (Some (does.Cast t)) pc (v ∷ vs) fs st none h = put_here (cast v t) (pc + 1) vs fs st
    act_here (Some does.Index) pc (k ∷ c ∷ vs) fs st none h = put_here (item_at c k) (pc + 1) vs fs st
    act_here (Some does.SetIndex) pc (x ∷ k ∷ c ∷ vs) fs st none h = put_here (with_at c k x) (pc + 1) vs fs st
    act_here (Some does.Size) pc (v ∷ vs) fs st none h = tt
    act_here (Some (does.Lib m)) pc vs fs st none h = put_all_here (method m (take (arity m) vs)) (pc + 1) (drop (arity m) vs) fs st
    act_here (Some does.AddKey) pc (k ∷ c ∷ vs) fs st none h = tt
    act_here (Some does.DeleteKey) pc (k ∷ c ∷ vs) fs st none h = tt
    act_here (Some does.Pop) pc (v ∷ vs) fs st none h = tt
    act_here (Some does.Dup) pc (k ∷ c ∷ vs) fs st none h = tt
    act_here (Some (does.JumpNot to)) pc (v ∷ vs) fs st none h = tt
    act_here (Some (does.Call f)) pc vs fs st none h = call_here p.limits (slice_get p.bodies f) (pc + 1) vs fs st
    act_here (Some does.Return) pc (v ∷ vs) fs st none h = tt
    act_here (Some does.Turn) pc vs fs st none h = either_here (nat_lt st.now.count p.limits.turns) _ _ tt tt
    act_here (Some does.EachStart) pc (c ∷ vs) fs st none h = tt
    act_here (Some (does.EachNext to)) pc (uint width i ∷ c ∷ vs) fs st none h = each_here p.limits.turns to (pc + 1) (slice_get (members_of c) i) i c vs fs st
    act_here (Some does.Assert) pc (t ∷ v ∷ vs) fs st none h = either_here (truth_of v) _ (raise_with _ (text_in t) fs st) tt tt
    act_here (Some does.Throw) pc (t ∷ vs) fs st none h = tt
    act_here (Some (does.EnterUnit u)) pc vs fs st none h = unit_here p.limits (slice_get p.units u) u (pc + 1) vs fs st
    act_here (Some (does.Hook n)) pc vs fs st none h = hook_here p.names p.limits.turns (slice_get p.bodies n) (pc + 1) vs fs st
    act_here (Some does.Offset) pc (u ∷ vs) fs st none h = tt
    act_here (Some (does.ReadInt form)) pc vs fs st none h = read_here (read st.now (Bytes (width_bytes form.width))) _ _ fs st none (h (width_bytes form.width)) (λ t n bs. tt) tt
    act_here _ pc vs fs st none h = tt

-- an integer of which bytes lack, over what is seen
pub seen_here : (x : Seen) (place n : ℕ) → IsHere x.over place (read_in no_tokens x place (Bytes n))
seen_here x place n = bytes_here x.over place (nat_le n (length x.ahead)) n (take n x.ahead) x.overs

-- an end that takes frames off never waits, and all is over by it where no frame is left
abbrev pub EndsBy : End → Next → Type 0
EndsBy how (Goes es d) = Unit {0}
EndsBy how (Waits m) = ⊥
EndsBy how (Over x st) = x ≡ how

landed_ends : (how : End) (to : ℕ) (vs : List Val) (fs : List Frame) (r : Result) → EndsBy how (landed to vs fs r)
landed_ends how to vs fs (Ends (Gives v) es st) = tt
landed_ends how to vs fs (Ends Fine es st) = tt
landed_ends how to vs fs (Ends _ es st) = tt

caught_ends : (how : End) (o : Option (ℕ × Error)) (f : Frame) (fs : List Frame) (st : State) (next : Next) → EndsBy how next → EndsBy how (unless_caught o f fs st next)
caught_ends how (Some c) f fs st next h = tt
caught_ends how None f fs st next h = h

pub end_ends : (how : End) (fs : List Frame) (st : State) → EndsBy how (take_off how fs st)
end_ends how [] st = refl
end_ends how (f ∷ fs) st = caught_ends how (caught f.scope how) f fs st _ (landed_ends how f.to f.below fs (leave f.scope how st))
