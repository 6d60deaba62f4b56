-- A step leads to no place before the base.
use Rattle.std.proofs.Common.{◌≡◌, ℕ, ◌+◌, ◌-◌, Bool, true, false, List, [], ◌∷◌, length, take, drop, Option, Some, None, Result as Answer, Ok, Err, refl, arith}
use Rattle.std.specs.Prelude.{slice_get, ◌==◌, nat_lt, if◌then◌else◌}
use Rattle.sp_base.specs.declared.kinds.PKind.{PKind}
use Rattle.sp_base.specs.declared.places.Limits.{Limits}
use Rattle.sp_value.specs.Val.{Val, uint, unit}
use Rattle.sp_value.specs.Parts.{text_in}
use Rattle.sp_operators.specs.Operators.{unary, binary, cast}
use Rattle.sp_methods.specs.Methods.{method}
use Rattle.sp_words.specs.Methods.{arity}
use Rattle.sp_meaning_states.specs.States.{Error, Source, Main, Given, Reading, State, End, Gives, Fine, Failed, Backs, Result, Ends, truth_of, member_of, put_member}
use Rattle.sp_meaning_states.specs.Scopes.{Scope, InUnit, InParts, InFailing, InCall, InSize, InMax, InFrom, InAt, InTry, Function, popped, put_place, unset_member, ends_fiber, leave, needs}
use Rattle.sp_meaning_states.specs.Scopes as called_is
use Rattle.sp_meaning_states.specs.Reads.{Ask, Bytes, Read, Got, Lacks, Shorts, NoWord, least_with}
use Rattle.sp_meaning_states.specs.Values.{item_at, with_at, members_of}
use Rattle.sp_meaning_states.specs.Types.{width_bytes}
use Rattle.sp_meaning_states.specs.Telling.{Names}
use Rattle.sp_code.specs.declared.instr.Instr.{Instr}
use Rattle.sp_code.specs.declared.instr.Instr.TheVariants as does
use Rattle.sp_code.specs.Machine.{Body, UnitCode, Frame, Plain, Config, Ending, Next, Goes, Waits, Over, put, put_all, raise_with, push_set, landed, caught_unless, caught, unless_caught, read_next, each_next, call_next, hook_next, unit_next, act, step}
use Rattle.sp_law_machine.specs.continues.Windows.{PlaceFrom, MoveFrom, IsLayered, OuterFrom, source_outside, readings_outside, ScopesFrom, scopes_of, StateFrom, From}

module _ (base : ℕ) (IsMark : ℕ → Type 0) where
  -- a step leads to no place before the base, and this is so of its mark where it waits
  abbrev pub After : Next → Type 0
  After (Goes es d) = From base d
  After (Waits mark) = IsMark mark
  After (Over how st) = Unit {0}

  abbrev LeftFrom : List Frame → Result → Type 0
  LeftFrom fs (Ends how es st) = StateFrom base fs st

  place_rises : (x : Source) (a n : ℕ) → PlaceFrom base x a → PlaceFrom base x (a + n)
  place_rises Main a n h = omega (arith, h)
  place_rises (Given b) a n h = tt

  layered_outside : (x : Source) (r : Reading) (rs : List Reading) → IsLayered x (r ∷ rs) → IsLayered r.source rs
  layered_outside Main r rs h = absurd h
  layered_outside (Given b) r rs h = h

  landed_after : (to : ℕ) (vs : List Val) (fs : List Frame) (r : Result) → LeftFrom fs r → After (landed to vs fs r)
  landed_after to vs fs (Ends (Gives v) es st) h = h
  landed_after to vs fs (Ends Fine es st) h = h
  landed_after to vs fs (Ends _ es st) h = h

  either_left : (fs : List Frame) (b : Bool) (r q : Result) → LeftFrom fs r → LeftFrom fs q → LeftFrom fs (if b then r else q)
  either_left fs true r q h g = h
  either_left fs false r q h g = g

  -- what is left of a `&parse-from`
  popped_from : (rs : List Reading) (fs : List Frame) (st : State) (level : ℕ) → IsLayered st.now.source rs → OuterFrom base rs → ScopesFrom base (source_outside st.now.source rs) (readings_outside rs) (scopes_of fs)
      → PlaceFrom base st.now.source st.now.place → StateFrom base fs (record (popped rs (record st { outer = rs })) { level = level; move = None })
  popped_from [] fs st level l t f h = (l, h, tt, f)
  popped_from (r ∷ rs) fs st level l t f h = (layered_outside st.now.source r rs l, t, tt, f)

  -- an end that leaves a construct
  leaves : (x : Scope) (fs : List Frame) (how : End) (st : State) → IsLayered st.now.source st.outer → PlaceFrom base st.now.source st.now.place → MoveFrom base st.now.source st.move
      → ScopesFrom base st.now.source st.outer (x ∷ scopes_of fs) → LeftFrom fs (leave x how st)
  leaves (InSize views limit) fs (Gives v) st l h m f = either_left fs (st.now.place == limit) _ _ (l, h, m, f) (l, h, m, f)
  leaves (InSize views limit) fs Fine st l h m f = (l, h, m, f)
  leaves (InSize views limit) fs _ st l h m f = (l, h, m, f)
  leaves (InMax views number start n) fs (Gives v) st l h m f = either_left fs (nat_lt n (st.now.place - start)) _ _ (l, h, m, f) (l, h, m, f)
  leaves (InMax views number start n) fs Fine st l h m f = (l, h, m, f)
  leaves (InMax views number start n) fs _ st l h m f = (l, h, m, f)
  leaves (InFrom level at) fs Fine st l h m f = popped_from st.outer fs st level l f.0 f.1 h
  leaves (InFrom level at) fs _ st l h m f = popped_from st.outer fs st level l f.0 f.1 h
  leaves (InAt level at) fs Fine st l h m f = (l, f.0, tt, f.1)
  leaves (InAt level at) fs _ st l h m f = (l, f.0, tt, f.1)
  leaves (InTry tries place unset) fs Backs st l h m f = back unset
    where
      back : (o : Option ℕ) → StateFrom base fs (record (put_place place (unset_member o st)) { tries = tries; move = None })
      back (Some n) = (l, f.0, tt, f.1)
      back None = (l, f.0, tt, f.1)
  leaves (InTry tries place unset) fs _ st l h m f = (l, h, m, f.1)
  leaves (InUnit true instance start self locals) fs Fine st l h m f = (l, h, m, f.1)
  leaves (InUnit true instance start self locals) fs _ st l h m f = (l, h, m, f.1)
  leaves (InUnit false instance start self locals) fs Fine st l h m f = (l, h, m, f)
  leaves (InUnit false instance start self locals) fs _ st l h m f = (l, h, m, f)
  leaves (InParts failing) fs Fine st l h m f = (l, h, m, f)
  leaves (InParts failing) fs _ st l h m f = (l, h, m, f)
  leaves (InFailing e) fs Fine st l h m f = (l, h, m, f)
  leaves (InFailing e) fs _ st l h m f = (l, h, m, f)
  leaves (InCall Function self locals) fs Fine st l h m f = (l, h, m, f)
  leaves (InCall Function self locals) fs _ st l h m f = (l, h, m, f)
  leaves (InCall (called_is.Called.Hook true) self locals) fs Fine st l h m f = (l, h, m, f)
  leaves (InCall (called_is.Called.Hook true) self locals) fs _ st l h m f = (l, h, m, f)
  leaves (InCall (called_is.Called.Hook false) self locals) fs Fine st l h m f = (l, h, m, f)
  leaves (InCall (called_is.Called.Hook false) self locals) fs _ st l h m f = (l, h, m, f)
  leaves (InCall called_is.Called.FailingHook self locals) fs Fine st l h m f = (l, h, m, f)
  leaves (InCall called_is.Called.FailingHook self locals) fs _ st l h m f = (l, h, m, f)

  -- a unit whose parts are left by an error
  fails_after : (b : Bool) (failing : ℕ) (e : Error) (f : Frame) (fs : List Frame) (st : State) (next : Next) → StateFrom base fs st → After next → After (unless_caught (caught_unless b failing e) f fs st next)
  fails_after true failing e f fs st next h g = g
  fails_after false failing e f fs st next h g = h

  taken_off : (x : Scope) (how : End) (f : Frame) (fs : List Frame) (st : State) (next : Next) → IsLayered st.now.source st.outer → PlaceFrom base st.now.source st.now.place → MoveFrom base st.now.source st.move
      → ScopesFrom base st.now.source st.outer (x ∷ scopes_of fs) → After next → After (unless_caught (caught x how) f fs st next)
  taken_off (InParts failing) (Failed e) f fs st next l h m g k = fails_after (ends_fiber e.kind) failing e f fs st next (l, h, m, g) k
  taken_off (InParts failing) _ f fs st next l h m g k = k
  taken_off _ how f fs st next l h m g k = k

  -- what becomes of a value, and of a choice
  put_after : (a : Answer Val PKind) (pc : ℕ) (vs : List Val) (fs : List Frame) (st : State) → StateFrom base fs st → After (put a pc vs fs st)
  put_after (Ok v) pc vs fs st h = h
  put_after (Err kind) pc vs fs st h = h

  put_all_after : (a : Answer (List Val) PKind) (pc : ℕ) (vs : List Val) (fs : List Frame) (st : State) → StateFrom base fs st → After (put_all a pc vs fs st)
  put_all_after (Ok ws) pc vs fs st h = h
  put_all_after (Err kind) pc vs fs st h = h

  set_after : (o : Option Val) (pc : ℕ) (vs : List Val) (fs : List Frame) (st : State) → StateFrom base fs st → After (push_set o pc vs fs st)
  set_after (Some v) pc vs fs st h = h
  set_after None pc vs fs st h = h

  member_after : (u v : Val) (m pc : ℕ) (vs : List Val) (fs : List Frame) (st : State) → StateFrom base fs st → After (landed pc vs fs (put_member u m v st))
  member_after (unit n) v m pc vs fs st h = h
  member_after _ v m pc vs fs st h = h

  either_after : (b : Bool) (x y : Next) → After x → After y → After (if b then x else y)
  either_after true x y h g = h
  either_after false x y h g = g

  either_from : (b : Bool) (c d : Config) → From base c → From base d → From base (if b then c else d)
  either_from true c d h g = h
  either_from false c d h g = g

  each_after : (limit to pc : ℕ) (o : Option Val) (i : ℕ) (c : Val) (vs : List Val) (fs : List Frame) (st : State) → StateFrom base fs st → After (each_next limit to pc o i c vs fs st)
  each_after limit to pc (Some x) i c vs fs st h = either_after (nat_lt st.now.count limit) _ _ h h
  each_after limit to pc None i c vs fs st h = h

  -- what is entered
  call_after : (limits : Limits) (o : Option Body) (pc : ℕ) (vs : List Val) (fs : List Frame) (st : State) → StateFrom base fs st → After (call_next limits o pc vs fs st)
  call_after limits (Some e) pc vs fs st h = either_after (nat_lt st.now.count limits.turns) _ _ (either_after (nat_lt st.depth limits.depth) _ _ h h) h
  call_after limits None pc vs fs st h = h

  hook_after : (names : Names) (limit : ℕ) (o : Option Body) (pc : ℕ) (vs : List Val) (fs : List Frame) (st : State) → StateFrom base fs st → After (hook_next names limit o pc vs fs st)
  hook_after names limit (Some e) pc vs fs st h = either_after (nat_lt st.now.count limit) _ _ h h
  hook_after names limit None pc vs fs st h = h

  unit_after : (limits : Limits) (o : Option UnitCode) (u pc : ℕ) (vs : List Val) (fs : List Frame) (st : State) → StateFrom base fs st → After (unit_next limits o u pc vs fs st)
  unit_after limits (Some e) u pc vs fs st h =
      either_after (nat_lt st.now.count limits.turns) _ _ (either_after (nat_lt st.depth limits.depth) _ _ (inside e.keeps) h) h
    where
      inside : (keeps : Bool) → StateFrom base (record { scope = InUnit keeps (length st.instances) st.now.place st.self st.locals; to = pc; below = [] } ∷ fs) st
      inside true = (h.0, h.1, h.2, (h.1, h.3))
      inside false = h
  unit_after limits None u pc vs fs st h = h

  -- a reading that may wait
  abbrev Lacking : Read → State → Type 0
  Lacking x st = (m : ℕ) → x ≡ Lacks m → IsMark (least_with st.move m)

  read_after : (x : Read) (good : ℕ → ℕ → List ℕ → Next) (otherwise : Next) (fs : List Frame) (st : State) → Lacking x st → StateFrom base fs st → ((t n : ℕ) (bs : List ℕ) → After (good t n bs)) → After otherwise
      → After (read_next x good otherwise fs st)
  read_after (Got t n bs) good otherwise fs st w h g k = g t n bs
  read_after (Lacks m) good otherwise fs st w h g k = w m refl
  read_after (Shorts overs) good otherwise fs st w h g k = h
  read_after NoWord good otherwise fs st w h g k = k

  module _ (p : Plain) (read : Reading → Ask → Read) where
    pub act_after : (o : Option Instr) (pc : ℕ) (vs : List Val) (fs : List Frame) (st : State) → ((a : Ask) → Lacking (read st.now a) st) → StateFrom base fs st → After (act p read o pc vs fs st)
    act_after (Some (does.Store l)) pc (v ∷ vs) fs st w h = h
    act_after (Some (does.GetField m)) pc (u ∷ vs) fs st w h = set_after (member_of st u m) (pc + 1) vs fs st h
    act_after (Some (does.HasField m)) pc (u ∷ vs) fs st w h = h
    act_after (Some (does.SetField m)) pc (u ∷ v ∷ vs) fs st w h = member_after u v m (pc + 1) vs fs st h
    act_after (Some (does.Unary o)) pc (v ∷ vs) fs st w h = put_after (unary o v) (pc + 1) vs fs st h
    act_after (Some (does.Binary o)) pc (y ∷ x ∷ vs) fs st w h = put_after (binary o x y) (pc + 1) vs fs st h
    act_after (Some (does.Cast t)) pc (v ∷ vs) fs st w h = put_after (cast v t) (pc + 1) vs fs st h
    act_after (Some does.Index) pc (k ∷ c ∷ vs) fs st w h = put_after (item_at c k) (pc + 1) vs fs st h
    act_after (Some does.SetIndex) pc (x ∷ k ∷ c ∷ vs) fs st w h = put_after (with_at c k x) (pc + 1) vs fs st h
    act_after (Some does.Size) pc (v ∷ vs) fs st w h = h
    act_after (Some (does.Lib m)) pc vs fs st w h = put_all_after (method m (take (arity m) vs)) (pc + 1) (drop (arity m) vs) fs st h
    act_after (Some does.AddKey) pc (k ∷ c ∷ vs) fs st w h = h
    act_after (Some does.DeleteKey) pc (k ∷ c ∷ vs) fs st w h = h
    act_after (Some does.Pop) pc (v ∷ vs) fs st w h = h
    act_after (Some does.Dup) pc (k ∷ c ∷ vs) fs st w h = h
    act_after (Some (does.JumpNot to)) pc (v ∷ vs) fs st w h = either_from (truth_of v) _ _ h h
    act_after (Some (does.Call f)) pc vs fs st w h = call_after p.limits (slice_get p.bodies f) (pc + 1) vs fs st h
    act_after (Some does.Return) pc (v ∷ vs) fs st w h = h
    act_after (Some does.Turn) pc vs fs st w h = either_after (nat_lt st.now.count p.limits.turns) _ _ h h
    act_after (Some does.EachStart) pc (c ∷ vs) fs st w h = h
    act_after (Some (does.EachNext to)) pc (uint width i ∷ c ∷ vs) fs st w h = each_after p.limits.turns to (pc + 1) (slice_get (members_of c) i) i c vs fs st h
    act_after (Some does.Assert) pc (t ∷ v ∷ vs) fs st w h = either_after (truth_of v) _ (raise_with _ (text_in t) fs st) h h
    act_after (Some does.Throw) pc (t ∷ vs) fs st w h = h
    act_after (Some (does.EnterUnit u)) pc vs fs st w h = unit_after p.limits (slice_get p.units u) u (pc + 1) vs fs st h
    act_after (Some (does.Hook n)) pc vs fs st w h = hook_after p.names p.limits.turns (slice_get p.bodies n) (pc + 1) vs fs st h
    act_after (Some does.Offset) pc (u ∷ vs) fs st w h = h
    act_after (Some (does.ReadInt form)) pc vs fs st w h =
        let a = Bytes (width_bytes form.width) in
        read_after (read st.now a) _ _ fs st (w a) h (λ t n bs. (h.0, place_rises st.now.source st.now.place n h.1, h.2, h.3)) h
    act_after _ pc vs fs st w h = h

    pub end_after : (how : End) (fs : List Frame) (st : State) → StateFrom base fs st → After (step p read (Ending how fs st))
    end_after how [] st h = tt
    end_after how (f ∷ fs) st h = taken_off f.scope how f fs st _ h.0 h.1 h.2 h.3 (landed_after f.to f.below fs _ (leaves f.scope fs how st h.0 h.1 h.2 h.3))
