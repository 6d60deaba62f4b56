-- Each step that goes on leaves fewer steps.
use Rattle.std.proofs.Common.{◌≡◌, ℕ, ◌+◌, ◌*◌, ◌<◌, ◌≤◌, Bool, true, false, List, [], ◌∷◌, length, take, drop, Option, Some, None, Result as Answer, Ok, Err, refl, sym, subst, arith}
use Rattle.std.specs.Prelude.{nat_lt, slice_get, if◌then◌else◌}
use Rattle.std.proofs.lemmas.Bool.{ltb-true}
use Rattle.std.proofs.Math.Nat.{mul-le-mul_right}
use Rattle.sp_base.specs.declared.kinds.PKind.{PKind}
use Rattle.sp_base.specs.declared.kinds.PKind.TheVariants as error_is
use Rattle.sp_base.specs.Input.{Close}
use Rattle.sp_words.specs.Methods.{arity}
use Rattle.sp_value.specs.Val.{Val, uint, unit}
use Rattle.sp_value.specs.Integers.{integer_of}
use Rattle.sp_value.specs.Parts.{text_in}
use Rattle.sp_operators.specs.Operators.{unary, binary, cast}
use Rattle.sp_methods.specs.Methods.{method}
use Rattle.sp_meaning_states.specs.States.{Error, State, End, Gives, Fine, Failed, Result, Ends, one_more, go, truth_of, member_of, put_member}
use Rattle.sp_meaning_states.specs.Scopes.{Scope, InParts, ends_fiber, leave}
use Rattle.sp_meaning_states.specs.Reads.{Bytes, Read, Got, Lacks, Shorts, NoWord, Verdict, reads}
use Rattle.sp_meaning_states.specs.Values.{item_at, with_at, members_of}
use Rattle.sp_meaning_states.specs.Types.{width_bytes}
use Rattle.sp_code.specs.declared.instr.Instr.{Instr}
use Rattle.sp_code.specs.declared.instr.Instr.TheVariants.{Const, Load, Store, Param, SelfUnit, GetField, HasField, SetField, Unary, Binary, Cast, MakeTuple, MakeVector, MakeSet, MakeMap, Index, SetIndex, Size, Lib, AddKey, DeleteKey, Pop, Dup, Under, Jump, JumpNot, Call, Return, Turn, EachStart, EachNext, Print, Assert, Throw, Fail, EnterUnit, LeaveUnit, Hook, Offset, ReadInt}
use Rattle.sp_code.specs.Machine.{Body, UnitCode, Plain, Frame, Config, At, Ending, Next, Goes, Waits, Over, put, put_all, raise_with, raise, push_set, landed, caught_unless, caught, unless_caught, take_off, read_next, each_next, call_next, hook_next, unit_next, act, step}
use Rattle.sp_code.specs.Can.{IsNumber, Can}
use Rattle.sp_code.specs.Turns.{edges, AreLower, Turns}
use Rattle.sp_law_machine.specs.ends.Ending.{height_of, exits, exits_left, budget, rises_left, steps_left, CanAct}
use Rattle.sp_law_machine.specs.ends.Laws.{StepsFall}
use Rattle.sp_law_machine.proofs.ends_lemmas.Heights.{heights_low, heights_fall}
use Rattle.sp_law_machine.proofs.ends_lemmas.Budget.{IsWithin, is_within, some_bytes, going_has_less, HasAtMost, leave_has_less}

module _ (p : Plain) (s : List ℕ) where
  abbrev weight : ℕ
  weight = length p.code + 2

  abbrev left : State → ℕ
  left st = budget p.limits.turns s st

  abbrev rises : List Frame → State → ℕ
  rises fs st = rises_left p.limits.turns s fs st

  -- a step that goes on leads below this number
  abbrev Below : ℕ → Next → Type 0
  Below n (Goes es d) = steps_left p s d < n
  Below n (Waits m) = Unit {0}
  Below n (Over how st) = Unit {0}

  same_weight : (a b : ℕ) → a ≤ b → a * weight ≤ b * weight
  same_weight a b h = mul-le-mul_right weight h

  less_weight : (a b : ℕ) → a + 1 ≤ b → a * weight + weight ≤ b * weight
  less_weight a b h = let m = mul-le-mul_right weight h in omega (arith, m)

  -- what takes a frame off leads anywhere
  freed : (fs : List Frame) (st after : State) (h : ℕ) → left after ≤ left st → h < weight → rises fs after * weight + h < (4 * left st + (1 + exits_left fs)) * weight
  freed fs st after h l m = let w = less_weight (rises fs after) (4 * left st + (1 + exits_left fs)) (omega arith) in omega (arith, w)

  choose : (n : ℕ) (b : Bool) (x y : Next) → (b ≡ true → Below n x) → Below n y → Below n (if b then x else y)
  choose n true x y h k = h refl
  choose n false x y h k = k

  landed_falls : (fs : List Frame) (st : State) (to : ℕ) (ws : List Val) (r : Result) → HasAtMost p.limits.turns s (left st) r → Below ((4 * left st + (1 + exits_left fs)) * weight) (landed to ws fs r)
  landed_falls fs st to ws (Ends (Gives v) es after) h = freed fs st after (height_of p to + 1) h (omega (arith, heights_low p to))
  landed_falls fs st to ws (Ends Fine es after) h = freed fs st after (height_of p to + 1) h (omega (arith, heights_low p to))
  landed_falls fs st to ws (Ends _ es after) h = let l = freed fs st after 0 h (omega arith) in omega (arith, l)

  module _ (pc : ℕ) (fs : List Frame) (st : State) where
    abbrev here : ℕ
    here = rises fs st * weight + (height_of p pc + 1)

    -- a step to a lower address, and an end
    lower : (to : ℕ) (after : State) → height_of p to < height_of p pc → left after ≤ left st → rises fs after * weight + (height_of p to + 1) < here
    lower to after h l = let w = same_weight (rises fs after) (rises fs st) (omega arith) in omega (arith, w)

    ending : (after : State) → left after ≤ left st → rises fs after * weight < here
    ending after l = let w = same_weight (rises fs after) (rises fs st) (omega arith) in omega (arith, w)

    -- a turn leads to any address, and at most enters a unit
    turned : (to n : ℕ) (after : State) → n ≤ 3 + exits_left fs → left after + 1 ≤ left st → (4 * left after + n) * weight + (height_of p to + 1) < here
    turned to n after f l =
        let w = less_weight (4 * left after + n) (rises fs st) (omega arith) in let m = heights_low p to in omega (arith, w, m)

    put_falls : (to : ℕ) (a : Answer Val PKind) (vs : List Val) → height_of p to < height_of p pc → Below here (put a to vs fs st)
    put_falls to (Ok v) vs h = omega arith
    put_falls to (Err kind) vs h = omega arith

    put_all_falls : (to : ℕ) (a : Answer (List Val) PKind) (vs : List Val) → height_of p to < height_of p pc → Below here (put_all a to vs fs st)
    put_all_falls to (Ok ws) vs h = omega arith
    put_all_falls to (Err kind) vs h = omega arith

    push_falls : (to : ℕ) (o : Option Val) (vs : List Val) → height_of p to < height_of p pc → Below here (push_set o to vs fs st)
    push_falls to (Some v) vs h = omega arith
    push_falls to None vs h = omega arith

    member_falls : (to : ℕ) (u : Val) (m : ℕ) (v : Val) (vs : List Val) → height_of p to < height_of p pc → Below here (landed to vs fs (put_member u m v st))
    member_falls to (unit n) m v vs h = omega arith
    member_falls to _ m v vs h = omega arith

    jump_falls : (b : Bool) (on off : ℕ) (vs : List Val) → height_of p on < height_of p pc → height_of p off < height_of p pc → Below here (Goes [] (if b then At on vs fs st else At off vs fs st))
    jump_falls true on off vs h l = omega arith
    jump_falls false on off vs h l = omega arith

    counted_falls : (x : Next) → (left (one_more st) + 1 ≤ left st → Below here x) → Below here (if nat_lt st.now.count p.limits.turns then x else raise error_is.Turns fs st)
    counted_falls x h = choose here (nat_lt st.now.count p.limits.turns) x _ (λ e. let below = ltb-true st.now.count p.limits.turns e in h (omega arith)) (omega arith)

    nested_falls : (x : Next) → Below here x → Below here (if nat_lt st.depth p.limits.depth then x else raise error_is.Depth fs (one_more st))
    nested_falls x h = choose here (nat_lt st.depth p.limits.depth) x _ (λ e. h) (ending (one_more st) (omega arith))

    call_falls : (e : Body) (vs : List Val) → Below here (call_next p.limits (Some e) (pc + 1) vs fs st)
    call_falls e vs = counted_falls _ (λ l. nested_falls _ (turned e.start (1 + exits_left fs) (one_more st) (omega arith) l))

    hook_falls : (e : Body) (vs : List Val) → Below here (hook_next p.names p.limits.turns (Some e) (pc + 1) vs fs st)
    hook_falls e vs = counted_falls _ (λ l. turned e.start (1 + exits_left fs) (one_more st) (omega arith) l)

    unit_falls : (e : UnitCode) (u : ℕ) (vs : List Val) → Below here (unit_next p.limits (Some e) u (pc + 1) vs fs st)
    unit_falls e u vs = counted_falls _ (λ l. nested_falls _ (turned e.start (2 + (1 + exits_left fs)) (one_more st) (omega arith) l))

    each_falls : (to : ℕ) (o : Option Val) (i : ℕ) (c : Val) (vs : List Val) → height_of p to < height_of p pc → Below here (each_next p.limits.turns to (pc + 1) o i c vs fs st)
    each_falls to (Some x) i c vs h = counted_falls _ (λ l. turned (pc + 1) (exits_left fs) (one_more st) (omega arith) l)
    each_falls to None i c vs h = omega arith

    read_falls : (to : ℕ) (r : Read) (value : List ℕ → Val) (vs : List Val) → IsWithin s st.now r → height_of p to < height_of p pc → Below here (read_next r (λ t n bs. Goes [] (At to (value bs ∷ vs) fs (go (st.now.place + n) st))) (raise error_is.NoMatch fs st) fs st)
    read_falls to (Got t n bs) value vs w h =
        let l = going_has_less p.limits.turns s (st.now.place + n) st.now w in lower to (go (st.now.place + n) st) h (omega (arith, l))
    read_falls to (Lacks m) value vs w h = tt
    read_falls to (Shorts overs) value vs w h = omega arith
    read_falls to NoWord value vs w h = omega arith

    module _ (verdict : ℕ → List ℕ → Bool → Verdict) (close : Close) where
      each_step : (to : ℕ) (x c : Val) (vs : List Val) → IsNumber x → height_of p to < height_of p pc → Below here (act p (reads verdict s close) (Some (EachNext to)) pc (x ∷ c ∷ vs) fs st)
      each_step to (uint w i) c vs n h = each_falls to (slice_get (members_of c) i) i c vs h
      each_step to _ c vs n h = absurd n

      act_falls : (o : Option Instr) (vs : List Val) → AreLower (height_of p) (height_of p pc) (edges o pc) → Can p o vs st → Below here (act p (reads verdict s close) o pc vs fs st)
      act_falls (Some (Const c)) vs h can = omega arith
      act_falls (Some (Load l)) vs h can = omega arith
      act_falls (Some (Store l)) (v ∷ vs) h can = omega arith
      act_falls (Some (Param n)) vs h can = omega arith
      act_falls (Some SelfUnit) vs h can = omega arith
      act_falls (Some (GetField m)) (u ∷ vs) h can = push_falls (pc + 1) (member_of st u m) vs h.0
      act_falls (Some (HasField m)) (u ∷ vs) h can = omega arith
      act_falls (Some (SetField m)) (u ∷ v ∷ vs) h can = member_falls (pc + 1) u m v vs h.0
      act_falls (Some (Unary o)) (v ∷ vs) h can = put_falls (pc + 1) (unary o v) vs h.0
      act_falls (Some (Binary o)) (y ∷ x ∷ vs) h can = put_falls (pc + 1) (binary o x y) vs h.0
      act_falls (Some (Cast t)) (v ∷ vs) h can = put_falls (pc + 1) (cast v t) vs h.0
      act_falls (Some (MakeTuple n)) vs h can = omega arith
      act_falls (Some (MakeVector n)) vs h can = omega arith
      act_falls (Some (MakeSet n)) vs h can = omega arith
      act_falls (Some (MakeMap n)) vs h can = omega arith
      act_falls (Some Index) (k ∷ c ∷ vs) h can = put_falls (pc + 1) (item_at c k) vs h.0
      act_falls (Some SetIndex) (x ∷ k ∷ c ∷ vs) h can = put_falls (pc + 1) (with_at c k x) vs h.0
      act_falls (Some Size) (v ∷ vs) h can = omega arith
      act_falls (Some (Lib m)) vs h can = put_all_falls (pc + 1) (method m (take (arity m) vs)) (drop (arity m) vs) h.0
      act_falls (Some AddKey) (k ∷ c ∷ vs) h can = omega arith
      act_falls (Some DeleteKey) (k ∷ c ∷ vs) h can = omega arith
      act_falls (Some Pop) (v ∷ vs) h can = omega arith
      act_falls (Some Dup) (k ∷ c ∷ vs) h can = omega arith
      act_falls (Some (Under n)) vs h can = omega arith
      act_falls (Some (Jump to)) vs h can = omega arith
      act_falls (Some (JumpNot to)) (v ∷ vs) h can = jump_falls (truth_of v) (pc + 1) to vs h.1.0 h.0
      act_falls (Some (Call f)) vs h can = subst (λ o. Below here (call_next p.limits o (pc + 1) vs fs st)) (sym can.1) (call_falls can.0 vs)
      act_falls (Some Return) (v ∷ vs) h can = omega arith
      act_falls (Some Turn) vs h can = counted_falls _ (λ l. turned (pc + 1) (exits_left fs) (one_more st) (omega arith) l)
      act_falls (Some EachStart) (c ∷ vs) h can = omega arith
      act_falls (Some (EachNext to)) (x ∷ c ∷ vs) h can = each_step to x c vs can.1 h.0
      act_falls (Some (Print n)) vs h can = omega arith
      act_falls (Some Assert) (t ∷ v ∷ vs) h can = choose here (truth_of v) (Goes [] (At (pc + 1) vs fs st)) (raise_with error_is.Assert (text_in t) fs st) (λ e. omega arith) (omega arith)
      act_falls (Some Throw) (t ∷ vs) h can = omega arith
      act_falls (Some (Fail kind)) vs h can = omega arith
      act_falls (Some (EnterUnit u)) vs h can = subst (λ o. Below here (unit_next p.limits o u (pc + 1) vs fs st)) (sym can.1) (unit_falls can.0 u vs)
      act_falls (Some LeaveUnit) vs h can = omega arith
      act_falls (Some (Hook n)) vs h can = subst (λ o. Below here (hook_next p.names p.limits.turns o (pc + 1) vs fs st)) (sym can.1) (hook_falls can.0 vs)
      act_falls (Some Offset) (u ∷ vs) h can = omega arith
      act_falls (Some (ReadInt form)) vs h can =
          read_falls (pc + 1) (reads verdict s close st.now (Bytes (width_bytes form.width))) (λ bs. integer_of form.little form.signed bs) vs
          (is_within verdict s close st.now (width_bytes form.width) (some_bytes form.width))
          h.0
      -- what stays can't act
      act_falls _ _ h can = absurd (omega arith)

  -- the parts of a unit count once more than a frame that is only left
  below_more : (m n : ℕ) (next : Next) → m ≤ n → Below m next → Below n next
  below_more m n (Goes es d) l h = omega (arith, h)
  below_more m n (Waits mark) l h = tt
  below_more m n (Over how st) l h = tt

  caught_falls : (b : Bool) (failing : ℕ) (e : Error) (f : Frame) (fs : List Frame) (st : State) (next : Next) → Below ((4 * left st + (1 + exits_left fs)) * weight) next
      → Below ((4 * left st + (2 + exits_left fs)) * weight) (unless_caught (caught_unless b failing e) f fs st next)
  caught_falls true failing e f fs st next h = below_more _ _ next (same_weight (4 * left st + (1 + exits_left fs)) (4 * left st + (2 + exits_left fs)) (omega arith)) h
  caught_falls false failing e f fs st next h =
      let w = less_weight (4 * left st + (1 + exits_left fs)) (4 * left st + (2 + exits_left fs)) (omega arith) in let m = heights_low p failing in omega (arith, w, m)

  taken_falls : (x : Scope) (how : End) (f : Frame) (fs : List Frame) (st : State) (next : Next) → Below ((4 * left st + (1 + exits_left fs)) * weight) next
      → Below ((4 * left st + (exits x + exits_left fs)) * weight) (unless_caught (caught x how) f fs st next)
  taken_falls (InParts failing) (Failed e) f fs st next h = caught_falls (ends_fiber e.kind) failing e f fs st next h
  taken_falls (InParts failing) _ f fs st next h = below_more _ _ next (same_weight (4 * left st + (1 + exits_left fs)) (4 * left st + (2 + exits_left fs)) (omega arith)) h
  taken_falls _ how f fs st next h = h

  take_off_falls : (how : End) (fs : List Frame) (st : State) → Below (rises fs st * weight) (take_off how fs st)
  take_off_falls how [] st = tt
  take_off_falls how (f ∷ fs) st = taken_falls f.scope how f fs st _ (landed_falls fs st f.to f.below (leave f.scope how st) (leave_has_less p.limits.turns s f.scope how st))

  falls : Turns p → (verdict : ℕ → List ℕ → Bool → Verdict) (close : Close) (c : Config) → CanAct p c → Below (steps_left p s c) (step p (reads verdict s close) c)
  falls turns verdict close (At pc vs fs st) can = act_falls pc fs st verdict close (slice_get p.code pc) vs (heights_fall p turns pc).0 can
  falls turns verdict close (Ending how fs st) can = take_off_falls how fs st

pub steps_fall : StepsFall
steps_fall p turns verdict s close c d es can e = subst (Below p s (steps_left p s c)) e (falls p s turns verdict close c can)
