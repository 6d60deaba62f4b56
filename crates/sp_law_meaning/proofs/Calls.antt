-- Calls of functions and bodies of hooks agree.
use Rattle.std.proofs.Common.{◌≡◌, ℕ, zero, suc, ◌-◌, ◌<◌, Bool, true, false, List, [], ◌∷◌, ◌++◌, length, take, reverse, Option, Some, None, refl, sym, ap, subst, arith, append_assoc, append-nil}
use Rattle.std.proofs.lemmas.List.{reverse-reverse}
use Rattle.std.proofs.lemmas.Bool.{ltb-true}
use Rattle.std.specs.Prelude.{nat_lt, slice_get, unwrap_or, if◌then◌else◌}
use Rattle.sp_base.specs.declared.kinds.PKind.TheVariants as error_is
use Rattle.sp_base.specs.declared.places.Limits.{Limits}
use Rattle.sp_events.specs.declared.event.What.{What}
use Rattle.sp_value.specs.Val.{Val, void}
use Rattle.sp_types.specs.Types.{Ty}
use Rattle.sp_typed.specs.Stmts.{Stmt}
use Rattle.sp_typed_units.specs.declared.declarations.Function.{Function}
use Rattle.sp_typed_units.specs.declared.declarations.Hook.{Hook}
use Rattle.sp_typed_units.specs.declared.declarations.Typed.{Typed}
use Rattle.sp_meaning_states.specs.States.{State, End, Gives, Fine, Failed, Returned, Stopped, Backs, Rejected, Need, Unfinished, Result, Ends, ends, behind, with_done, done, fails, local_of, parameter_of, turn, deeper}
use Rattle.sp_meaning_states.specs.Scopes.{called_where, Called, InCall, ends_fiber, dropped_unless, left, inside}
use Rattle.sp_meaning_states.specs.Scopes as called_is
use Rattle.sp_meaning_states.specs.Types.{zero_value}
use Rattle.sp_meaning_states.specs.Telling.{Names, value_trees}
use Rattle.sp_code_meaning.specs.Layouts.{Layout}
use Rattle.sp_meaning.specs.Globals.{globals_of}
use Rattle.sp_meaning.specs.Operations.{known}
use Rattle.sp_code_meaning.specs.Exprs.{offset_local, offset_means}
use Rattle.sp_meaning.specs.Hooks.{has_current, is_foreach, told_count}
use Rattle.sp_code_meaning.specs.Calls.{function_layout}
use Rattle.sp_meaning.specs.Calls.{zero_slots, body_means, with_slots, one_deeper, counted, call_means, hook_event, hook_means, hooks_mean}
use Rattle.sp_code_meaning.specs.Calls as laid
use Rattle.sp_meaning.specs.Around.{Around, with_arguments, parameter_in}
use Rattle.sp_meaning.specs.Exprs.{given_or, offset_at_hand}
use Rattle.sp_law_meaning.specs.Laws.{Behind, Agree}
use Rattle.sp_law_meaning.specs.Standing.{StmtStands, handed, AreHanded, ListStands}
use Rattle.sp_law_meaning.proofs.Agree.{Both, here, then_behind, ended, at_once, nothing, then_done}
use Rattle.sp_law_meaning.proofs.Framed.{framed, Framed, Placed, Alike, alike}
use Rattle.sp_law_meaning.proofs.Exprs.{CallsAgree}
use Rattle.sp_law_meaning.proofs.Stmts.{turn_same, stmt_same}

-- what told something before, and then a part
done_behind : (go : State → Result) (es : List What) (r : Result) → done go (behind es r) ≡ behind es (done go r)
done_behind go es (Ends Unfinished fs st) = refl
done_behind go es (Ends how fs st) = later (with_done go how st)
  where
    later : (r : Result) → behind (es ++ fs) r ≡ behind es (behind fs r)
    later (Ends also gs ts) = ap (λ l. Ends also l ts) (append_assoc es fs gs)

-- one part after another, which may be bound from either side
pub done_done : (go on : State → Result) (r : Result) → done go (done on r) ≡ done (λ st. done go (on st)) r
done_done go on (Ends Unfinished es st) = refl
done_done go on (Ends (Gives v) es st) = refl
done_done go on (Ends Fine es st) = done_behind go es (on st)
done_done go on (Ends how es st) = ap (λ l. Ends how l st) (append-nil (es ++ []))

-- the depth counts alike
deeper_same : (us : List Val) (limit : ℕ) → Alike us (deeper limit) (deeper limit)
deeper_same us limit = alike us (deeper limit) (deeper limit) (λ st. by_test (nat_lt st.depth limit) st)
  where
    by_test : (b : Bool) (st : State) → Agree (Framed us) (if b then ends Fine st else fails error_is.Depth st) (if b then ends Fine (framed us st) else fails error_is.Depth (framed us st))
    by_test true st = here refl
    by_test false st = here refl

-- what leaves a body that is called has the locals outside at hand again
module _ (us vs : List Val) (self : ℕ) (l : List Val) where
  abbrev Leaves : Called → End → State → State → Type 0
  Leaves called how st ts = Agree (Framed us) (left (InCall called self l) how st) (left (InCall called self (us ++ l)) how ts)

  from : (called : Called) (how : End) (st ts : State) → ts ≡ framed vs st → Leaves called how st (framed vs st) → Leaves called how st ts
  from called how st ts b h = subst (Leaves called how st) (sym b) h

  dropped : (b : Bool) → (e : _) (st : State) → Behind (Framed us) (dropped_unless b e) st (framed us st)
  dropped true e st = refl
  dropped false e st = refl

  leaves : (called : Called) (how : End) (st ts : State) → Behind (Framed vs) how st ts → Leaves called how st ts
  leaves called (Need m) st ts b = here tt
  leaves called_is.Called.Function (Returned v) st ts b = from called_is.Called.Function (Returned v) st ts b (here refl)
  leaves called_is.Called.Function (Failed e) st ts b = from called_is.Called.Function (Failed e) st ts b (here refl)
  leaves called_is.Called.Function Backs st ts b = from called_is.Called.Function Backs st ts b (here refl)
  leaves called_is.Called.Function Rejected st ts b = from called_is.Called.Function Rejected st ts b (here refl)
  leaves called_is.Called.Function _ st ts b = here tt
  leaves (called_is.Called.Hook true) (Returned v) st ts b = from (called_is.Called.Hook true) (Returned v) st ts b (here refl)
  leaves (called_is.Called.Hook true) Stopped st ts b = from (called_is.Called.Hook true) Stopped st ts b (here refl)
  leaves (called_is.Called.Hook true) (Failed e) st ts b = from (called_is.Called.Hook true) (Failed e) st ts b (here refl)
  leaves (called_is.Called.Hook true) Backs st ts b = from (called_is.Called.Hook true) Backs st ts b (here refl)
  leaves (called_is.Called.Hook true) Rejected st ts b = from (called_is.Called.Hook true) Rejected st ts b (here refl)
  leaves (called_is.Called.Hook true) _ st ts b = here tt
  leaves (called_is.Called.Hook false) (Returned v) st ts b = from (called_is.Called.Hook false) (Returned v) st ts b (here refl)
  leaves (called_is.Called.Hook false) (Failed e) st ts b = from (called_is.Called.Hook false) (Failed e) st ts b (here refl)
  leaves (called_is.Called.Hook false) Backs st ts b = from (called_is.Called.Hook false) Backs st ts b (here refl)
  leaves (called_is.Called.Hook false) Rejected st ts b = from (called_is.Called.Hook false) Rejected st ts b (here refl)
  leaves (called_is.Called.Hook false) _ st ts b = here tt
  leaves called_is.Called.FailingHook (Returned v) st ts b = from called_is.Called.FailingHook (Returned v) st ts b (here refl)
  leaves called_is.Called.FailingHook (Failed e) st ts b =
      from called_is.Called.FailingHook (Failed e) st ts b (record { how = refl; told = refl; behind = dropped (ends_fiber e.kind) e (called_is.outside self l st) })
  leaves called_is.Called.FailingHook Backs st ts b = from called_is.Called.FailingHook Backs st ts b (here refl)
  leaves called_is.Called.FailingHook Rejected st ts b = from called_is.Called.FailingHook Rejected st ts b (here refl)
  leaves called_is.Called.FailingHook _ st ts b = here tt

  pub inside_agree : (called : Called) (r s : Result) → Agree (Framed vs) r s → Agree (Framed us) (inside (InCall called self l) r) (inside (InCall called self (us ++ l)) s)
  inside_agree called r s a = ended (Framed vs) (Framed us) (left (InCall called self l)) (left (InCall called self (us ++ l))) (leaves called) r s a

-- before the end of a list stands what stands there in a longer one
get_before : (vs ws : List Val) (n : ℕ) → n < length vs → slice_get (vs ++ ws) n ≡ slice_get vs n
get_before [] ws n l = absurd (omega (arith, l))
get_before (v ∷ vs) ws zero l = refl
get_before (v ∷ vs) ws (suc n) l = get_before vs ws n (omega (arith, l))

none_below : (n : ℕ) → (b : Bool) → (b ≡ true → n < 0) → b ≡ false
none_below n true h = absurd (omega (arith, h refl))
none_below n false h = refl

-- a body that is handed its arguments
pub arguments_placed : (vs : List Val) (k current : ℕ) → length vs ≡ k → Placed (with_arguments vs) (record { own = k; current = current; offset = None; first = k }) vs
arguments_placed vs k current e =
    record {
      first = e;
      parameters = λ n st. subst (λ k. (if nat_lt n k then local_of (framed vs st) n else parameter_of st (n - k)) ≡ parameter_in (with_arguments vs) n st) e (by_test n st (nat_lt n (length vs)) (ltb-true n (length vs)));
      current = λ v c. absurd (let q : None ≡ Some v = c in cc);
      offset = by_self;
    }
  where
    by_test : (n : ℕ) (st : State) (b : Bool) → (b ≡ true → n < length vs)
        → (if b then local_of (framed vs st) n else parameter_of st (n - length vs)) ≡ (if b then unwrap_or (slice_get vs n) void else parameter_of st (n - length vs))
    by_test n st true h = ap (λ o. unwrap_or o void) (get_before vs st.locals n (h refl))
    by_test n st false h = refl

    by_self : (b : Bool) (go on : State → Result) → Both (Framed vs) go on
        → Both (Framed vs) (given_or (offset_at_hand (with_arguments vs) b) go) (offset_means (offset_local (record { own = k; current = current; offset = None; first = k }) b) on)
    by_self true go on h = h
    by_self false go on h = h

abbrev pub nothing_handed : List Val
nothing_handed = []

-- a body that is handed `$$` and an offset
field_placed : (v o : Val) → Placed (record { arguments = []; current = Some v; offset = Some o }) (record { own = 0; current = 0; offset = Some 1; first = 2 }) (v ∷ o ∷ [])
field_placed v o =
    record {
      first = refl;
      parameters = λ n st. by_test n st (nat_lt n 0) (none_below n (nat_lt n 0) (ltb-true n 0));
      current = λ w c st. let q : Some v ≡ Some w = c in cc;
      offset = by_self;
    }
  where
    by_test : (n : ℕ) (st : State) (b : Bool) → b ≡ false
        → (if b then local_of (framed (v ∷ o ∷ []) st) n else parameter_of st (n - 0)) ≡ (if b then unwrap_or (slice_get nothing_handed n) void else parameter_of st (n - 0))
    by_test n st true e = absurd (let q : true ≡ false = e in cc)
    by_test n st false e = refl

    by_self : (b : Bool) (go on : State → Result) → Both (Framed (v ∷ o ∷ [])) go on
        → Both (Framed (v ∷ o ∷ [])) (given_or (offset_at_hand (record { arguments = []; current = Some v; offset = Some o }) b) go)
        (offset_means (offset_local (record { own = 0; current = 0; offset = Some 1; first = 2 }) b) on)
    by_self true go on h =
        alike (v ∷ o ∷ []) (given_or (Some o) go) (offset_means (Some 1) on) (λ st. here refl)
    by_self false go on h = h

-- Where a body of a hook has what it is handed, by its layout and by name.
abbrev around_by : Bool → List Val → Around
around_by b vs = if b then record { arguments = []; current = slice_get vs 0; offset = slice_get vs 1 } else with_arguments vs

abbrev layout_by : Bool → Hook → Layout
layout_by b x = if b then record { own = 0; current = 0; offset = Some 1; first = 2 } else record { own = length x.parameters; current = 0; offset = None; first = length x.parameters }

hook_placed : (x : Hook) (b : Bool) (vs : List Val) → (if b then 2 else length x.parameters) ≡ length vs → Placed (around_by b vs) (layout_by b x) vs
hook_placed x true [] e = absurd (omega (arith, e))
hook_placed x true (v ∷ []) e = absurd (omega (arith, e))
hook_placed x true (v ∷ o ∷ []) e = field_placed v o
hook_placed x true (v ∷ o ∷ w ∷ vs) e = absurd (omega (arith, e))
hook_placed x false vs e = arguments_placed vs (length x.parameters) 0 (sym e)

hook_current : (x : Hook) (b : Bool) (vs : List Val) → (if b then 2 else length x.parameters) ≡ length vs → b ≡ true → (v : Val) × ((around_by b vs).current ≡ Some v)
hook_current x true [] e q = absurd (omega (arith, e))
hook_current x true (v ∷ vs) e q = (v, refl)
hook_current x false vs e q = absurd (let z : false ≡ true = q in cc)

module _ (names : Names) (hook_names : List (List ℕ)) (list : Typed) (limits : Limits) (stands : ListStands list) where
  abbrev means : ℕ → ℕ → List Val → State → Result
  means n f vs = call_means names hook_names list limits n f vs

  abbrev too : ℕ → ℕ → List Val → State → Result
  too n f vs = laid.call_means names hook_names list limits n f vs

  -- a body, from its own frame
  body_same : (n : ℕ) (around : Around) (layout : Layout) (us : List Val) → Placed around layout us → (has : Bool) → (has ≡ true → (v : Val) × (around.current ≡ Some v)) → (ending : Val) (b : Stmt)
      → StmtStands has list.functions b → CallsAgree us list.functions (means n) (too n)
      → Alike us (body_means names hook_names list limits n (means n) around ending b) (laid.body_means names hook_names list limits n (too n) layout ending b)
  body_same n around layout us placed has there ending b s calls =
      then_done (Framed us) _ _ _ _ (stmt_same names (globals_of list) limits.turns list.functions around layout us placed has there (means n) (too n) calls n b s) (at_once (Framed us) (Returned ending))

  -- the state in which a body begins, by what it is handed, in the order of code
  abbrev begun : List Val → List Ty → State → State
  begun ws slots st = record st { locals = ws ++ zero_slots (globals_of list).ranges slots }

  -- what a call of a function does once its turn and its depth are counted
  abbrev called : ℕ → List Val → Function → State → Result
  called n vs x st =
      inside (InCall called_is.Called.Function st.self st.locals)
      (body_means names hook_names list limits n (means n) (with_arguments vs) (zero_value (globals_of list).ranges x.result) x.body (one_deeper names hook_names list limits (with_slots names hook_names list limits x.slots st)))

  abbrev called_by : ℕ → List Val → Function → State → Result
  called_by n ws x st =
      inside (InCall called_is.Called.Function st.self st.locals)
      (laid.body_means names hook_names list limits n (too n) (function_layout x) (zero_value (globals_of list).ranges x.result) x.body (one_deeper names hook_names list limits (begun ws x.slots st)))

  called_same : (n : ℕ) (us vs : List Val) (x : Function) → length vs ≡ length x.parameters → StmtStands false list.functions x.body → CallsAgree vs list.functions (means n) (too n)
      → Alike us (called n vs x) (called_by n (reverse (reverse vs)) x)
  called_same n us vs x l s calls =
      subst (λ ws. Alike us (called n vs x) (called_by n ws x)) (sym (reverse-reverse vs))
      (alike us (called n vs x) (called_by n vs x) (λ st.
      inside_agree us vs st.self st.locals called_is.Called.Function _ _
      (body_same n (with_arguments vs) (function_layout x) vs (arguments_placed vs (length x.parameters) 0 l) false (λ q. absurd (let z : false ≡ true = q in cc)) (zero_value (globals_of list).ranges x.result) x.body s calls
      (one_deeper names hook_names list limits (with_slots names hook_names list limits x.slots st)) (one_deeper names hook_names list limits (begun vs x.slots st)) refl)))

  -- a turn and the depth are counted before a part
  pub counted_same : (us : List Val) (go on : State → Result) → Alike us go on → Alike us (counted names hook_names list limits go) (λ st. done (λ st. done on (deeper limits.depth st)) (turn limits.turns st))
  counted_same us go on h st ts r =
      subst (λ s. Agree (Framed us) s (done (λ st. done on (deeper limits.depth st)) (turn limits.turns ts))) (sym (done_done go (deeper limits.depth) (turn limits.turns st)))
      (then_done (Framed us) (turn limits.turns) (turn limits.turns) (λ st. done go (deeper limits.depth st)) (λ st. done on (deeper limits.depth st)) (turn_same us limits.turns)
      (then_done (Framed us) (deeper limits.depth) (deeper limits.depth) go on (deeper_same us limits.depth) h) st ts r)

  pub calls_same : (n : ℕ) (us : List Val) → CallsAgree us list.functions (means n) (too n)
  calls_same zero us f vs l = nothing (Framed us)
  calls_same (suc n) us f vs l = by_function (calls_same n vs) (slice_get list.functions f) refl
    where
      by_function : CallsAgree vs list.functions (means n) (too n) → (o : Option Function) → slice_get list.functions f ≡ o
          → Alike us (known o (λ x. counted names hook_names list limits (called n vs x))) (known o (λ x st. done (λ st. done (called_by n (reverse (reverse vs)) x) (deeper limits.depth st)) (turn limits.turns st)))
      by_function calls None e = nothing (Framed us)
      by_function calls (Some x) e = counted_same us (called n vs x) (called_by n (reverse (reverse vs)) x) (called_same n us vs x (l x e) (stands.bodies.functions f x e) calls)

  -- one body of a hook, once its turn is counted
  abbrev run : (failing : Bool) → ℕ → ℕ → List Val → Hook → State → Result
  run failing n h vs x st =
      behind (hook_event names hook_names list limits h x vs st ∷ [])
      (inside (InCall (called_where failing (called_is.Called.Hook (is_foreach x.of))) st.self st.locals)
      (body_means names hook_names list limits n (means n) (around_by (has_current x.of) vs) void x.body (with_slots names hook_names list limits x.slots st)))

  abbrev run_by : (failing : Bool) → ℕ → ℕ → List Val → Hook → State → Result
  run_by failing n h ws x st =
      behind (What.Hook (unwrap_or (slice_get hook_names h) []) (value_trees names st.instances (take (told_count x) ws)) ∷ [])
      (inside (InCall (called_where failing (called_is.Called.Hook (is_foreach x.of))) st.self st.locals)
      (laid.body_means names hook_names list limits n (too n) (layout_by (has_current x.of) x) void x.body (begun ws x.slots st)))

  run_same : (failing : Bool) (n h : ℕ) (us vs : List Val) (x : Hook) → handed x ≡ length vs → StmtStands (has_current x.of) list.functions x.body → Alike us (run failing n h vs x) (run_by failing n h (reverse (reverse vs)) x)
  run_same failing n h us vs x l s =
      subst (λ ws. Alike us (run failing n h vs x) (run_by failing n h ws x)) (sym (reverse-reverse vs))
      (alike us (run failing n h vs x) (run_by failing n h vs x) (λ st.
      then_behind (Framed us) (hook_event names hook_names list limits h x vs st ∷ []) _ _
      (inside_agree us vs st.self st.locals (called_where failing (called_is.Called.Hook (is_foreach x.of))) _ _
      (body_same n (around_by (has_current x.of) vs) (layout_by (has_current x.of) x) vs (hook_placed x (has_current x.of) vs l) (has_current x.of) (hook_current x (has_current x.of) vs l) void x.body s (calls_same n vs)
      (with_slots names hook_names list limits x.slots st) (begun vs x.slots st) refl))))

  pub hook_same : (failing : Bool) (n h : ℕ) (us vs : List Val) → ((x : Hook) → slice_get list.hooks h ≡ Some x → handed x ≡ length vs)
      → Alike us (hook_means names hook_names list limits failing n h vs) (laid.hook_means names hook_names list limits failing n h (reverse vs))
  hook_same failing n h us vs l = by_hook (slice_get list.hooks h) refl
    where
      by_hook : (o : Option Hook) → slice_get list.hooks h ≡ o
          → Alike us (known o (λ x st. done (run failing n h vs x) (turn limits.turns st))) (known o (λ x st. done (run_by failing n h (reverse (reverse vs)) x) (turn limits.turns st)))
      by_hook None e = nothing (Framed us)
      by_hook (Some x) e =
          then_done (Framed us) (turn limits.turns) (turn limits.turns) (run failing n h vs x) (run_by failing n h (reverse (reverse vs)) x) (turn_same us limits.turns)
          (run_same failing n h us vs x (l x e) (stands.bodies.hooks h x e))

  pub hooks_same : (failing : Bool) (n : ℕ) (hs : List ℕ) (us vs : List Val) → AreHanded list (length vs) hs
      → Alike us (hooks_mean names hook_names list limits failing n hs vs) (laid.hooks_mean names hook_names list limits failing n hs (reverse vs))
  hooks_same failing n [] us vs l = at_once (Framed us) Fine
  hooks_same failing n (h ∷ hs) us vs l = then_done (Framed us) _ _ _ _ (hook_same failing n h us vs l.0) (hooks_same failing n hs us vs l.1)
