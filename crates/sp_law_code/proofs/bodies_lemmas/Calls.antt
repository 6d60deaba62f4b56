-- Bodies that are called: a frame is opened, the body runs in it, and its end takes the frame off.
use Rattle.std.proofs.Common.{◌≡◌, ℕ, zero, suc, ◌+◌, Bool, true, false, List, [], ◌∷◌, ◌++◌, length, drop, reverse, Option, Some, None, refl, sym, ap, ◌∙◌}
use Rattle.std.specs.Prelude.{nat_lt, slice_get, unwrap_or, if◌then◌else◌}
use Rattle.sp_base.specs.declared.kinds.PKind.TheVariants.{Turns, Depth}
use Rattle.sp_events.specs.declared.event.What.{What}
use Rattle.sp_value.specs.Val.{Val}
use Rattle.sp_methods.specs.Kinds.{Kind}
use Rattle.sp_typed.specs.Stmts.{Stmt}
use Rattle.sp_typed_units.specs.declared.declarations.Function.{Function}
use Rattle.sp_typed_units.specs.declared.declarations.Typed.{Typed}
use Rattle.sp_meaning_states.specs.States.{Reading, State, Fine, Failed, Returned, Stopped, Backs, Rejected, Need, Result, Ends, ends, behind, done, fails, one_more, turn, deeper}
use Rattle.sp_meaning_states.specs.Scopes.{Called, InCall, ends_fiber, dropped_unless, outside, inside}
use Rattle.sp_meaning_states.specs.Scopes as called_is
use Rattle.sp_meaning_states.specs.Reads.{Ask, Read}
use Rattle.sp_meaning_states.specs.Types.{zero_value, kind_of_type}
use Rattle.sp_meaning.specs.Globals.{Globals, globals_of}
use Rattle.sp_code_meaning.specs.Layouts.{Layout}
use Rattle.sp_meaning.specs.Operations.{known}
use Rattle.sp_code_meaning.specs.Stmts.{stmt_means}
use Rattle.sp_meaning.specs.Calls.{zero_slots}
use Rattle.sp_code_meaning.specs.Calls.{function_layout, body_means, with_locals, one_deeper, call_means}
use Rattle.sp_code.specs.declared.instr.Instr.TheVariants as does
use Rattle.sp_code.specs.Machine.{Frame, Plain, Config, At, Next, Goes, counted, nested, raise, landed, call_next, step}
use Rattle.sp_code.specs.Shapes.{Shape, push}
use Rattle.sp_code.specs.Runs.{Ways, leads, here, Halts, Runs}
use Rattle.sp_code_programs.specs.exprs.Marked.{mark, constant}
use Rattle.sp_code_programs.specs.units.Code.{stmt_code}
use Rattle.sp_code_programs.specs.units.Bodies.{body_code, function_code, function_entry, HasFunction, HasBodies}
use Rattle.sp_law_code.specs.exprs.Laws.{CallsRun}
use Rattle.sp_law_code.proofs.exprs_lemmas.Steps.{then_comes, one, after_one, act_at}
use Rattle.sp_law_code.proofs.exprs_lemmas.Lists.{take_all, drop_all}
use Rattle.sp_law_code.specs.bodies.Parts.{StmtIsCounted, BodiesAreCounted}
use Rattle.sp_law_code.specs.bodies.Laws.{FunctionsRun}
use Rattle.sp_law_code.proofs.bodies_lemmas.Runs.{ways_out, behind_nothing, Acts, acts, acts_done}
use Rattle.sp_law_code.proofs.bodies_lemmas.Changes.{returned_does}
use Rattle.sp_law_code.proofs.bodies_lemmas.Stmts.{stmt_acts}

-- the frame of a body that is called
abbrev pub frame_of : Called → ℕ → List Val → ℕ → List Val → Frame
frame_of called self locals to below = record { scope = InCall called self locals; to = to; below = below }

module _ (p : Plain) (reads : Reading → Ask → Read) where
  -- a wait in a body is one of the call
  waits_outside : (c : Config) (es : List What) (called : Called) (self : ℕ) (locals : List Val) (to : ℕ) (below : List Val) (fs : List Frame) (m : ℕ) → Halts p reads c es (frame_of called self locals to below ∷ fs) m
      → Halts p reads c (es ++ []) fs m
  waits_outside c es called self locals to below fs m h =
      record { pc = h.pc; operands = h.operands; frames = h.frames; state = h.state; mark = h.mark; comes = then_comes p reads h.comes here; waits = h.waits; low = h.low }

  -- what a body does in its frame is what the call does
  pub inside_runs : (c : Config) (called : Called) (self : ℕ) (locals : List Val) (to fin out again : ℕ) (below : List Val) (x : Ways) (r : Result)
      → Runs p reads c (leads fin [] (ways_out out again [] (frame_of called self locals to below ∷ x.frames))) r → Runs p reads c (leads to below x) (inside (InCall called self locals) r)
  inside_runs c called_is.Called.Function self locals to fin out again below x (Ends (Returned v) es st) h = then_comes p reads h (one p reads _ [] _ refl)
  inside_runs c called_is.Called.Function self locals to fin out again below x (Ends (Failed e) es st) h = then_comes p reads h (one p reads _ [] _ refl)
  inside_runs c called_is.Called.Function self locals to fin out again below x (Ends Backs es st) h = then_comes p reads h (one p reads _ [] _ refl)
  inside_runs c called_is.Called.Function self locals to fin out again below x (Ends Rejected es st) h = then_comes p reads h (one p reads _ [] _ refl)
  inside_runs c called_is.Called.Function self locals to fin out again below x (Ends (Need m) es st) h = waits_outside c es called_is.Called.Function self locals to below x.frames m h
  inside_runs c called_is.Called.Function self locals to fin out again below x (Ends _ es st) h = tt
  inside_runs c (called_is.Called.Hook true) self locals to fin out again below x (Ends (Returned v) es st) h = then_comes p reads h (one p reads _ [] _ refl)
  inside_runs c (called_is.Called.Hook true) self locals to fin out again below x (Ends Stopped es st) h = then_comes p reads h (one p reads _ [] _ refl)
  inside_runs c (called_is.Called.Hook true) self locals to fin out again below x (Ends (Failed e) es st) h = then_comes p reads h (one p reads _ [] _ refl)
  inside_runs c (called_is.Called.Hook true) self locals to fin out again below x (Ends Backs es st) h = then_comes p reads h (one p reads _ [] _ refl)
  inside_runs c (called_is.Called.Hook true) self locals to fin out again below x (Ends Rejected es st) h = then_comes p reads h (one p reads _ [] _ refl)
  inside_runs c (called_is.Called.Hook true) self locals to fin out again below x (Ends (Need m) es st) h = waits_outside c es (called_is.Called.Hook true) self locals to below x.frames m h
  inside_runs c (called_is.Called.Hook true) self locals to fin out again below x (Ends _ es st) h = tt
  inside_runs c (called_is.Called.Hook false) self locals to fin out again below x (Ends (Returned v) es st) h = then_comes p reads h (one p reads _ [] _ refl)
  inside_runs c (called_is.Called.Hook false) self locals to fin out again below x (Ends (Failed e) es st) h = then_comes p reads h (one p reads _ [] _ refl)
  inside_runs c (called_is.Called.Hook false) self locals to fin out again below x (Ends Backs es st) h = then_comes p reads h (one p reads _ [] _ refl)
  inside_runs c (called_is.Called.Hook false) self locals to fin out again below x (Ends Rejected es st) h = then_comes p reads h (one p reads _ [] _ refl)
  inside_runs c (called_is.Called.Hook false) self locals to fin out again below x (Ends (Need m) es st) h = waits_outside c es (called_is.Called.Hook false) self locals to below x.frames m h
  inside_runs c (called_is.Called.Hook false) self locals to fin out again below x (Ends _ es st) h = tt
  inside_runs c called_is.Called.FailingHook self locals to fin out again below x (Ends (Returned v) es st) h = then_comes p reads h (one p reads _ [] _ refl)
  inside_runs c called_is.Called.FailingHook self locals to fin out again below x (Ends (Failed e) es st) h = dropped (ends_fiber e.kind) refl
    where
      dropped : (b : Bool) → ends_fiber e.kind ≡ b
          → Runs p reads c (leads to below x) (behind es (ends (dropped_unless b e) (outside self locals st)))
      dropped true k = then_comes p reads h (one p reads _ [] _ (ap (λ b. landed to below x.frames (ends (dropped_unless b e) (outside self locals st))) k))
      dropped false k = then_comes p reads h (one p reads _ [] _ (ap (λ b. landed to below x.frames (ends (dropped_unless b e) (outside self locals st))) k))
  inside_runs c called_is.Called.FailingHook self locals to fin out again below x (Ends Backs es st) h = then_comes p reads h (one p reads _ [] _ refl)
  inside_runs c called_is.Called.FailingHook self locals to fin out again below x (Ends Rejected es st) h = then_comes p reads h (one p reads _ [] _ refl)
  inside_runs c called_is.Called.FailingHook self locals to fin out again below x (Ends (Need m) es st) h = waits_outside c es called_is.Called.FailingHook self locals to below x.frames m h
  inside_runs c called_is.Called.FailingHook self locals to fin out again below x (Ends _ es st) h = tt

  module _ (hook_names : List (List ℕ)) (list : Typed) where
    abbrev globals : Globals
    globals = globals_of list

    -- a call of a function, within the program's limits
    abbrev pub calls_of : ℕ → ℕ → List Val → State → Result
    calls_of n f ws st = call_means p.names hook_names list p.limits n f ws st

    abbrev body_of : ℕ → Layout → Val → Stmt → State → Result
    body_of n layout ending b st = body_means p.names hook_names list p.limits n (calls_of n) layout ending b st

    -- the code of a body does what the body means
    pub body_acts : (n : ℕ) (layout : Layout) (s : Shape) (start : ℕ) (ending : Val) (k : Kind) (b : Stmt) → CallsRun p reads (calls_of n) → StmtIsCounted p b
        → Acts p reads start start start (body_code globals layout s start ending k b) [] (λ st. body_of n layout ending b st)
    body_acts n layout s start ending k b calls c =
        let code_b = stmt_code globals layout s start start start b in
        let at = start + length code_b in
        let last = constant s ending ∷ mark (push k s) does.Return ∷ [] in
        acts_done p reads start start start code_b last (λ st. stmt_means p.names globals p.limits.turns (calls_of n) layout n b st) (λ st. ends (Returned ending) st)
        (stmt_acts p reads globals layout (calls_of n) calls n b s start start start c) (acts p reads start start at last [] (λ st. ends (Returned ending) st) (returned_does p reads at s (push k s) ending))

    -- a function that is entered, once the turn and the depth are counted
    abbrev function_begun : Function → List Val → State → State
    function_begun x ws st = record st { locals = reverse ws ++ zero_slots globals.ranges x.slots }

    abbrev entered : ℕ → Function → ℕ → List Val → List Val → List Frame → State → Next
    entered start x pc ws vs fs st = nested p.limits.depth (λ s. Goes [] (At start [] (frame_of called_is.Called.Function st.self st.locals pc vs ∷ fs) (function_begun x ws s))) fs st

    abbrev function_body : ℕ → Function → List Val → State → Result
    function_body n x ws st =
        inside (InCall called_is.Called.Function st.self st.locals) (body_of n (function_layout x) (zero_value globals.ranges x.result) x.body (one_deeper p.names hook_names list p.limits (with_locals p.names hook_names list p.limits ws x.slots st)))

    function_runs : (n : ℕ) (x : Function) (h : HasFunction globals p n x) (k pc : ℕ) (ws vs : List Val) (w : Ways) (st : State) (c : Config) → CallsRun p reads (calls_of k) → StmtIsCounted p x.body
        → step p reads c ≡ counted p.limits.turns (entered h.start x pc ws vs w.frames) w.frames st
        → Runs p reads c (leads pc vs w) (done (λ st. done (function_body k x ws) (deeper p.limits.depth st)) (turn p.limits.turns st))
    function_runs n x h k pc ws vs w st c calls counts e = turns (nat_lt st.now.count p.limits.turns) e
      where
        depths : (b : Bool) (st : State)
            → step p reads c ≡ (if b then Goes [] (At h.start [] (frame_of called_is.Called.Function st.self st.locals pc vs ∷ w.frames) (function_begun x ws (record st { depth = st.depth + 1 }))) else raise Depth w.frames st)
            → Runs p reads c (leads pc vs w) (done (function_body k x ws) (if b then ends Fine st else fails Depth st))
        depths true st e =
            let fs = frame_of called_is.Called.Function st.self st.locals pc vs ∷ w.frames in
            let s = function_begun x ws (record st { depth = st.depth + 1 }) in
            let code = function_code globals h.shape h.start x in
            behind_nothing p reads c (leads pc vs w) (function_body k x ws st)
            (after_one p reads c (At h.start [] fs s) (leads pc vs w) (function_body k x ws st) e
            (inside_runs (At h.start [] fs s) called_is.Called.Function st.self st.locals pc (h.start + length code) h.start h.start vs w (body_of k (function_layout x) (zero_value globals.ranges x.result) x.body s)
            (body_acts k (function_layout x) h.shape h.start (zero_value globals.ranges x.result) (kind_of_type globals.ranges x.result) x.body calls counts [] fs s h.stands)))
        depths false st e = one p reads c [] _ e

        turns : (b : Bool) → step p reads c ≡ (if b then entered h.start x pc ws vs w.frames (one_more st) else raise Turns w.frames st)
            → Runs p reads c (leads pc vs w) (done (λ st. done (function_body k x ws) (deeper p.limits.depth st)) (if b then ends Fine (one_more st) else fails Turns st))
        turns true e = behind_nothing p reads c (leads pc vs w) (done (function_body k x ws) (deeper p.limits.depth (one_more st))) (depths (nat_lt (one_more st).depth p.limits.depth) (one_more st) e)
        turns false e = one p reads c [] _ e

    module _ (has : HasBodies p hook_names list) (counts : BodiesAreCounted p list) where
      pub calls_run : (n : ℕ) → CallsRun p reads (calls_of n)
      calls_run zero f pc e ws vs w st i k l = tt
      calls_run (suc n) f pc e ws vs w st i k l = cases (calls_run n) (slice_get list.functions f) refl
        where
          c : Config
          c = At pc (ws ++ vs) w.frames st

          cases : CallsRun p reads (calls_of n) → (o : Option Function) → slice_get list.functions f ≡ o
              → Runs p reads c (leads (pc + 1) vs w) (known o (λ x st. done (λ st. done (function_body n x ws) (deeper p.limits.depth st)) (turn p.limits.turns st)) st)
          cases inner None m = tt
          cases inner (Some x) m =
              let h = has.functions f x m in
              let entry = function_entry globals h.start x in
              let same : e ≡ entry = ap (λ o. unwrap_or o e) (sym k ∙ h.listed) in
              let taken : length ws ≡ length x.parameters = l ∙ ap (λ e. e.takes) same in
              let enter : List Val → List Val → Next = λ us rest. counted p.limits.turns (entered h.start x (pc + 1) us rest w.frames) w.frames st in
              function_runs f x h n (pc + 1) ws vs w st c inner (counts.functions f x m)
              (act_at p reads pc (ws ++ vs) w.frames st (does.Call f) i
              ∙ ap (λ o. call_next p.limits o (pc + 1) (ws ++ vs) w.frames st) h.listed
              ∙ ap (λ us. enter us (drop (length x.parameters) (ws ++ vs))) (take_all ws vs (length x.parameters) taken)
              ∙ ap (λ rest. enter ws rest) (drop_all ws vs (length x.parameters) taken))

pub functions_run : FunctionsRun
functions_run p reads hook_names list has counts n = calls_run p reads hook_names list has counts n
