-- The bodies of a hook, one after another, each handed the values of the same locals.
use Rattle.std.proofs.Common.{◌≡◌, ℕ, ◌+◌, Bool, true, false, List, [], ◌∷◌, ◌++◌, length, drop, reverse, map, Option, Some, None, refl, sym, ap, ◌∙◌, subst, arith, append_assoc, length-append}
use Rattle.std.specs.Prelude.{nat_lt, slice_get, unwrap_or, if◌then◌else◌}
use Rattle.std.proofs.lemmas.List.{reverse-append, length-map, length-reverse}
use Rattle.sp_base.specs.declared.kinds.PKind.TheVariants.{Turns}
use Rattle.sp_events.specs.declared.event.What.{What}
use Rattle.sp_value.specs.Val.{Val, void}
use Rattle.sp_methods.specs.Kinds.{Void}
use Rattle.sp_typed_units.specs.declared.declarations.Hook.{Hook}
use Rattle.sp_typed_units.specs.declared.declarations.Typed.{Typed}
use Rattle.sp_meaning_states.specs.States.{Reading, State, End, Fine, Failed, Returned, Backs, Rejected, Unfinished, Result, Ends, ends, behind, done, fails, local_of, one_more, turn}
use Rattle.sp_meaning_states.specs.Scopes.{Called, called_where, InCall, ends_fiber, dropped_unless, outside, inside}
use Rattle.sp_meaning_states.specs.Scopes as called_is
use Rattle.sp_meaning_states.specs.Reads.{Ask, Read}
use Rattle.sp_meaning.specs.Globals.{Globals, globals_of}
use Rattle.sp_meaning.specs.Operations.{known}
use Rattle.sp_meaning.specs.Calls.{zero_slots}
use Rattle.sp_code_meaning.specs.Calls.{hook_layout, body_means, with_locals, hook_event, hook_means, hooks_mean}
use Rattle.sp_meaning.specs.Hooks.{is_foreach, told_count}
use Rattle.sp_code.specs.declared.instr.Instr.TheVariants as does
use Rattle.sp_code.specs.Machine.{Frame, Plain, Config, At, Next, Goes, counted, raise, is_failing, hook_next, step}
use Rattle.sp_code.specs.Shapes.{Shape, push}
use Rattle.sp_code.specs.Runs.{Ways, Spot, leads, Comes, here, Runs}
use Rattle.sp_code_programs.specs.exprs.Marked.{Marked, mark, HasAt}
use Rattle.sp_code_programs.specs.exprs.Code.{kind_at}
use Rattle.sp_code_programs.specs.units.Bodies.{handed, hook_code, HasBodies, loads_code, loaded, hooks_code}
use Rattle.sp_law_code.proofs.exprs_lemmas.Steps.{then_comes, one, after_runs, act_at, has_front, has_back, has_instr}
use Rattle.sp_law_code.proofs.exprs_lemmas.Lists.{take_all, drop_all}
use Rattle.sp_law_code.specs.bodies.Parts.{StmtIsCounted, BodiesAreCounted}
use Rattle.sp_law_code.specs.bodies.Laws.{AllTake, HooksRun}
use Rattle.sp_law_code.proofs.bodies_lemmas.Runs.{done_runs, behind_nothing, same_end}
use Rattle.sp_law_code.proofs.bodies_lemmas.Calls.{frame_of, inside_runs, calls_of, body_acts, calls_run}

-- where a part ends well, its state is such a one
abbrev FineIn : (State → Type 0) → Result → Type 0
FineIn P (Ends Fine es st) = P st
FineIn P (Ends how es st) = Unit {0}

fine_behind : (P : State → Type 0) (es : List What) (r : Result) → FineIn P r → FineIn P (behind es r)
fine_behind P es (Ends Fine fs st) h = h
fine_behind P es (Ends _ fs st) h = tt

-- a body of a hook leaves the locals outside as they were
inside_kept : (called : Called) (self : ℕ) (locals : List Val) (r : Result) → FineIn (λ st. st.locals ≡ locals) (inside (InCall called self locals) r)
inside_kept called_is.Called.Function self locals (Ends (Returned v) es st) = tt
inside_kept called_is.Called.Function self locals (Ends _ es st) = tt
inside_kept (called_is.Called.Hook false) self locals (Ends (Returned v) es st) = refl
inside_kept (called_is.Called.Hook false) self locals (Ends _ es st) = tt
inside_kept (called_is.Called.Hook true) self locals (Ends (Returned v) es st) = tt
inside_kept (called_is.Called.Hook true) self locals (Ends _ es st) = tt
inside_kept called_is.Called.FailingHook self locals (Ends (Returned v) es st) = refl
inside_kept called_is.Called.FailingHook self locals (Ends (Failed e) es st) = dropped (ends_fiber e.kind)
  where
    dropped : (b : Bool) → FineIn (λ st. st.locals ≡ locals) (behind es (ends (dropped_unless b e) (outside self locals st)))
    dropped true = tt
    dropped false = refl
inside_kept called_is.Called.FailingHook self locals (Ends Backs es st) = refl
inside_kept called_is.Called.FailingHook self locals (Ends Rejected es st) = refl
inside_kept called_is.Called.FailingHook self locals (Ends _ es st) = tt

module _ (p : Plain) (reads : Reading → Ask → Read) where
  -- a part that ends well in such a state, and the next
  known_runs : (c : Config) (mid at : ℕ) (ws vs : List Val) (x : Ways) (r : Result) (go : State → Result) (P : State → Type 0) → Runs p reads c (leads mid ws x) r → FineIn P r
      → ((st : State) → P st → Runs p reads (At mid ws x.frames st) (leads at vs x) (go st)) → Runs p reads c (leads at vs x) (done go r)
  known_runs c mid at ws vs x (Ends Fine es st) go P h k rest = after_runs p reads c (At mid ws x.frames st) es (leads at vs x) (go st) h (rest st k)
  known_runs c mid at ws vs x (Ends how es st) go P h k rest = done_runs p reads c mid at ws vs x (Ends how es st) (λ st. ends Unfinished st) h (λ st. tt)

  -- a run behind steps that tell nothing
  after_silent : (c d : Config) (to : End → State → Spot) (r : Result) → Comes p reads c [] d → Runs p reads d to r → Runs p reads c to r
  after_silent c d to (Ends Unfinished es st) a h = tt
  after_silent c d to (Ends how es st) a h = after_runs p reads c d [] to (Ends how es st) a h

  -- the values of these locals are put on the operands, the last on top
  loads_come : (ls : List ℕ) (s : Shape) (pc : ℕ) (us : List Val) (fs : List Frame) (st : State) → HasAt p pc (loads_code s ls)
      → Comes p reads (At pc us fs st) [] (At (pc + length (loads_code s ls)) (reverse (map (local_of st) ls) ++ us) fs st)
  loads_come [] s pc us fs st has = let e : pc ≡ pc + 0 = omega arith in subst (λ n. Comes p reads (At pc us fs st) [] (At n us fs st)) e here
  loads_come (l ∷ ls) s pc us fs st has =
      let v = local_of st l in
      let vs = map (local_of st) ls in
      let t = push (kind_at s.locals l) s in
      let later = loads_code t ls in
      let n : pc + 1 + length later ≡ pc + length (mark s (does.Load l) ∷ later) = omega arith in
      let e : reverse vs ++ (v ∷ us) ≡ reverse (v ∷ vs) ++ us = sym (ap (λ ws. ws ++ us) (reverse-append (v ∷ []) vs) ∙ append_assoc (reverse vs) (v ∷ []) us) in
      subst (λ ws. Comes p reads (At pc us fs st) [] (At (pc + length (mark s (does.Load l) ∷ later)) ws fs st)) e
      (subst (λ n. Comes p reads (At pc us fs st) [] (At n (reverse vs ++ (v ∷ us)) fs st)) n
      (then_comes p reads (one p reads _ [] _ (act_at p reads pc us fs st (does.Load l) (has_instr p reads pc s (does.Load l) later has))) (loads_come ls t (pc + 1) (v ∷ us) fs st has.3)))

  module _ (hook_names : List (List ℕ)) (list : Typed) (has : HasBodies p hook_names list) (counts : BodiesAreCounted p list) where
    abbrev globals : Globals
    globals = globals_of list

    abbrev begun : Hook → List Val → State → State
    begun x ws st = record st { locals = reverse ws ++ zero_slots globals.ranges x.slots }

    abbrev told : ℕ → Hook → List Val → State → What
    told h x ws st = hook_event p.names hook_names list p.limits h (told_count x) ws st

    abbrev called_as : Bool → Hook → Called
    called_as failing x = called_where failing (called_is.Called.Hook (is_foreach x.of))

    abbrev entered : ℕ → ℕ → Hook → ℕ → List Val → List Val → List Frame → State → Next
    entered h start x pc ws vs fs st = Goes (told h x ws st ∷ []) (At start [] (frame_of (called_as (is_failing fs) x) st.self st.locals pc vs ∷ fs) (begun x ws st))

    abbrev inner : ℕ → Hook → List Val → State → Result
    inner n x ws st = body_means p.names hook_names list p.limits n (calls_of p reads hook_names list n) (hook_layout x) void x.body (with_locals p.names hook_names list p.limits ws x.slots st)

    abbrev run : Bool → ℕ → Hook → List Val → State → Result
    run failing n x ws st = inside (InCall (called_as failing x) st.self st.locals) (inner n x ws st)

    abbrev body : Bool → ℕ → ℕ → Hook → List Val → State → Result
    body failing n h x ws st = behind (told h x ws st ∷ []) (run failing n x ws st)

    abbrev means : Bool → ℕ → ℕ → List Val → State → Result
    means failing n h ws st = hook_means p.names hook_names list p.limits failing n h ws st

    -- a body of a hook, where the code runs it
    hook_runs : (n h pc : ℕ) (ws vs : List Val) (w : Ways) (st : State) → slice_get p.code pc ≡ Some (does.Hook (length list.functions + h)) → ((x : Hook) → slice_get list.hooks h ≡ Some x → length ws ≡ handed x)
        → Runs p reads (At pc (ws ++ vs) w.frames st) (leads (pc + 1) vs w) (means (is_failing w.frames) n h ws st)
    hook_runs n h pc ws vs w st i l = cases (slice_get list.hooks h) refl
      where
        c : Config
        c = At pc (ws ++ vs) w.frames st

        turns : (x : Hook) (start : ℕ) (shape : Shape) → HasAt p start (hook_code globals shape start x) → StmtIsCounted p x.body → (b : Bool)
            → step p reads c ≡ (if b then entered h start x (pc + 1) ws vs w.frames (one_more st) else raise Turns w.frames st)
            → Runs p reads c (leads (pc + 1) vs w) (done (body (is_failing w.frames) n h x ws) (if b then ends Fine (one_more st) else fails Turns st))
        turns x start shape stands counted_body true e =
            let s = one_more st in
            let failing = is_failing w.frames in
            let called = called_as failing x in
            let fs = frame_of called s.self s.locals (pc + 1) vs ∷ w.frames in
            let code = hook_code globals shape start x in
            behind_nothing p reads c (leads (pc + 1) vs w) (body failing n h x ws s)
            (after_runs p reads c (At start [] fs (begun x ws s)) (told h x ws s ∷ []) (leads (pc + 1) vs w) (run failing n x ws s) (one p reads c (told h x ws s ∷ []) _ e)
            (inside_runs p reads (At start [] fs (begun x ws s)) called s.self s.locals (pc + 1) (start + length code) start start vs w (inner n x ws s)
            (body_acts p reads hook_names list n (hook_layout x) shape start void Void x.body (calls_run p reads hook_names list has counts n) counted_body [] fs (begun x ws s) stands)))
        turns x start shape stands counted_body false e = one p reads c [] _ e

        cases : (o : Option Hook) → slice_get list.hooks h ≡ o → Runs p reads c (leads (pc + 1) vs w) (known o (λ x st. done (body (is_failing w.frames) n h x ws) (turn p.limits.turns st)) st)
        cases None m = tt
        cases (Some x) m =
            let has_x = has.hooks h x m in
            let enter : List Val → List Val → Next = λ us rest. counted p.limits.turns (entered h has_x.start x (pc + 1) us rest w.frames) w.frames st in
            turns x has_x.start has_x.shape has_x.stands (counts.hooks h x m) (nat_lt st.now.count p.limits.turns)
            (act_at p reads pc (ws ++ vs) w.frames st (does.Hook (length list.functions + h)) i
            ∙ ap (λ o. hook_next p.names p.limits.turns o (pc + 1) (ws ++ vs) w.frames st) has_x.listed
            ∙ ap (λ us. enter us (drop (handed x) (ws ++ vs))) (take_all ws vs (handed x) (l x m))
            ∙ ap (λ rest. enter ws rest) (drop_all ws vs (handed x) (l x m)))

    -- it leaves the locals as they were
    hook_kept : (failing : Bool) (n h : ℕ) (ws : List Val) (st : State) → FineIn (λ s. s.locals ≡ st.locals) (means failing n h ws st)
    hook_kept failing n h ws st = cases (slice_get list.hooks h)
      where
        turns : (x : Hook) (b : Bool) → FineIn (λ s. s.locals ≡ st.locals) (done (body failing n h x ws) (if b then ends Fine (one_more st) else fails Turns st))
        turns x true =
            let s = one_more st in
            fine_behind (λ s. s.locals ≡ st.locals) [] (body failing n h x ws s) (fine_behind (λ s. s.locals ≡ st.locals) (told h x ws s ∷ []) (run failing n x ws s) (inside_kept (called_as failing x) s.self s.locals (inner n x ws s)))
        turns x false = tt

        cases : (o : Option Hook) → FineIn (λ s. s.locals ≡ st.locals) (known o (λ x st. done (body failing n h x ws) (turn p.limits.turns st)) st)
        cases None = tt
        cases (Some x) = turns x (nat_lt st.now.count p.limits.turns)

    pub hooks_code_runs : (n : ℕ) (hs ls : List ℕ) (s : Shape) (pc : ℕ) (vs : List Val) (x : Ways) (st : State) → AllTake list (length ls) hs → HasAt p pc (hooks_code s (length list.functions) ls hs)
        → Runs p reads (At pc vs x.frames st) (leads (pc + length (hooks_code s (length list.functions) ls hs)) vs x) (hooks_mean p.names hook_names list p.limits (is_failing x.frames) n hs (reverse (map (local_of st) ls)) st)
    hooks_code_runs n [] ls s pc vs x st takes code = same_end p reads (At pc vs x.frames st) pc (pc + 0) vs x (ends Fine st) (omega arith) here
    hooks_code_runs n (h ∷ hs) ls s pc vs x st takes code =
        let functions = length list.functions in
        let ws = reverse (map (local_of st) ls) in
        let load = loads_code s ls in
        let q = pc + length load in
        let later = hooks_code s functions ls hs in
        let run = mark (loaded s ls) (does.Hook (functions + h)) in
        let behind_load = has_back p reads pc load (run ∷ later) code in
        let go : State → Result = λ st. hooks_mean p.names hook_names list p.limits (is_failing x.frames) n hs ws st in
        let to = leads (pc + length (load ++ run ∷ later)) vs x in
        let long : length ws ≡ length ls = length-reverse (map (local_of st) ls) ∙ length-map ls (local_of st) in
        let fin : q + 1 + length later ≡ pc + length (load ++ run ∷ later) = omega (arith, length-append {A = Marked}) in
        after_silent (At pc vs x.frames st) (At q (ws ++ vs) x.frames st) to (done go (means (is_failing x.frames) n h ws st)) (loads_come ls s pc vs x.frames st (has_front p reads pc load (run ∷ later) code))
        (known_runs (At q (ws ++ vs) x.frames st) (q + 1) (pc + length (load ++ run ∷ later)) vs vs x (means (is_failing x.frames) n h ws st) go (λ s. s.locals ≡ st.locals)
        (hook_runs n h q ws vs x st (has_instr p reads q (loaded s ls) (does.Hook (functions + h)) later behind_load) (λ y m. long ∙ sym (takes.0 y m)))
        (hook_kept (is_failing x.frames) n h ws st)
        (λ st1 same. same_end p reads (At (q + 1) vs x.frames st1) (q + 1 + length later) (pc + length (load ++ run ∷ later)) vs x (go st1) fin
        (subst (λ us. Runs p reads (At (q + 1) vs x.frames st1) (leads (q + 1 + length later) vs x) (hooks_mean p.names hook_names list p.limits (is_failing x.frames) n hs us st1)) (ap (λ locals. reverse (map (λ l. unwrap_or (slice_get locals l) void) ls)) same)
        (hooks_code_runs n hs ls s (q + 1) vs x st1 takes.1 behind_load.3))))

pub hooks_run : HooksRun
hooks_run p reads hook_names list has counts n hs ls s pc vs x st takes code = hooks_code_runs p reads hook_names list has counts n hs ls s pc vs x st takes code
