-- Stretches of steps, code that does what is meant, and how such code is put together.
use Rattle.std.proofs.Common.{◌≡◌, ℕ, ◌+◌, Bool, true, false, List, [], ◌∷◌, ◌++◌, length, Option, Some, None, Result as Answer, Ok, Err, refl, sym, ap, ◌∙◌, subst, arith, append_assoc, append-nil, length-append}
use Rattle.std.specs.Prelude.{slice_get, unwrap_or, if◌then◌else◌}
use Rattle.sp_base.specs.declared.kinds.PKind.{PKind}
use Rattle.sp_events.specs.declared.event.What.{What}
use Rattle.sp_value.specs.Val.{Val, void}
use Rattle.sp_meaning_states.specs.States.{Reading, State, End, Gives, Fine, Need, Unfinished, Result, Ends, ends, behind, on_end, with_value, with_done, got, done, chosen, truth_of, answer, value_or_unset}
use Rattle.sp_meaning_states.specs.Reads.{Ask, Read}
use Rattle.sp_code.specs.declared.instr.Instr.{Instr}
use Rattle.sp_code.specs.declared.instr.Instr.TheVariants as does
use Rattle.sp_code.specs.Machine.{Frame, Plain, Config, At, Goes, put, push_set, act, step}
use Rattle.sp_code.specs.Shapes.{Shape}
use Rattle.sp_code.specs.Runs.{Ways, Spot, Now, Waiting, leads, Comes, here, next, Reaches, Runs}
use Rattle.sp_code_programs.specs.exprs.Marked.{Marked, mark, constant, HasAt}

module _ (p : Plain) (reads : Reading → Ask → Read) where
  pub then_comes : {c d e : Config} {es fs : List What} → Comes p reads c es d → Comes p reads d fs e → Comes p reads c (es ++ fs) e
  then_comes here b = b
  then_comes {e = last} {fs = gs} (next {c = c} {es = es} {fs = fs} s a) b = subst (λ l. Comes p reads c l last) (sym (append_assoc es fs gs)) (next s (then_comes a b))

  pub one : (c : Config) (es : List What) (d : Config) → step p reads c ≡ Goes es d → Comes p reads c es d
  one c es d e = subst (λ l. Comes p reads c l d) (append-nil es) (next e here)

  then_reaches : (c d : Config) (es fs : List What) (spot : Spot) → Comes p reads c es d → Reaches p reads d fs spot → Reaches p reads c (es ++ fs) spot
  then_reaches c d es fs (Now e) a h = then_comes a h
  then_reaches c d es fs (Waiting gs m) a h =
      record { pc = h.pc; operands = h.operands; frames = h.frames; state = h.state; mark = h.mark; comes = then_comes a h.comes; waits = h.waits; low = h.low }

  pub after_runs : (c d : Config) (es : List What) (to : End → State → Spot) (r : Result) → Comes p reads c es d → Runs p reads d to r → Runs p reads c to (behind es r)
  after_runs c d es to (Ends Unfinished gs st) a h = tt
  after_runs c d es to (Ends how gs st) a h = then_reaches c d es gs (to how st) a h

  pub after_one : (c d : Config) (to : End → State → Spot) (r : Result) → step p reads c ≡ Goes [] d → Runs p reads d to r → Runs p reads c to r
  after_one c d to (Ends Unfinished gs st) e h = tt
  after_one c d to (Ends how gs st) e h = then_reaches c d [] gs (to how st) (one c [] d e) h

  -- what follows a spot: a run from there; or the same wait
  abbrev pub Follows : Spot → (End → State → Spot) → Result → Type 0
  Follows (Now d) to r = Runs p reads d to r
  Follows (Waiting fs m) to r = (st : State) × (r ≡ ends (Need m) st) × (to (Need m) st ≡ Waiting fs m)

  follows_runs : (c : Config) (es : List What) (spot : Spot) (to : End → State → Spot) (r : Result) → Reaches p reads c es spot → Follows spot to r → Runs p reads c to (behind es r)
  follows_runs c es (Now d) to r a h = after_runs c d es to r a h
  follows_runs c es (Waiting fs m) to r a h =
      let waits : Reaches p reads c (es ++ []) (to (Need m) h.0) =
      subst (λ l. Reaches p reads c l (to (Need m) h.0)) (sym (append-nil es)) (subst (λ spot. Reaches p reads c es spot) (sym h.2) a) in
      subst (λ r. Runs p reads c to (behind es r)) (sym h.1) waits

  -- the one bind
  pub on_end_runs : (c : Config) (mid to : End → State → Spot) (k : End → State → Result) (r : Result) → Runs p reads c mid r → ((how : End) (st : State) → Follows (mid how st) to (k how st)) → Runs p reads c to (on_end k r)
  on_end_runs c mid to k (Ends Unfinished es st) h rest = tt
  on_end_runs c mid to k (Ends how es st) h rest = follows_runs c es (mid how st) to (k how st) h (rest how st)

  -- a part, and a jump behind it
  pub then_jump : (c : Config) (at1 at : ℕ) (vs : List Val) (x : Ways) (r : Result) → ((ws : List Val) (st : State) → Comes p reads (At at1 ws x.frames st) [] (At at ws x.frames st)) → Runs p reads c (leads at1 vs x) r → Runs p reads c (leads at vs x) r
  then_jump c at1 at vs x (Ends Unfinished es st) jump h = tt
  then_jump c at1 at vs x (Ends (Gives v) es st) jump h = subst (λ l. Comes p reads c l (At at (v ∷ vs) x.frames st)) (append-nil es) (then_comes h (jump (v ∷ vs) st))
  then_jump c at1 at vs x (Ends Fine es st) jump h = subst (λ l. Comes p reads c l (At at vs x.frames st)) (append-nil es) (then_comes h (jump vs st))
  then_jump c at1 at vs x (Ends _ es st) jump h = h

  pub act_at : (pc : ℕ) (vs : List Val) (fs : List Frame) (st : State) (i : Instr) → slice_get p.code pc ≡ Some i → step p reads (At pc vs fs st) ≡ act p reads (Some i) pc vs fs st
  act_at pc vs fs st i h = ap (λ o. act p reads o pc vs fs st) h

  -- the first part of code, and what is behind it
  pub has_front : (pc : ℕ) (a b : List Marked) → HasAt p pc (a ++ b) → HasAt p pc a
  has_front pc [] b h = tt
  has_front pc (m ∷ a) b h = (h.0, h.1, h.2, has_front (pc + 1) a b h.3)

  pub has_back : (pc : ℕ) (a b : List Marked) → HasAt p pc (a ++ b) → HasAt p (pc + length a) b
  has_back pc [] b h = let e : pc ≡ pc + 0 = omega arith in subst (λ n. HasAt p n b) e h
  has_back pc (m ∷ a) b h =
      let e : pc + 1 + length a ≡ pc + length (m ∷ a) = omega arith in
      subst (λ n. HasAt p n b) e (has_back (pc + 1) a b h.3)

  pub has_instr : (pc : ℕ) (s : Shape) (i : Instr) (ms : List Marked) → HasAt p pc (mark s i ∷ ms) → slice_get p.code pc ≡ Some i
  has_instr pc s i ms h = h.1 ∙ ap Some h.2

  -- code at an address, with these operands on top, does what is meant
  abbrev pub Does : ℕ → List Marked → List Val → (State → Result) → Type 0
  Does pc ms ws means = (vs : List Val) (x : Ways) (st : State) → HasAt p pc ms → Runs p reads (At pc (ws ++ vs) x.frames st) (leads (pc + length ms) vs x) (means st)

  pub does_to : (pc at at' : ℕ) (ws vs : List Val) (x : Ways) (st : State) (r : Result) → at ≡ at' → Runs p reads (At pc (ws ++ vs) x.frames st) (leads at vs x) r → Runs p reads (At pc (ws ++ vs) x.frames st) (leads at' vs x) r
  does_to pc at at' ws vs x st r e h = subst (λ n. Runs p reads (At pc (ws ++ vs) x.frames st) (leads n vs x) r) e h

  -- a value, and what is made of it
  pub then_got : (pc : ℕ) (a b : List Marked) (us ws : List Val) (ma : State → Result) (go : Val → State → Result) → Does pc a us ma → ((v : Val) → Does (pc + length a) b (v ∷ ws) (go v)) → Does pc (a ++ b) (us ++ ws) (λ st. got go (ma st))
  then_got pc a b us ws ma go ha hb vs x st has =
      let e : pc + length a + length b ≡ pc + length (a ++ b) = omega (arith, length-append {A = Marked}) in
      subst (λ l. Runs p reads (At pc l x.frames st) (leads (pc + length (a ++ b)) vs x) (got go (ma st))) (sym (append_assoc us ws vs))
      (on_end_runs (At pc (us ++ (ws ++ vs)) x.frames st) (leads (pc + length a) (ws ++ vs) x) (leads (pc + length (a ++ b)) vs x) (with_value go) (ma st)
      (ha (ws ++ vs) x st (has_front pc a b has)) (cases e))
    where
      cases : pc + length a + length b ≡ pc + length (a ++ b) → (how : End) (st : State) → Follows (leads (pc + length a) (ws ++ vs) x how st) (leads (pc + length (a ++ b)) vs x) (with_value go how st)
      cases e (Gives v) st = does_to (pc + length a) _ _ (v ∷ ws) vs x st (go v st) e (hb v vs x st (has_back pc a b has))
      cases e Fine st = tt
      cases e Unfinished st = tt
      cases e (Need m) st = (st, refl, refl)
      cases e _ st = here

  -- what gives no value, and what comes then
  pub then_done : (pc : ℕ) (a b : List Marked) (us ws : List Val) (ma go : State → Result) → Does pc a us ma → Does (pc + length a) b ws go → Does pc (a ++ b) (us ++ ws) (λ st. done go (ma st))
  then_done pc a b us ws ma go ha hb vs x st has =
      let e : pc + length a + length b ≡ pc + length (a ++ b) = omega (arith, length-append {A = Marked}) in
      subst (λ l. Runs p reads (At pc l x.frames st) (leads (pc + length (a ++ b)) vs x) (done go (ma st))) (sym (append_assoc us ws vs))
      (on_end_runs (At pc (us ++ (ws ++ vs)) x.frames st) (leads (pc + length a) (ws ++ vs) x) (leads (pc + length (a ++ b)) vs x) (with_done go) (ma st)
      (ha (ws ++ vs) x st (has_front pc a b has)) (cases e))
    where
      cases : pc + length a + length b ≡ pc + length (a ++ b) → (how : End) (st : State) → Follows (leads (pc + length a) (ws ++ vs) x how st) (leads (pc + length (a ++ b)) vs x) (with_done go how st)
      cases e Fine st = does_to (pc + length a) _ _ ws vs x st (go st) e (hb vs x st (has_back pc a b has))
      cases e (Gives v) st = tt
      cases e Unfinished st = tt
      cases e (Need m) st = (st, refl, refl)
      cases e _ st = here

  -- one instruction: that gives a value, the answer of an operator, or the value of a member
  pub gives : (pc : ℕ) (s : Shape) (i : Instr) (ws : List Val) (f : State → Val) → ((vs : List Val) (fs : List Frame) (st : State) → act p reads (Some i) pc (ws ++ vs) fs st ≡ Goes [] (At (pc + 1) (f st ∷ vs) fs st)) → Does pc (mark s i ∷ []) ws (λ st. ends (Gives (f st)) st)
  gives pc s i ws f h vs x st has = one _ [] _ (act_at pc (ws ++ vs) x.frames st i (has_instr pc s i [] has) ∙ h vs x.frames st)

  pub answers : (pc : ℕ) (s : Shape) (i : Instr) (ws : List Val) (r : Answer Val PKind) → ((vs : List Val) (fs : List Frame) (st : State) → act p reads (Some i) pc (ws ++ vs) fs st ≡ put r (pc + 1) vs fs st) → Does pc (mark s i ∷ []) ws (answer r)
  answers pc s i ws (Ok v) h vs x st has = one _ [] _ (act_at pc (ws ++ vs) x.frames st i (has_instr pc s i [] has) ∙ h vs x.frames st)
  answers pc s i ws (Err kind) h vs x st has = one _ [] _ (act_at pc (ws ++ vs) x.frames st i (has_instr pc s i [] has) ∙ h vs x.frames st)

  pub sets : (pc : ℕ) (s : Shape) (i : Instr) (ws : List Val) (f : State → Option Val) → ((vs : List Val) (fs : List Frame) (st : State) → act p reads (Some i) pc (ws ++ vs) fs st ≡ push_set (f st) (pc + 1) vs fs st) → Does pc (mark s i ∷ []) ws (λ st. value_or_unset (f st) st)
  sets pc s i ws f h vs x st has = cases (f st) (act_at pc (ws ++ vs) x.frames st i (has_instr pc s i [] has) ∙ h vs x.frames st)
    where
      cases : (o : Option Val) → step p reads (At pc (ws ++ vs) x.frames st) ≡ push_set o (pc + 1) vs x.frames st → Runs p reads (At pc (ws ++ vs) x.frames st) (leads (pc + 1) vs x) (value_or_unset o st)
      cases (Some v) e = one _ [] _ e
      cases None e = one _ [] _ e

  -- a constant
  pub gives_constant : (pc : ℕ) (s : Shape) (v : Val) → Does pc (constant s v ∷ []) [] (λ st. ends (Gives v) st)
  gives_constant pc s v vs x st has =
      one _ [] _ (act_at pc vs x.frames st (does.Const has.2.0) (has.1 ∙ ap Some has.2.1) ∙ ap (λ o. Goes [] (At (pc + 1) (unwrap_or o void ∷ vs) x.frames st)) has.2.2)

  -- one of two parts, by a Boolean
  pub choice : (pc : ℕ) (c a b : List Marked) (s t : Shape) (mc ma mb : State → Result) (at_b end : ℕ) → at_b ≡ pc + length c + 1 + length a + 1 → end ≡ at_b + length b
      → Does pc c [] mc → Does (pc + length c + 1) a [] ma → Does at_b b [] mb
      → Does pc (c ++ mark s (does.JumpNot at_b) ∷ (a ++ mark t (does.Jump end) ∷ b)) [] (λ st. got (λ v st. chosen (truth_of v) ma mb st) (mc st))
  choice pc c a b s t mc ma mb at_b end eb ee hc ha hb =
      then_got pc c (mark s (does.JumpNot at_b) ∷ (a ++ mark t (does.Jump end) ∷ b)) [] [] mc _ hc (λ v vs x st has. ways (truth_of v) v vs x st has (act_at (pc + length c) (v ∷ vs) x.frames st _ (has_instr (pc + length c) s (does.JumpNot at_b) _ has)))
    where
      ways : (w : Bool) (v : Val) (vs : List Val) (x : Ways) (st : State) → HasAt p (pc + length c) (mark s (does.JumpNot at_b) ∷ (a ++ mark t (does.Jump end) ∷ b))
          → step p reads (At (pc + length c) (v ∷ vs) x.frames st) ≡ Goes [] (if w then At (pc + length c + 1) vs x.frames st else At at_b vs x.frames st)
          → Runs p reads (At (pc + length c) (v ∷ vs) x.frames st) (leads (pc + length c + length (mark s (does.JumpNot at_b) ∷ (a ++ mark t (does.Jump end) ∷ b))) vs x) (chosen w ma mb st)
      ways true v vs x st has e =
          let q = pc + length c + 1 in
          let behind_a = has_back q a (mark t (does.Jump end) ∷ b) has.3 in
          let last : end ≡ pc + length c + length (mark s (does.JumpNot at_b) ∷ (a ++ mark t (does.Jump end) ∷ b)) = omega (arith, length-append {A = Marked}, eb, ee) in
          does_to (pc + length c) end _ (v ∷ []) vs x st (ma st) last
          (after_one _ (At q vs x.frames st) (leads end vs x) (ma st) e
          (then_jump (At q vs x.frames st) (q + length a) end vs x (ma st) (λ ws st. one _ [] _ (act_at (q + length a) ws x.frames st (does.Jump end) (has_instr (q + length a) t (does.Jump end) b behind_a)))
          (ha vs x st (has_front q a (mark t (does.Jump end) ∷ b) has.3))))
      ways false v vs x st has e =
          let q = pc + length c + 1 in
          let behind_a = has_back q a (mark t (does.Jump end) ∷ b) has.3 in
          let last : at_b + length b ≡ pc + length c + length (mark s (does.JumpNot at_b) ∷ (a ++ mark t (does.Jump end) ∷ b)) = omega (arith, length-append {A = Marked}, eb, ee) in
          does_to (pc + length c) (at_b + length b) _ (v ∷ []) vs x st (mb st) last
          (after_one _ (At at_b vs x.frames st) (leads (at_b + length b) vs x) (mb st) e
          (hb vs x st (subst (λ n. HasAt p n b) (sym eb) behind_a.3)))
