-- Runs of statements, put together: one lemma for each handler of the meaning, and code that has ways out.
use Rattle.std.proofs.Common.{◌≡◌, ℕ, ◌+◌, Bool, true, false, List, [], ◌∷◌, ◌++◌, length, Some, refl, sym, ap, ◌∙◌, subst, arith, append_assoc, append-nil, length-append}
use Rattle.std.specs.Prelude.{nat_lt, slice_get, if◌then◌else◌}
use Rattle.sp_base.specs.declared.kinds.PKind.TheVariants.{Turns}
use Rattle.sp_value.specs.Val.{Val}
use Rattle.sp_meaning_states.specs.States.{Reading, State, End, Gives, Fine, Failed, Broke, Continued, Returned, Need, Unfinished, Result, Ends, ends, behind, on_end, with_value, with_done, with_round, got, done, round, chosen, truth_of, error_at, local_of, set_local, one_more, turn, fails}
use Rattle.sp_meaning_states.specs.Reads.{Ask, Read}
use Rattle.sp_code.specs.declared.instr.Instr.{Instr}
use Rattle.sp_code.specs.declared.instr.Instr.TheVariants as does
use Rattle.sp_code.specs.Machine.{Frame, Plain, Config, At, Ending, Next, Goes, counted, raise, act, step}
use Rattle.sp_code.specs.Shapes.{Shape}
use Rattle.sp_code.specs.Runs.{Ways, Spot, Now, Waiting, leads, Comes, here, next, Reaches, Runs}
use Rattle.sp_code_programs.specs.exprs.Marked.{Marked, mark, HasAt}
use Rattle.sp_law_code.proofs.exprs_lemmas.Steps.{one, after_one, Follows, on_end_runs, then_jump, act_at, has_front, has_back, has_instr, Does, does_to}

-- the ways out of a statement over these operands
abbrev pub ways_out : ℕ → ℕ → List Val → List Frame → Ways
ways_out out again vs fs = record { out = out; again = again; operands = vs; frames = fs }

module _ (p : Plain) (reads : Reading → Ask → Read) where
  -- a value, and what is made of it
  pub got_runs : (c : Config) (mid at : ℕ) (ws vs : List Val) (x : Ways) (r : Result) (go : Val → State → Result) → Runs p reads c (leads mid ws x) r
      → ((v : Val) (st : State) → Runs p reads (At mid (v ∷ ws) x.frames st) (leads at vs x) (go v st)) → Runs p reads c (leads at vs x) (got go r)
  got_runs c mid at ws vs x r go h rest = on_end_runs p reads c (leads mid ws x) (leads at vs x) (with_value go) r h cases
    where
      cases : (how : End) (st : State) → Follows p reads (leads mid ws x how st) (leads at vs x) (with_value go how st)
      cases (Gives v) st = rest v st
      cases Fine st = tt
      cases Unfinished st = tt
      cases (Need m) st = (st, refl, refl)
      cases _ st = here

  -- a statement, and the next
  pub done_runs : (c : Config) (mid at : ℕ) (ws vs : List Val) (x : Ways) (r : Result) (go : State → Result) → Runs p reads c (leads mid ws x) r
      → ((st : State) → Runs p reads (At mid ws x.frames st) (leads at vs x) (go st)) → Runs p reads c (leads at vs x) (done go r)
  done_runs c mid at ws vs x r go h rest = on_end_runs p reads c (leads mid ws x) (leads at vs x) (with_done go) r h cases
    where
      cases : (how : End) (st : State) → Follows p reads (leads mid ws x how st) (leads at vs x) (with_done go how st)
      cases Fine st = rest st
      cases (Gives v) st = tt
      cases Unfinished st = tt
      cases (Need m) st = (st, refl, refl)
      cases _ st = here

  -- a round of a loop, in which a break and a continue have ways of their own, and the later rounds
  pub round_runs : (c : Config) (mid at out again : ℕ) (ws vs : List Val) (x : Ways) (r : Result) (go : State → Result) → Runs p reads c (leads mid ws (ways_out out again ws x.frames)) r
      → ((st : State) → Runs p reads (At mid ws x.frames st) (leads at vs x) (go st)) → ((st : State) → Runs p reads (At again ws x.frames st) (leads at vs x) (go st))
      → ((st : State) → Comes p reads (At out ws x.frames st) [] (At at vs x.frames st)) → Runs p reads c (leads at vs x) (round go r)
  round_runs c mid at out again ws vs x r go h rest on leave = on_end_runs p reads c (leads mid ws (ways_out out again ws x.frames)) (leads at vs x) (with_round go) r h cases
    where
      cases : (how : End) (st : State) → Follows p reads (leads mid ws (ways_out out again ws x.frames) how st) (leads at vs x) (with_round go how st)
      cases Fine st = rest st
      cases Continued st = on st
      cases Broke st = leave st
      cases (Gives v) st = tt
      cases Unfinished st = tt
      cases (Need m) st = (st, refl, refl)
      cases _ st = here

  pub behind_nothing : (c : Config) (to : End → State → Spot) (r : Result) → Runs p reads c to r → Runs p reads c to (behind [] r)
  behind_nothing c to (Ends Unfinished es st) h = h
  behind_nothing c to (Ends _ es st) h = h

  pub same_end : (c : Config) (at at' : ℕ) (vs : List Val) (x : Ways) (r : Result) → at ≡ at' → Runs p reads c (leads at vs x) r → Runs p reads c (leads at' vs x) r
  same_end c at at' vs x r e h = subst (λ n. Runs p reads c (leads n vs x) r) e h

  pub jumps : (pc to : ℕ) (fs : List Frame) → slice_get p.code pc ≡ Some (does.Jump to) → (vs : List Val) (st : State) → Comes p reads (At pc vs fs st) [] (At to vs fs st)
  jumps pc to fs i vs st = one p reads _ [] _ (act_at p reads pc vs fs st (does.Jump to) i)

  -- one of two ways, by a Boolean
  pub chosen_runs : (b : Bool) (c ca cb : Config) (to : End → State → Spot) (ma mb : State → Result) (st : State) → step p reads c ≡ Goes [] (if b then ca else cb)
      → Runs p reads ca to (ma st) → Runs p reads cb to (mb st) → Runs p reads c to (chosen b ma mb st)
  chosen_runs true c ca cb to ma mb st e a b = after_one p reads c ca to (ma st) e a
  chosen_runs false c ca cb to ma mb st e a b = after_one p reads c cb to (mb st) e b

  -- a turn that leads on, and one that is one too many
  pub turn_runs : (c : Config) (at : ℕ) (vs : List Val) (x : Ways) (st : State) (go : State → Next) → step p reads c ≡ counted p.limits.turns go x.frames st → ((st : State) → go st ≡ Goes [] (At at vs x.frames st))
      → Runs p reads c (leads at vs x) (turn p.limits.turns st)
  turn_runs c at vs x st go e f = cases (nat_lt st.now.count p.limits.turns) e
    where
      cases : (b : Bool) → step p reads c ≡ (if b then go (one_more st) else raise Turns x.frames st) → Runs p reads c (leads at vs x) (if b then ends Fine (one_more st) else fails Turns st)
      cases true e = one p reads c [] _ (e ∙ f (one_more st))
      cases false e = one p reads c [] _ e

  -- The code of a statement, from which a break and a continue lead to these addresses, does what is meant, with these operands on top.
  abbrev pub Acts : ℕ → ℕ → ℕ → List Marked → List Val → (State → Result) → Type 0
  Acts out again pc ms ws means = (vs : List Val) (fs : List Frame) (st : State) → HasAt p pc ms → Runs p reads (At pc (ws ++ vs) fs st) (leads (pc + length ms) vs (ways_out out again vs fs)) (means st)

  -- so does code that has no way out
  pub acts : (out again pc : ℕ) (ms : List Marked) (ws : List Val) (means : State → Result) → Does p reads pc ms ws means → Acts out again pc ms ws means
  acts out again pc ms ws means h vs fs st has = h vs (ways_out out again vs fs) st has

  pub acts_moved : (out again at pc : ℕ) (ms : List Marked) (ws : List Val) (means : State → Result) → at ≡ pc → Acts out again at ms ws means → Acts out again pc ms ws means
  acts_moved out again at pc ms ws means e h = subst (λ n. Acts out again n ms ws means) e h

  pub acts_got : (out again pc : ℕ) (a b : List Marked) (ws : List Val) (ma : State → Result) (go : Val → State → Result) → Does p reads pc a [] ma → ((v : Val) → Acts out again (pc + length a) b (v ∷ ws) (go v))
      → Acts out again pc (a ++ b) ws (λ st. got go (ma st))
  acts_got out again pc a b ws ma go ha hb vs fs st has =
      let x = ways_out out again vs fs in
      let e : pc + length a + length b ≡ pc + length (a ++ b) = omega (arith, length-append {A = Marked}) in
      got_runs (At pc (ws ++ vs) fs st) (pc + length a) (pc + length (a ++ b)) (ws ++ vs) vs x (ma st) go (ha (ws ++ vs) x st (has_front p reads pc a b has))
      (λ v st. same_end (At (pc + length a) (v ∷ ws ++ vs) fs st) (pc + length a + length b) (pc + length (a ++ b)) vs x (go v st) e (hb v vs fs st (has_back p reads pc a b has)))

  pub acts_done : (out again pc : ℕ) (a b : List Marked) (ma go : State → Result) → Acts out again pc a [] ma → Acts out again (pc + length a) b [] go → Acts out again pc (a ++ b) [] (λ st. done go (ma st))
  acts_done out again pc a b ma go ha hb vs fs st has =
      let x = ways_out out again vs fs in
      let e : pc + length a + length b ≡ pc + length (a ++ b) = omega (arith, length-append {A = Marked}) in
      done_runs (At pc vs fs st) (pc + length a) (pc + length (a ++ b)) vs vs x (ma st) go (ha vs fs st (has_front p reads pc a b has))
      (λ st. same_end (At (pc + length a) vs fs st) (pc + length a + length b) (pc + length (a ++ b)) vs x (go st) e (hb vs fs st (has_back p reads pc a b has)))

  -- an instruction that changes operands and the state, and what is behind it
  pub acts_step : (out again pc : ℕ) (s : Shape) (i : Instr) (b : List Marked) (us ws : List Val) (f : State → State) (go : State → Result)
      → ((vs : List Val) (fs : List Frame) (st : State) → act p reads (Some i) pc (us ++ vs) fs st ≡ Goes [] (At (pc + 1) (ws ++ vs) fs (f st))) → Acts out again (pc + 1) b ws go
      → Acts out again pc (mark s i ∷ b) us (λ st. go (f st))
  acts_step out again pc s i b us ws f go e h vs fs st has =
      let x = ways_out out again vs fs in
      let n : pc + 1 + length b ≡ pc + length (mark s i ∷ b) = omega arith in
      after_one p reads _ (At (pc + 1) (ws ++ vs) fs (f st)) (leads (pc + length (mark s i ∷ b)) vs x) (go (f st)) (act_at p reads pc (us ++ vs) fs st i (has_instr p reads pc s i b has) ∙ e vs fs st)
      (same_end (At (pc + 1) (ws ++ vs) fs (f st)) (pc + 1 + length b) (pc + length (mark s i ∷ b)) vs x (go (f st)) n (h vs fs (f st) has.3))

  -- a jump
  pub acts_out : (out again pc : ℕ) (s : Shape) → Acts out again pc (mark s (does.Jump out) ∷ []) [] (λ st. ends Broke st)
  acts_out out again pc s vs fs st has = jumps pc out fs (has_instr p reads pc s (does.Jump out) [] has) vs st

  pub acts_again : (out again pc : ℕ) (s : Shape) → Acts out again pc (mark s (does.Jump again) ∷ []) [] (λ st. ends Continued st)
  acts_again out again pc s vs fs st has = jumps pc again fs (has_instr p reads pc s (does.Jump again) [] has) vs st

  -- a test, code that is done where it holds, with a jump past what is done where it doesn't
  pub acts_choice : (out again pc : ℕ) (c a b : List Marked) (s t : Shape) (mc ma mb : State → Result) (at_b end : ℕ) → at_b ≡ pc + length c + 1 + length a + 1 → end ≡ at_b + length b
      → Does p reads pc c [] mc → Acts out again (pc + length c + 1) a [] ma → Acts out again at_b b [] mb
      → Acts out again pc (c ++ mark s (does.JumpNot at_b) ∷ (a ++ mark t (does.Jump end) ∷ b)) [] (λ st. got (λ v st. chosen (truth_of v) ma mb st) (mc st))
  acts_choice out again pc c a b s t mc ma mb at_b end eb ee hc ha hb =
      acts_got out again pc c (mark s (does.JumpNot at_b) ∷ (a ++ mark t (does.Jump end) ∷ b)) [] mc (λ v st. chosen (truth_of v) ma mb st) hc (λ v vs fs st has.
      let x = ways_out out again vs fs in
      let q = pc + length c in
      let behind_a = has_back p reads (q + 1) a (mark t (does.Jump end) ∷ b) has.3 in
      let last : end ≡ q + length (mark s (does.JumpNot at_b) ∷ (a ++ mark t (does.Jump end) ∷ b)) = omega (arith, length-append {A = Marked}, eb, ee) in
      same_end (At q (v ∷ vs) fs st) end (q + length (mark s (does.JumpNot at_b) ∷ (a ++ mark t (does.Jump end) ∷ b))) vs x (chosen (truth_of v) ma mb st) last
      (chosen_runs (truth_of v) (At q (v ∷ vs) fs st) (At (q + 1) vs fs st) (At at_b vs fs st) (leads end vs x) ma mb st (act_at p reads q (v ∷ vs) fs st (does.JumpNot at_b) (has_instr p reads q s (does.JumpNot at_b) (a ++ mark t (does.Jump end) ∷ b) has))
      (then_jump p reads (At (q + 1) vs fs st) (q + 1 + length a) end vs x (ma st) (λ ws st. jumps (q + 1 + length a) end fs (has_instr p reads (q + 1 + length a) t (does.Jump end) b behind_a) ws st)
      (ha vs fs st (has_front p reads (q + 1) a (mark t (does.Jump end) ∷ b) has.3)))
      (same_end (At at_b vs fs st) (at_b + length b) end vs x (mb st) (sym ee) (hb vs fs st (subst (λ n. HasAt p n b) (sym eb) behind_a.3)))))
