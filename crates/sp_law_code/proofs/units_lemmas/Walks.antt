-- Code that stands in given frames, put together. What the bodies of a hook do hangs on the innermost frame.
use Rattle.std.proofs.Common.{◌≡◌, ℕ, ◌+◌, List, [], ◌∷◌, ◌++◌, length, Some, ◌∙◌, arith, length-append}
use Rattle.sp_value.specs.Val.{Val}
use Rattle.sp_meaning_states.specs.States.{Reading, State, Result, got, done}
use Rattle.sp_meaning_states.specs.Reads.{Ask, Read}
use Rattle.sp_code.specs.declared.instr.Instr.{Instr}
use Rattle.sp_code.specs.Machine.{Plain, At, Goes, act}
use Rattle.sp_code.specs.Shapes.{Shape}
use Rattle.sp_code.specs.Runs.{Ways, leads, Runs}
use Rattle.sp_code_programs.specs.exprs.Marked.{Marked, mark, HasAt}
use Rattle.sp_law_code.proofs.exprs_lemmas.Steps.{after_one, act_at, has_front, has_back, has_instr, Does}
use Rattle.sp_law_code.proofs.bodies_lemmas.Runs.{got_runs, done_runs, same_end}

module _ (p : Plain) (reads : Reading → Ask → Read) (w : Ways) where
  -- code at an address, with these operands on top, does in these frames what is meant
  abbrev pub Walks : ℕ → List Marked → List Val → (State → Result) → Type 0
  Walks pc ms ws means = (vs : List Val) (st : State) → HasAt p pc ms → Runs p reads (At pc (ws ++ vs) w.frames st) (leads (pc + length ms) vs w) (means st)

  pub walks : (pc : ℕ) (ms : List Marked) (ws : List Val) (means : State → Result) → Does p reads pc ms ws means → Walks pc ms ws means
  walks pc ms ws means h vs st has = h vs w st has

  pub walks_got : (pc : ℕ) (a b : List Marked) (ws : List Val) (ma : State → Result) (go : Val → State → Result) → Walks pc a [] ma → ((v : Val) → Walks (pc + length a) b (v ∷ ws) (go v))
      → Walks pc (a ++ b) ws (λ st. got go (ma st))
  walks_got pc a b ws ma go ha hb vs st has =
      let e : pc + length a + length b ≡ pc + length (a ++ b) = omega (arith, length-append {A = Marked}) in
      got_runs p reads (At pc (ws ++ vs) w.frames st) (pc + length a) (pc + length (a ++ b)) (ws ++ vs) vs w (ma st) go (ha (ws ++ vs) st (has_front p reads pc a b has))
      (λ v st. same_end p reads (At (pc + length a) (v ∷ ws ++ vs) w.frames st) (pc + length a + length b) (pc + length (a ++ b)) vs w (go v st) e (hb v vs st (has_back p reads pc a b has)))

  pub walks_done : (pc : ℕ) (a b : List Marked) (ma go : State → Result) → Walks pc a [] ma → Walks (pc + length a) b [] go → Walks pc (a ++ b) [] (λ st. done go (ma st))
  walks_done pc a b ma go ha hb vs st has =
      let e : pc + length a + length b ≡ pc + length (a ++ b) = omega (arith, length-append {A = Marked}) in
      done_runs p reads (At pc vs w.frames st) (pc + length a) (pc + length (a ++ b)) vs vs w (ma st) go (ha vs st (has_front p reads pc a b has))
      (λ st. same_end p reads (At (pc + length a) vs w.frames st) (pc + length a + length b) (pc + length (a ++ b)) vs w (go st) e (hb vs st (has_back p reads pc a b has)))

  -- an instruction that changes operands and the state, and what is behind it
  pub walks_step : (pc : ℕ) (s : Shape) (i : Instr) (b : List Marked) (us ws : List Val) (f : State → State) (go : State → Result)
      → ((vs : List Val) (st : State) → act p reads (Some i) pc (us ++ vs) w.frames st ≡ Goes [] (At (pc + 1) (ws ++ vs) w.frames (f st))) → Walks (pc + 1) b ws go
      → Walks pc (mark s i ∷ b) us (λ st. go (f st))
  walks_step pc s i b us ws f go e h vs st has =
      let n : pc + 1 + length b ≡ pc + length (mark s i ∷ b) = omega arith in
      after_one p reads _ (At (pc + 1) (ws ++ vs) w.frames (f st)) (leads (pc + length (mark s i ∷ b)) vs w) (go (f st)) (act_at p reads pc (us ++ vs) w.frames st i (has_instr p reads pc s i b has) ∙ e vs st)
      (same_end p reads (At (pc + 1) (ws ++ vs) w.frames (f st)) (pc + 1 + length b) (pc + length (mark s i ∷ b)) vs w (go (f st)) n (h vs (f st) has.3))
