-- Loops, by the number of their rounds and by the values over which they go.
use Rattle.std.proofs.Common.{◌≡◌, ℕ, zero, suc, ◌+◌, List, [], ◌∷◌, ◌++◌, length, Some, refl, ap, ◌∙◌, subst, arith, length-append}
use Rattle.std.specs.Prelude.{slice_get}
use Rattle.sp_numbers.specs.declared.width.Width.{Width}
use Rattle.sp_numbers.specs.declared.width.Width.TheVariants.{W64}
use Rattle.sp_value.specs.Val.{Val, uint}
use Rattle.sp_meaning_states.specs.States.{Reading, State, Fine, Result, ends, done, round, chosen, truth_of, set_local, turn}
use Rattle.sp_meaning_states.specs.Reads.{Ask, Read}
use Rattle.sp_meaning_states.specs.Values.{members_of}
use Rattle.sp_meaning.specs.Globals.{Globals}
use Rattle.sp_code_meaning.specs.Layouts.{Layout}
use Rattle.sp_code_meaning.specs.Stmts.{rounds, each}
use Rattle.sp_code.specs.declared.instr.Instr.TheVariants as does
use Rattle.sp_code.specs.Machine.{Frame, Plain, At, Goes, each_next}
use Rattle.sp_code.specs.Shapes.{Shape}
use Rattle.sp_code.specs.Runs.{Ways, leads, here, Runs}
use Rattle.sp_code_programs.specs.exprs.Marked.{Marked, mark, HasAt}
use Rattle.sp_law_code.proofs.exprs_lemmas.Steps.{then_comes, one, after_one, act_at, has_front, has_back, has_instr, Does}
use Rattle.sp_law_code.proofs.bodies_lemmas.Runs.{ways_out, got_runs, done_runs, round_runs, same_end, chosen_runs, turn_runs, Acts}

module _ (p : Plain) (reads : Reading → Ask → Read) (globals : Globals) (call : ℕ → List Val → State → Result) (layout : Layout) where
  -- a loop on a test, from what its test and its body do: the test at pc, the turn behind it, and at last the jump back
  pub while_runs : (test body : State → Result) (pc at_test at_jump behind : ℕ) (x : Ways) → slice_get p.code at_test ≡ Some (does.JumpNot behind) → slice_get p.code (at_test + 1) ≡ Some does.Turn
      → slice_get p.code at_jump ≡ Some (does.Jump pc) → ((st : State) → Runs p reads (At pc x.operands x.frames st) (leads at_test x.operands x) (test st))
      → ((st : State) → Runs p reads (At (at_test + 1 + 1) x.operands x.frames st) (leads at_jump x.operands (ways_out behind pc x.operands x.frames)) (body st))
      → (n : ℕ) (st : State) → Runs p reads (At pc x.operands x.frames st) (leads behind x.operands x) (rounds p.names globals p.limits.turns call layout n test body st)
  while_runs test body pc at_test at_jump behind x i j k tests bodies zero st = tt
  while_runs test body pc at_test at_jump behind x i j k tests bodies (suc n) st =
      let vs = x.operands in
      let later = while_runs test body pc at_test at_jump behind x i j k tests bodies n in
      let go = rounds p.names globals p.limits.turns call layout n test body in
      let enter : State → Result = λ st. done (λ st. round go (body st)) (turn p.limits.turns st) in
      got_runs p reads (At pc vs x.frames st) at_test behind vs vs x (test st) (λ v st. chosen (truth_of v) enter (ends Fine) st) (tests st)
      (λ v st. chosen_runs p reads (truth_of v) _ (At (at_test + 1) vs x.frames st) (At behind vs x.frames st) (leads behind vs x) enter (ends Fine) st (act_at p reads at_test (v ∷ vs) x.frames st (does.JumpNot behind) i)
      (done_runs p reads (At (at_test + 1) vs x.frames st) (at_test + 1 + 1) behind vs vs x (turn p.limits.turns st) (λ st. round go (body st))
      (turn_runs p reads _ (at_test + 1 + 1) vs x st (λ st. Goes [] (At (at_test + 1 + 1) vs x.frames st)) (act_at p reads (at_test + 1) vs x.frames st does.Turn j) (λ st. refl))
      (λ st. round_runs p reads (At (at_test + 1 + 1) vs x.frames st) at_jump behind behind pc vs vs x (body st) go (bodies st)
      (λ st. after_one p reads _ (At pc vs x.frames st) (leads behind vs x) (go st) (act_at p reads at_jump vs x.frames st (does.Jump pc) k) (later st))
      later (λ st. here)))
      here)

  -- A loop over values, of which these are left from the one at a number on, from what its body does: behind it the jump back, and two
  -- instructions that drop what the loop keeps.
  pub each_runs : (body : State → Result) (v : Val) (at_next at_jump l leave : ℕ) (x : Ways) → slice_get p.code at_next ≡ Some (does.EachNext (leave + 1 + 1)) → slice_get p.code (at_next + 1) ≡ Some (does.Store l)
      → slice_get p.code at_jump ≡ Some (does.Jump at_next) → slice_get p.code leave ≡ Some does.Pop → slice_get p.code (leave + 1) ≡ Some does.Pop
      → ((w : Width) (i : ℕ) (st : State) → Runs p reads (At (at_next + 1 + 1) (uint w i ∷ v ∷ x.operands) x.frames st) (leads at_jump (uint w i ∷ v ∷ x.operands) (ways_out leave at_next (uint w i ∷ v ∷ x.operands) x.frames)) (body st))
      → (xs : List Val) (w : Width) (i : ℕ) → ((j : ℕ) → slice_get (members_of v) (i + j) ≡ slice_get xs j)
      → (st : State) → Runs p reads (At at_next (uint w i ∷ v ∷ x.operands) x.frames st) (leads (leave + 1 + 1) x.operands x) (each p.names globals p.limits.turns call layout xs l body st)
  each_runs body v at_next at_jump l leave x i1 i2 i3 i4 i5 bodies [] w i left st =
      let e : i ≡ i + 0 = omega arith in
      let vs = x.operands in
      one p reads _ [] _
      (act_at p reads at_next (uint w i ∷ v ∷ vs) x.frames st (does.EachNext (leave + 1 + 1)) i1 ∙ ap (λ o. each_next p.limits.turns (leave + 1 + 1) (at_next + 1) o i v vs x.frames st) (ap (slice_get (members_of v)) e ∙ left 0))
  each_runs body v at_next at_jump l leave x i1 i2 i3 i4 i5 bodies (z ∷ zs) w i left st =
      let e : i ≡ i + 0 = omega arith in
      let vs = x.operands in
      let ws = uint W64 (i + 1) ∷ v ∷ vs in
      let later = each_runs body v at_next at_jump l leave x i1 i2 i3 i4 i5 bodies zs W64 (i + 1) (λ j. let f : i + 1 + j ≡ i + suc j = omega arith in ap (slice_get (members_of v)) f ∙ left (suc j)) in
      let go = each p.names globals p.limits.turns call layout zs l body in
      done_runs p reads (At at_next (uint w i ∷ v ∷ vs) x.frames st) (at_next + 1) (leave + 1 + 1) (z ∷ ws) vs x (turn p.limits.turns st) (λ st. round go (body (set_local l z st)))
      (turn_runs p reads _ (at_next + 1) (z ∷ ws) x st (λ st. Goes [] (At (at_next + 1) (z ∷ ws) x.frames st))
      (act_at p reads at_next (uint w i ∷ v ∷ vs) x.frames st (does.EachNext (leave + 1 + 1)) i1 ∙ ap (λ o. each_next p.limits.turns (leave + 1 + 1) (at_next + 1) o i v vs x.frames st) (ap (slice_get (members_of v)) e ∙ left 0)) (λ st. refl))
      (λ st. after_one p reads _ (At (at_next + 1 + 1) ws x.frames (set_local l z st)) (leads (leave + 1 + 1) vs x) (round go (body (set_local l z st))) (act_at p reads (at_next + 1) (z ∷ ws) x.frames st (does.Store l) i2)
      (round_runs p reads (At (at_next + 1 + 1) ws x.frames (set_local l z st)) at_jump (leave + 1 + 1) leave at_next ws vs x (body (set_local l z st)) go (bodies W64 (i + 1) (set_local l z st))
      (λ st. after_one p reads _ (At at_next ws x.frames st) (leads (leave + 1 + 1) vs x) (go st) (act_at p reads at_jump ws x.frames st (does.Jump at_next) i3) (later st))
      later
      (λ st. then_comes p reads (one p reads _ [] _ (act_at p reads leave ws x.frames st does.Pop i4)) (one p reads _ [] _ (act_at p reads (leave + 1) (v ∷ vs) x.frames st does.Pop i5)))))

  -- the code of a loop on a test, by the lengths of its parts
  pub while_acts : (out again pc m k : ℕ) (s t : Shape) (code_e code_b : List Marked) (test body : State → Result) → length code_e ≡ m → length code_b ≡ k → Does p reads pc code_e [] test
      → Acts p reads (pc + m + 1 + 1 + k + 1) pc (pc + m + 1 + 1) code_b [] body
      → (n : ℕ) → Acts p reads out again pc (code_e ++ mark t (does.JumpNot (pc + m + 1 + 1 + k + 1)) ∷ mark s does.Turn ∷ (code_b ++ mark s (does.Jump pc) ∷ [])) []
      (λ st. rounds p.names globals p.limits.turns call layout n test body st)
  while_acts out again pc m k s t code_e code_b test body em ek he hb n vs fs st has =
      let at_test = pc + m in
      let at_b = at_test + 1 + 1 in
      let at_jump = at_b + k in
      let behind = at_jump + 1 in
      let jump = mark s (does.Jump pc) ∷ [] in
      let from_turn = mark s does.Turn ∷ (code_b ++ jump) in
      let from_test = mark t (does.JumpNot behind) ∷ from_turn in
      let rest = subst (λ n. HasAt p (pc + n) from_test) em (has_back p reads pc code_e from_test has) in
      let last = subst (λ n. HasAt p (at_b + n) jump) ek (has_back p reads at_b code_b jump rest.3.3) in
      let x = ways_out out again vs fs in
      same_end p reads (At pc vs fs st) behind (pc + length (code_e ++ from_test)) vs x (rounds p.names globals p.limits.turns call layout n test body st) (omega (arith, length-append {A = Marked}, em, ek))
      (while_runs test body pc at_test at_jump behind x (has_instr p reads at_test t (does.JumpNot behind) from_turn rest) (has_instr p reads (at_test + 1) s does.Turn (code_b ++ jump) rest.3) (has_instr p reads at_jump s (does.Jump pc) [] last)
      (λ st. same_end p reads (At pc vs fs st) (pc + length code_e) at_test vs x (test st) (omega (arith, em)) (he vs x st (has_front p reads pc code_e from_test has)))
      (λ st. same_end p reads (At at_b vs fs st) (at_b + length code_b) at_jump vs (ways_out behind pc vs fs) (body st) (omega (arith, ek)) (hb vs fs st (has_front p reads at_b code_b jump rest.3.3))) n st)

  -- the code of a loop over the members of a value, which is on top, by the length of its body
  pub for_acts : (out again pc l m : ℕ) (t u w : Shape) (v : Val) (code_b : List Marked) (body : State → Result) → length code_b ≡ m
      → Acts p reads (pc + 1 + 1 + 1 + m + 1) (pc + 1) (pc + 1 + 1 + 1) code_b [] body
      → Acts p reads out again pc (mark t does.EachStart ∷ mark u (does.EachNext (pc + 1 + 1 + 1 + m + 1 + 1 + 1)) ∷ mark w (does.Store l) ∷ (code_b ++ mark u (does.Jump (pc + 1)) ∷ mark u does.Pop ∷ mark t does.Pop ∷ [])) (v ∷ [])
      (λ st. each p.names globals p.limits.turns call layout (members_of v) l body st)
  for_acts out again pc l m t u w v code_b body em hb vs fs st has =
      let at_next = pc + 1 in
      let at_b = at_next + 1 + 1 in
      let at_jump = at_b + m in
      let leave = at_jump + 1 in
      let tail = mark u (does.Jump at_next) ∷ mark u does.Pop ∷ mark t does.Pop ∷ [] in
      let from_store = mark w (does.Store l) ∷ (code_b ++ tail) in
      let from_next = mark u (does.EachNext (leave + 1 + 1)) ∷ from_store in
      let last = subst (λ n. HasAt p (at_b + n) tail) em (has_back p reads at_b code_b tail has.3.3.3) in
      let x = ways_out out again vs fs in
      let means : State → Result = λ st. each p.names globals p.limits.turns call layout (members_of v) l body st in
      same_end p reads (At pc (v ∷ vs) fs st) (leave + 1 + 1) (pc + length (mark t does.EachStart ∷ from_next)) vs x (means st) (omega (arith, length-append {A = Marked}, em))
      (after_one p reads (At pc (v ∷ vs) fs st) (At at_next (uint W64 0 ∷ v ∷ vs) fs st) (leads (leave + 1 + 1) vs x) (means st) (act_at p reads pc (v ∷ vs) fs st does.EachStart (has_instr p reads pc t does.EachStart from_next has))
      (each_runs body v at_next at_jump l leave x (has_instr p reads at_next u (does.EachNext (leave + 1 + 1)) from_store has.3) (has_instr p reads (at_next + 1) w (does.Store l) (code_b ++ tail) has.3.3)
      (has_instr p reads at_jump u (does.Jump at_next) (mark u does.Pop ∷ mark t does.Pop ∷ []) last) (has_instr p reads leave u does.Pop (mark t does.Pop ∷ []) last.3) (has_instr p reads (leave + 1) t does.Pop [] last.3.3)
      (λ w i st. same_end p reads (At at_b (uint w i ∷ v ∷ vs) fs st) (at_b + length code_b) at_jump (uint w i ∷ v ∷ vs) (ways_out leave at_next (uint w i ∷ v ∷ vs) fs) (body st) (omega (arith, em))
      (hb (uint w i ∷ v ∷ vs) fs st (has_front p reads at_b code_b tail has.3.3.3)))
      (members_of v) W64 0 (λ j. let f : 0 + j ≡ j = omega arith in ap (slice_get (members_of v)) f) st))
