-- The code of a statement does what it means.
use Rattle.std.proofs.Common.{◌≡◌, ℕ, ◌+◌, Bool, true, false, List, [], ◌∷◌, ◌++◌, length, Option, Some, None, refl, sym, ap, ◌∙◌, subst, arith, append_assoc, length-append}
use Rattle.std.specs.Prelude.{not, slice_get, if◌then◌else◌}
use Rattle.std.specs.Ordering.{is_eq}
use Rattle.sp_words.specs.declared.operators.BinaryOp.TheVariants as op_is
use Rattle.sp_words.specs.declared.operators.UnaryOp.TheVariants as unary_is
use Rattle.sp_value.specs.Val.{Val, void, bool}
use Rattle.sp_value.specs.Order.{val_cmp}
use Rattle.sp_operators.specs.Operators.{binary}
use Rattle.sp_methods.specs.Kinds.{Void, Bools, Unsigned}
use Rattle.sp_typed.specs.declared.stmt_words.BareOp.{BareOp}
use Rattle.sp_typed.specs.declared.stmt_words.BareOp.TheVariants as bare_is
use Rattle.sp_typed.specs.Exprs.{Expr, Exprs, none, more}
use Rattle.sp_typed.specs.Stmts.{Stmt, Stmts, Branches, Cases, bare, valued, assign, print, block, branch, while_loop, for_loop, switch, no_stmts, more_stmts, no_branches, more_branches, no_cases, more_cases}
use Rattle.sp_meaning_states.specs.States.{Reading, State, Fine, Returned, Result, ends, got, done, chosen, truth_of, answer, local_of, set_local}
use Rattle.sp_meaning_states.specs.Reads.{Ask, Read}
use Rattle.sp_meaning_states.specs.Types.{zero_value, kind_of_type}
use Rattle.sp_meaning_states.specs.Values.{members_of}
use Rattle.sp_meaning.specs.Globals.{Globals}
use Rattle.sp_code_meaning.specs.Layouts.{Layout}
use Rattle.sp_code_meaning.specs.Exprs.{slot_local, expr_means}
use Rattle.sp_code_meaning.specs.Stmts.{bare_means, valued_means, assign_means, one_equals, each, stmt_means, stmts_mean, branches_mean, cases_mean}
use Rattle.sp_code.specs.declared.instr.Instr.TheVariants as does
use Rattle.sp_code.specs.Machine.{Frame, Plain, Config, At, Goes, act, step}
use Rattle.sp_code.specs.Shapes.{Shape, push}
use Rattle.sp_code.specs.Runs.{Ways, leads, here, Runs}
use Rattle.sp_code_programs.specs.exprs.Marked.{Marked, mark, HasAt}
use Rattle.sp_code_programs.specs.exprs.Sizes.{expr_size}
use Rattle.sp_code_programs.specs.exprs.Code.{kind_at, kind_of, expr_code}
use Rattle.sp_code_programs.specs.units.Sizes.{values_size, stmt_size, stmts_size, branches_size, cases_size}
use Rattle.sp_code_programs.specs.units.Code.{bare_code, valued_code, assign_code, values_code, stmt_code, stmts_code, branches_code, cases_code}
use Rattle.sp_law_code.specs.exprs.Parts.{AreCounted, AllAreCounted}
use Rattle.sp_law_code.specs.exprs.Laws.{CallsRun}
use Rattle.sp_law_code.proofs.exprs_lemmas.Sizes.{expr_sized}
use Rattle.sp_law_code.proofs.exprs_lemmas.Steps.{after_one, then_jump, act_at, has_front, has_back, has_instr}
use Rattle.sp_law_code.proofs.exprs_lemmas.Exprs.{expr_does}
use Rattle.sp_law_code.specs.bodies.Parts.{StmtIsCounted, StmtsAreCounted, BranchesAreCounted, CasesAreCounted}
use Rattle.sp_law_code.specs.bodies.Laws.{StatementsRun}
use Rattle.sp_law_code.proofs.bodies_lemmas.Sizes.{values_sized, stmt_sized, branches_sized, cases_sized}
use Rattle.sp_law_code.proofs.bodies_lemmas.Runs.{ways_out, got_runs, behind_nothing, same_end, jumps, chosen_runs, Acts, acts, acts_moved, acts_got, acts_done, acts_step, acts_out, acts_again, acts_choice}
use Rattle.sp_law_code.proofs.bodies_lemmas.Loops.{while_acts, for_acts}
use Rattle.sp_law_code.proofs.bodies_lemmas.Changes.{local_does, returned_does, assign_does, valued_does, print_does}

module _ (p : Plain) (reads : Reading → Ask → Read) (globals : Globals) (layout : Layout) (call : ℕ → List Val → State → Result) (calls : CallsRun p reads call) where
  bare_acts : (op : BareOp) (s : Shape) (out again pc : ℕ) → Acts p reads out again pc (bare_code globals layout s out again op) [] (λ st. bare_means p.names globals p.limits.turns call layout op st)
  bare_acts (bare_is.Local l) s out again pc = acts p reads out again pc (bare_code globals layout s out again (bare_is.Local l)) [] (λ st. ends Fine (set_local (layout.first + l.slot) (zero_value globals.ranges l.ty) st)) (local_does p reads pc (layout.first + l.slot) s (push (kind_of_type globals.ranges l.ty) s) (zero_value globals.ranges l.ty))
  bare_acts bare_is.Return s out again pc = acts p reads out again pc (bare_code globals layout s out again bare_is.Return) [] (λ st. ends (Returned void) st) (returned_does p reads pc s (push Void s) void)
  bare_acts (bare_is.Break meant) s out again pc = acts_out p reads out again pc s
  bare_acts (bare_is.Continue meant) s out again pc = acts_again p reads out again pc s
  bare_acts _ s out again pc = λ vs fs st has. tt

  -- a value is tested whose truth is known: where it holds the run goes to the body, and else behind the test
  equal_runs : (w : Bool) (q body at : ℕ) (x : Ways) (taken go : State → Result) (st : State) → slice_get p.code q ≡ Some (does.Unary unary_is.Not) → slice_get p.code (q + 1) ≡ Some (does.JumpNot body)
      → Runs p reads (At body x.operands x.frames st) (leads at x.operands x) (taken st) → Runs p reads (At (q + 1 + 1) x.operands x.frames st) (leads at x.operands x) (go st)
      → Runs p reads (At q (bool w ∷ x.operands) x.frames st) (leads at x.operands x) (chosen w taken go st)
  equal_runs true q body at x taken go st i j hit miss =
      after_one p reads _ (At (q + 1) (bool false ∷ x.operands) x.frames st) (leads at x.operands x) (taken st) (act_at p reads q (bool true ∷ x.operands) x.frames st (does.Unary unary_is.Not) i)
      (after_one p reads _ (At body x.operands x.frames st) (leads at x.operands x) (taken st) (act_at p reads (q + 1) (bool false ∷ x.operands) x.frames st (does.JumpNot body) j) hit)
  equal_runs false q body at x taken go st i j hit miss =
      after_one p reads _ (At (q + 1) (bool true ∷ x.operands) x.frames st) (leads at x.operands x) (go st) (act_at p reads q (bool false ∷ x.operands) x.frames st (does.Unary unary_is.Not) i)
      (after_one p reads _ (At (q + 1 + 1) x.operands x.frames st) (leads at x.operands x) (go st) (act_at p reads (q + 1) (bool true ∷ x.operands) x.frames st (does.JumpNot body) j) miss)

  -- the values of a case: the first that equals a local leads to the body, and where none does the run goes on behind them
  values_run : (es : Exprs) (s : Shape) (l body pc at : ℕ) (x : Ways) (taken other : State → Result) (st : State) → AllAreCounted p es → HasAt p pc (values_code globals layout s l body pc es)
      → ((st : State) → Runs p reads (At body x.operands x.frames st) (leads at x.operands x) (taken st)) → ((st : State) → Runs p reads (At (pc + values_size layout es) x.operands x.frames st) (leads at x.operands x) (other st))
      → Runs p reads (At pc x.operands x.frames st) (leads at x.operands x) (one_equals p.names globals p.limits.turns call layout es l taken other st)
  values_run none s l body pc at x taken other st c has hit miss =
      let e : pc + 0 ≡ pc = omega arith in
      subst (λ n. Runs p reads (At n x.operands x.frames st) (leads at x.operands x) (other st)) e (miss st)
  values_run (more e es) s l body pc at x taken other st c has hit miss =
      let vs = x.operands in
      let fs = x.frames in
      let v = local_of st l in
      let t = push (kind_at s.locals l) s in
      let b = push Bools s in
      let q = pc + 1 + expr_size layout e in
      let code_e = expr_code globals layout t (pc + 1) e in
      let later = values_code globals layout s l body (pc + (1 + (expr_size layout e + (1 + (1 + 1))))) es in
      let tail = mark (push (kind_of globals layout e) t) (does.Binary op_is.Equal) ∷ mark b (does.Unary unary_is.Not) ∷ mark b (does.JumpNot body) ∷ later in
      let rest = subst (λ n. HasAt p (pc + 1 + n) tail) (expr_sized globals layout t (pc + 1) e) (has_back p reads (pc + 1) code_e tail has.3) in
      let behind_test : pc + (1 + (expr_size layout e + (1 + (1 + 1)))) ≡ q + 1 + 1 + 1 = omega arith in
      let go : State → Result = one_equals p.names globals p.limits.turns call layout es l taken other in
      let equal : Val → State → Result = λ b st. chosen (truth_of b) taken go st in
      let goes_on : (st : State) → Runs p reads (At (q + 1 + 1 + 1) vs fs st) (leads at vs x) (go st) = λ st.
      subst (λ n. Runs p reads (At n vs fs st) (leads at vs x) (go st)) behind_test
      (values_run es s l body (pc + (1 + (expr_size layout e + (1 + (1 + 1))))) at x taken other st c.1 (subst (λ n. HasAt p n later) (sym behind_test) rest.3.3.3) hit
      (λ st. let n : pc + values_size layout (more e es) ≡ pc + (1 + (expr_size layout e + (1 + (1 + 1)))) + values_size layout es = omega arith in subst (λ n. Runs p reads (At n vs fs st) (leads at vs x) (other st)) n (miss st))) in
      let tested : (w : Bool) (st : State) → Runs p reads (At (q + 1) (bool w ∷ vs) fs st) (leads at vs x) (chosen w taken go st) = λ w st. equal_runs w (q + 1) body at x taken go st (has_instr p reads (q + 1) b (does.Unary unary_is.Not) (mark b (does.JumpNot body) ∷ later) rest.3) (has_instr p reads (q + 1 + 1) b (does.JumpNot body) later rest.3.3) (hit st) (goes_on st) in
      after_one p reads (At pc vs fs st) (At (pc + 1) (v ∷ vs) fs st) (leads at vs x) (got (λ y st. got equal (answer (binary op_is.Equal v y) st)) (expr_means globals call layout e st))
      (act_at p reads pc vs fs st (does.Load l) (has_instr p reads pc s (does.Load l) (code_e ++ tail) has))
      (got_runs p reads (At (pc + 1) (v ∷ vs) fs st) (pc + 1 + length code_e) at (v ∷ vs) vs x (expr_means globals call layout e st) (λ y st. got equal (answer (binary op_is.Equal v y) st))
      (expr_does p reads globals layout call calls e t (pc + 1) c.0 (v ∷ vs) x st (has_front p reads (pc + 1) code_e tail has.3))
      (λ y st. subst (λ n. Runs p reads (At (pc + 1 + n) (y ∷ v ∷ vs) fs st) (leads at vs x) (got equal (answer (binary op_is.Equal v y) st))) (sym (expr_sized globals layout t (pc + 1) e))
      (after_one p reads (At q (y ∷ v ∷ vs) fs st) (At (q + 1) (bool (is_eq (val_cmp v y)) ∷ vs) fs st) (leads at vs x) (got equal (answer (binary op_is.Equal v y) st))
      (act_at p reads q (y ∷ v ∷ vs) fs st (does.Binary op_is.Equal) (has_instr p reads q (push (kind_of globals layout e) t) (does.Binary op_is.Equal) (mark b (does.Unary unary_is.Not) ∷ mark b (does.JumpNot body) ∷ later) rest))
      (behind_nothing p reads _ (leads at vs x) (chosen (is_eq (val_cmp v y)) taken go st) (tested (is_eq (val_cmp v y)) st)))))

  mutual
    pub stmt_acts : (n : ℕ) (b : Stmt) (s : Shape) (out again pc : ℕ) → StmtIsCounted p b → Acts p reads out again pc (stmt_code globals layout s out again pc b) [] (λ st. stmt_means p.names globals p.limits.turns call layout n b st)
    stmt_acts n (bare h) s out again pc c = bare_acts h.op s out again pc
    stmt_acts n (valued h e) s out again pc c = acts p reads out again pc (valued_code globals layout s pc h.op e) [] (λ st. valued_means p.names globals p.limits.turns call layout h.op e st) (valued_does p reads globals layout call calls s pc h.op e c)
    stmt_acts n (assign h target e) s out again pc c = acts p reads out again pc (assign_code globals layout s pc h.op (slot_local layout h.owner) target e) [] (λ st. assign_means p.names globals p.limits.turns call layout h.op (slot_local layout h.owner) target e st) (assign_does p reads globals layout call calls s pc h.op (slot_local layout h.owner) target e c.0 c.1)
    stmt_acts n (print at es) s out again pc c = acts p reads out again pc (stmt_code globals layout s out again pc (print at es)) [] (λ st. stmt_means p.names globals p.limits.turns call layout n (print at es) st) (print_does p reads globals layout call calls s pc es c)
    stmt_acts n (block ss) s out again pc c = stmts_act n ss s out again pc c
    stmt_acts n (branch bs b) s out again pc c =
        let at_else = pc + branches_size layout bs in
        branches_act n bs s out again (at_else + stmt_size layout b) pc (stmt_code globals layout s out again at_else b) (λ st. stmt_means p.names globals p.limits.turns call layout n b st) c.0
        (omega (arith, stmt_sized globals layout s out again at_else b)) (stmt_acts n b s out again at_else c.1)
    stmt_acts n (while_loop e b) s out again pc c =
        let m = expr_size layout e in
        let k = stmt_size layout b in
        let code_e = expr_code globals layout s pc e in
        let code_b = stmt_code globals layout s (pc + m + 1 + 1 + k + 1) pc (pc + m + 1 + 1) b in
        while_acts p reads globals call layout out again pc m k s (push Bools s) code_e code_b (expr_means globals call layout e) (λ st. stmt_means p.names globals p.limits.turns call layout n b st)
        (expr_sized globals layout s pc e) (stmt_sized globals layout s (pc + m + 1 + 1 + k + 1) pc (pc + m + 1 + 1) b) (expr_does p reads globals layout call calls e s pc c.0) (stmt_acts n b s (pc + m + 1 + 1 + k + 1) pc (pc + m + 1 + 1) c.1) n
    stmt_acts n (for_loop h e b) s out again pc c =
        let t = push (kind_of globals layout e) s in
        let u = push Unsigned t in
        let w = push (kind_of_type globals.ranges h.ty) u in
        let l = layout.first + h.slot in
        let q = pc + expr_size layout e in
        let leave = q + 1 + 1 + 1 + stmt_size layout b + 1 in
        let code_e = expr_code globals layout s pc e in
        let code_b = stmt_code globals layout u leave (q + 1) (q + 1 + 1 + 1) b in
        let body : State → Result = λ st. stmt_means p.names globals p.limits.turns call layout n b st in
        let go : Val → State → Result = λ v st. each p.names globals p.limits.turns call layout (members_of v) l body st in
        let loop = mark t does.EachStart ∷ mark u (does.EachNext (leave + 1 + 1)) ∷ mark w (does.Store l) ∷ (code_b ++ mark u (does.Jump (q + 1)) ∷ mark u does.Pop ∷ mark t does.Pop ∷ []) in
        acts_got p reads out again pc code_e loop [] (expr_means globals call layout e) go (expr_does p reads globals layout call calls e s pc c.0)
        (λ v. acts_moved p reads out again q (pc + length code_e) loop (v ∷ []) (go v) (omega (arith, expr_sized globals layout s pc e))
        (for_acts p reads globals call layout out again q l (stmt_size layout b) t u w v code_b body (stmt_sized globals layout u leave (q + 1) (q + 1 + 1 + 1) b) (stmt_acts n b u leave (q + 1) (q + 1 + 1 + 1) c.1)))
    stmt_acts n (switch slot e cs b) s out again pc c =
        let code_e = expr_code globals layout s pc e in
        let l = layout.first + slot in
        let at_store = pc + expr_size layout e in
        let at_cases = at_store + 1 in
        let at_else = at_cases + cases_size layout cs in
        let other = stmt_code globals layout s out again at_else b in
        let code_cs = cases_code globals layout s out again (at_else + stmt_size layout b) l at_cases cs in
        let otherwise : State → Result = λ st. stmt_means p.names globals p.limits.turns call layout n b st in
        let go : State → Result = λ st. cases_mean p.names globals p.limits.turns call layout n l cs otherwise st in
        let rest = mark (push (kind_of globals layout e) s) (does.Store l) ∷ (code_cs ++ other) in
        acts_got p reads out again pc code_e rest [] (expr_means globals call layout e) (λ v st. go (set_local l v st)) (expr_does p reads globals layout call calls e s pc c.0)
        (λ v. acts_moved p reads out again at_store (pc + length code_e) rest (v ∷ []) (λ st. go (set_local l v st)) (omega (arith, expr_sized globals layout s pc e))
        (acts_step p reads out again at_store (push (kind_of globals layout e) s) (does.Store l) (code_cs ++ other) (v ∷ []) [] (λ st. set_local l v st) go (λ _ _ _. refl)
        (cases_act n cs s out again (at_else + stmt_size layout b) l at_cases other otherwise c.1 (omega (arith, stmt_sized globals layout s out again at_else b)) (stmt_acts n b s out again at_else c.2))))

    stmts_act : (n : ℕ) (ss : Stmts) (s : Shape) (out again pc : ℕ) → StmtsAreCounted p ss → Acts p reads out again pc (stmts_code globals layout s out again pc ss) [] (λ st. stmts_mean p.names globals p.limits.turns call layout n ss st)
    stmts_act n no_stmts s out again pc c = λ vs fs st has. same_end p reads (At pc vs fs st) pc (pc + 0) vs (ways_out out again vs fs) (ends Fine st) (omega arith) here
    stmts_act n (more_stmts b ss) s out again pc c =
        let code_b = stmt_code globals layout s out again pc b in
        let q = pc + stmt_size layout b in
        let code_ss = stmts_code globals layout s out again q ss in
        acts_done p reads out again pc code_b code_ss (λ st. stmt_means p.names globals p.limits.turns call layout n b st) (λ st. stmts_mean p.names globals p.limits.turns call layout n ss st) (stmt_acts n b s out again pc c.0)
        (acts_moved p reads out again q (pc + length code_b) code_ss [] _ (omega (arith, stmt_sized globals layout s out again pc b)) (stmts_act n ss s out again q c.1))

    -- the branches of an `if`, with what is done where none is taken
    branches_act : (n : ℕ) (bs : Branches) (s : Shape) (out again behind pc : ℕ) (other : List Marked) (otherwise : State → Result) → BranchesAreCounted p bs → behind ≡ pc + branches_size layout bs + length other
        → Acts p reads out again (pc + branches_size layout bs) other [] otherwise
        → Acts p reads out again pc (branches_code globals layout s out again behind pc bs ++ other) [] (λ st. branches_mean p.names globals p.limits.turns call layout n bs otherwise st)
    branches_act n no_branches s out again behind pc other otherwise c e h = acts_moved p reads out again (pc + 0) pc other [] otherwise (omega arith) h
    branches_act n (more_branches e b bs) s out again behind pc other otherwise c k h =
        let at_b = pc + expr_size layout e + 1 in
        let next = at_b + stmt_size layout b + 1 in
        let code_e = expr_code globals layout s pc e in
        let code_b = stmt_code globals layout s out again at_b b in
        let later = branches_code globals layout s out again behind next bs in
        let test = mark (push Bools s) (does.JumpNot next) in
        let jump = mark s (does.Jump behind) in
        let means : State → Result = λ st. branches_mean p.names globals p.limits.turns call layout n (more_branches e b bs) otherwise st in
        let m = expr_sized globals layout s pc e in
        let mb = stmt_sized globals layout s out again at_b b in
        let behind_next : pc + branches_size layout (more_branches e b bs) ≡ next + branches_size layout bs = omega arith in
        subst (λ ms. Acts p reads out again pc ms [] means) (sym (append_assoc code_e (test ∷ (code_b ++ jump ∷ later)) other))
        (subst (λ ms. Acts p reads out again pc (code_e ++ test ∷ ms) [] means) (sym (append_assoc code_b (jump ∷ later) other))
        (acts_choice p reads out again pc code_e code_b (later ++ other) (push Bools s) s (expr_means globals call layout e) (λ st. stmt_means p.names globals p.limits.turns call layout n b st) (λ st. branches_mean p.names globals p.limits.turns call layout n bs otherwise st) next behind
        (omega (arith, m, mb)) (omega (arith, k, length-append {A = Marked}, branches_sized globals layout s out again behind next bs)) (expr_does p reads globals layout call calls e s pc c.0)
        (acts_moved p reads out again at_b (pc + length code_e + 1) code_b [] _ (omega (arith, m)) (stmt_acts n b s out again at_b c.1))
        (branches_act n bs s out again behind next other otherwise c.2 (omega (arith, k)) (acts_moved p reads out again (pc + branches_size layout (more_branches e b bs)) (next + branches_size layout bs) other [] otherwise behind_next h))))

    -- the cases of a `switch`, with what is done where none is taken
    cases_act : (n : ℕ) (cs : Cases) (s : Shape) (out again behind l pc : ℕ) (other : List Marked) (otherwise : State → Result) → CasesAreCounted p cs → behind ≡ pc + cases_size layout cs + length other
        → Acts p reads out again (pc + cases_size layout cs) other [] otherwise
        → Acts p reads out again pc (cases_code globals layout s out again behind l pc cs ++ other) [] (λ st. cases_mean p.names globals p.limits.turns call layout n l cs otherwise st)
    cases_act n no_cases s out again behind l pc other otherwise c e h = acts_moved p reads out again (pc + 0) pc other [] otherwise (omega arith) h
    cases_act n (more_cases es b cs) s out again behind l pc other otherwise c k h =
        let at_jump = pc + values_size layout es in
        let at_b = at_jump + 1 in
        let at_end = at_b + stmt_size layout b in
        let next = at_end + 1 in
        let values = values_code globals layout s l at_b pc es in
        let code_b = stmt_code globals layout s out again at_b b in
        let later = cases_code globals layout s out again behind l next cs in
        let past = mark s (does.Jump next) in
        let jump = mark s (does.Jump behind) in
        let body : State → Result = λ st. stmt_means p.names globals p.limits.turns call layout n b st in
        let go : State → Result = λ st. cases_mean p.names globals p.limits.turns call layout n l cs otherwise st in
        let means : State → Result = λ st. one_equals p.names globals p.limits.turns call layout es l body go st in
        let m = values_sized globals layout s l at_b pc es in
        let mb = stmt_sized globals layout s out again at_b b in
        let mc = cases_sized globals layout s out again behind l next cs in
        let behind_next : pc + cases_size layout (more_cases es b cs) ≡ next + cases_size layout cs = omega arith in
        subst (λ ms. Acts p reads out again pc ms [] means) (sym (append_assoc values (past ∷ (code_b ++ jump ∷ later)) other))
        (subst (λ ms. Acts p reads out again pc (values ++ past ∷ ms) [] means) (sym (append_assoc code_b (jump ∷ later) other))
        (λ vs fs st has.
        let x = ways_out out again vs fs in
        let from_jump = subst (λ n. HasAt p (pc + n) (past ∷ (code_b ++ jump ∷ (later ++ other)))) m (has_back p reads pc values (past ∷ (code_b ++ jump ∷ (later ++ other))) has) in
        let from_end = subst (λ n. HasAt p (at_b + n) (jump ∷ (later ++ other))) mb (has_back p reads at_b code_b (jump ∷ (later ++ other)) from_jump.3) in
        same_end p reads (At pc vs fs st) behind (pc + length (values ++ past ∷ (code_b ++ jump ∷ (later ++ other)))) vs x (means st) (omega (arith, k, length-append {A = Marked}, m, mb, mc))
        (values_run es s l at_b pc behind x body go st c.0 (has_front p reads pc values _ has)
        (λ st. then_jump p reads (At at_b vs fs st) at_end behind vs x (body st) (λ ws st. jumps p reads at_end behind fs (has_instr p reads at_end s (does.Jump behind) (later ++ other) from_end) ws st)
        (same_end p reads (At at_b vs fs st) (at_b + length code_b) at_end vs x (body st) (omega (arith, mb)) (stmt_acts n b s out again at_b c.1 vs fs st (has_front p reads at_b code_b _ from_jump.3))))
        (λ st. after_one p reads (At at_jump vs fs st) (At next vs fs st) (leads behind vs x) (go st) (act_at p reads at_jump vs fs st (does.Jump next) (has_instr p reads at_jump s (does.Jump next) (code_b ++ jump ∷ (later ++ other)) from_jump))
        (same_end p reads (At next vs fs st) (next + length (later ++ other)) behind vs x (go st) (omega (arith, k, length-append {A = Marked}, mc))
        (cases_act n cs s out again behind l next other otherwise c.2 (omega (arith, k)) (acts_moved p reads out again (pc + cases_size layout (more_cases es b cs)) (next + cases_size layout cs) other [] otherwise behind_next h) vs fs st from_end.3))))))

pub statements_run : StatementsRun
statements_run p reads globals call layout calls n b s pc x st c has =
    same_end p reads (At pc x.operands x.frames st) (pc + length (stmt_code globals layout s x.out x.again pc b)) (pc + stmt_size layout b) x.operands x (stmt_means p.names globals p.limits.turns call layout n b st)
    (omega (arith, stmt_sized globals layout s x.out x.again pc b)) (stmt_acts p reads globals layout call calls n b s x.out x.again pc c x.operands x.frames st has)
