-- Statements agree where calls do.
use Rattle.std.proofs.Common.{◌≡◌, ℕ, zero, suc, ◌+◌, Bool, true, false, List, [], ◌∷◌, reverse, Option, Some, refl, sym, ap, ◌∙◌, subst, arith}
use Rattle.std.proofs.lemmas.List.{reverse-reverse}
use Rattle.std.specs.Prelude.{nat_lt, if◌then◌else◌}
use Rattle.sp_base.specs.declared.kinds.PKind.{PKind}
use Rattle.sp_base.specs.declared.kinds.PKind.TheVariants as error_is
use Rattle.sp_words.specs.declared.operators.BinaryOp.{BinaryOp}
use Rattle.sp_words.specs.declared.operators.BinaryOp.TheVariants as op_is
use Rattle.sp_words.specs.declared.operators.AssignOp.{AssignOp}
use Rattle.sp_words.specs.declared.operators.AssignOp.TheVariants as assign_is
use Rattle.sp_events.specs.declared.event.What.{What}
use Rattle.sp_value.specs.Val.{Val}
use Rattle.sp_value.specs.Changes.{with_member, without_key}
use Rattle.sp_operators.specs.Operators.{binary}
use Rattle.sp_typed.specs.declared.stmt_words.BareOp.{BareOp}
use Rattle.sp_typed.specs.declared.stmt_words.BareOp.TheVariants as bare_is
use Rattle.sp_typed.specs.declared.stmt_words.ValuedOp.{ValuedOp}
use Rattle.sp_typed.specs.declared.stmt_words.ValuedOp.TheVariants as valued_is
use Rattle.sp_typed.specs.Exprs.{Expr, Exprs, none, more}
use Rattle.sp_typed.specs.Stmts.{Stmt, Stmts, Branches, Cases, bare, valued, assign, print, block, branch, while_loop, for_loop, switch, no_stmts, more_stmts, no_branches, more_branches, no_cases, more_cases}
use Rattle.sp_typed_units.specs.declared.declarations.Function.{Function}
use Rattle.sp_meaning_states.specs.States.{State, Result, Fine, ends, got, chosen, fails, answer, truth_of, local_of, set_local, one_more, turn}
use Rattle.sp_meaning_states.specs.Values.{members_of}
use Rattle.sp_meaning_states.specs.Types.{zero_value}
use Rattle.sp_meaning_states.specs.Telling.{Names, value_trees}
use Rattle.sp_meaning.specs.Globals.{Globals}
use Rattle.sp_code_meaning.specs.Layouts.{Layout}
use Rattle.sp_code_meaning.specs.Exprs.{how_many}
use Rattle.sp_code_meaning.specs.Exprs as laid_exprs
use Rattle.sp_code_meaning.specs.Stmts as laid
use Rattle.sp_meaning.specs.Operations.{fails_with, update_means}
use Rattle.sp_meaning.specs.Around.{Around}
use Rattle.sp_meaning.specs.Exprs.{expr_means}
use Rattle.sp_meaning.specs.Stmts.{printed, bare_means, valued_means, assign_means, rounds, each, one_equals, stmt_means, stmts_mean, branches_mean, cases_mean}
use Rattle.sp_law_meaning.specs.Laws.{Agree}
use Rattle.sp_law_meaning.specs.Standing.{ExprStands, AllStand, StmtStands, StmtsStand, BranchesStand, CasesStand}
use Rattle.sp_law_meaning.proofs.Agree.{here, at_once, nothing, then_got, then_done, then_round, chosen_same}
use Rattle.sp_law_meaning.proofs.Framed.{framed, Framed, Placed, Alike, alike, sets_slot, slot_of, slot_set, answer_same}
use Rattle.sp_law_meaning.proofs.Exprs.{CallsAgree, expr_same, all_same, put_means_same, key_same, update_same}

-- a turn counts alike
pub turn_same : (us : List Val) (limit : ℕ) → Alike us (turn limit) (turn limit)
turn_same us limit = alike us (turn limit) (turn limit) (λ st. by_test (nat_lt st.now.count limit) st)
  where
    by_test : (b : Bool) (st : State) → Agree (Framed us) (if b then ends Fine (one_more st) else fails error_is.Turns st) (if b then ends Fine (one_more (framed us st)) else fails error_is.Turns (framed us st))
    by_test true st = here refl
    by_test false st = here refl

thrown_same : (us : List Val) (kind : PKind) (text : Option (List ℕ)) → Alike us (fails_with kind text) (fails_with kind text)
thrown_same us kind text = alike us (fails_with kind text) (fails_with kind text) (λ st. here refl)

printed_same : (us : List Val) (names : Names) (vs : List Val) → Alike us (printed names vs) (laid.printed names (reverse vs))
printed_same us names vs =
    alike us (printed names vs) (laid.printed names (reverse vs))
    (λ st. record { how = refl; told = ap (λ ws. What.Print (value_trees names st.instances ws) ∷ []) (sym (reverse-reverse vs)); behind = refl })

module _ (names : Names) (globals : Globals) (limit : ℕ) (functions : List Function) (around : Around) (layout : Layout) (us : List Val) (placed : Placed around layout us) (has : Bool)
    (there : has ≡ true → (v : Val) × (around.current ≡ Some v)) (call also : ℕ → List Val → State → Result) (calls : CallsAgree us functions call also) where
  abbrev at : State → State → Type 0
  at = Framed us

  -- the value of an expression
  value : (e : Expr) → ExprStands has functions e → Alike us (expr_means globals call around e) (laid_exprs.expr_means globals also layout e)
  value e s = expr_same globals functions around layout us placed has there call also calls e s

  -- what comes behind a slot that is set
  set_first : (l : ℕ) (v : Val) (go on : State → Result) → Alike us go on → Alike us (λ st. go (set_local l v st)) (λ st. on (set_local (layout.first + l) v st))
  set_first l v go on h st ts r = h (set_local l v st) (set_local (layout.first + l) v ts) (ap (set_local (layout.first + l) v) r ∙ slot_set us layout.first l v st placed.first)

  rounds_same : (n : ℕ) (test tests body other : State → Result) → Alike us test tests → Alike us body other
      → Alike us (rounds names globals limit call around n test body) (laid.rounds names globals limit also layout n tests other)
  rounds_same zero test tests body other h k = nothing at
  rounds_same (suc n) test tests body other h k =
      then_got at test tests _ _ h (λ v. chosen_same at _ _ _ _ _
      (then_done at (turn limit) (turn limit) _ _ (turn_same us limit) (then_round at body other _ _ k (rounds_same n test tests body other h k)))
      (at_once at Fine))

  each_same : (xs : List Val) (l : ℕ) (body other : State → Result) → Alike us body other
      → Alike us (each names globals limit call around xs l body) (laid.each names globals limit also layout xs (layout.first + l) other)
  each_same [] l body other k = at_once at Fine
  each_same (x ∷ xs) l body other k =
      then_done at (turn limit) (turn limit) _ _ (turn_same us limit)
      (then_round at (λ st. body (set_local l x st)) (λ st. other (set_local (layout.first + l) x st)) _ _ (set_first l x body other k) (each_same xs l body other k))

  bare_same : (o : BareOp) → Alike us (bare_means names globals limit call around o) (laid.bare_means names globals limit also layout o)
  bare_same (bare_is.Local l) = sets_slot us layout.first l.slot (zero_value globals.ranges l.ty) placed.first
  bare_same bare_is.Return = at_once at _
  bare_same (bare_is.Break m) = at_once at _
  bare_same (bare_is.Continue m) = at_once at _
  bare_same _ = nothing at

  valued_same : (o : ValuedOp) (e : Expr) → ExprStands has functions e → Alike us (valued_means names globals limit call around o e) (laid.valued_means names globals limit also layout o e)
  valued_same (valued_is.Local l) e s = then_got at _ _ _ _ (value e s) (λ v. sets_slot us layout.first l.slot v placed.first)
  valued_same valued_is.Return e s = then_got at _ _ _ _ (value e s) (λ v. at_once at _)
  valued_same valued_is.Throw e s = then_got at _ _ _ _ (value e s) (λ v. thrown_same us error_is.Throw _)
  valued_same (valued_is.Assert text) e s = then_got at _ _ _ _ (value e s) (λ v. chosen_same at _ _ _ _ _ (at_once at Fine) (thrown_same us error_is.Assert text))
  valued_same (valued_is.Add owner) e s = key_same globals functions around layout us placed has there call also calls owner e with_member s
  valued_same (valued_is.Delete owner) e s = key_same globals functions around layout us placed has there call also calls owner e without_key s
  valued_same valued_is.Expr e s = then_got at _ _ _ _ (value e s) (λ v. at_once at Fine)

  by_operator : (o : AssignOp) (put puts : State → Result) (update other : BinaryOp → State → Result) → Alike us put puts → ((b : BinaryOp) → Alike us (update b) (other b))
      → Alike us (update_means o put update) (update_means o puts other)
  by_operator assign_is.Set put puts update other h k = h
  by_operator assign_is.Add put puts update other h k = k op_is.Add
  by_operator assign_is.Subtract put puts update other h k = k op_is.Subtract

  assign_same : (o : AssignOp) (owner : Option ℕ) (target e : Expr) → ExprStands has functions target → ExprStands has functions e
      → Alike us (assign_means names globals limit call around o owner target e) (laid.assign_means names globals limit also layout o (laid_exprs.slot_local layout owner) target e)
  assign_same o owner target e s q =
      by_operator o _ _ _ _ (put_means_same globals functions around layout us placed has there call also calls owner target _ _ (value e q) s)
      (λ b. update_same globals functions around layout us placed has there call also calls owner target _ _ (λ x put puts k. then_got at _ _ _ _ (value e q) (λ y.
      then_got at (answer (binary b x y)) (answer (binary b x y)) put puts (answer_same us (binary b x y)) k)) s)

  equals_same : (es : Exprs) (l : ℕ) (taken takes other others : State → Result) → Alike us taken takes → Alike us other others → AllStand has functions es
      → Alike us (one_equals names globals limit call around es l taken other) (laid.one_equals names globals limit also layout es (layout.first + l) takes others)
  equals_same none l taken takes other others h k s = k
  equals_same (more e es) l taken takes other others h k s =
      alike us (one_equals names globals limit call around (more e es) l taken other) (laid.one_equals names globals limit also layout (more e es) (layout.first + l) takes others) (λ st.
      subst (λ x. Agree at (one_equals names globals limit call around (more e es) l taken other st) (compared x (framed us st))) (sym (slot_of us layout.first l st placed.first))
      (then_got at _ _ _ _ (value e s.0) (λ y.
      then_got at (answer (binary op_is.Equal (local_of st l) y)) (answer (binary op_is.Equal (local_of st l) y)) _ _ (answer_same us (binary op_is.Equal (local_of st l) y)) (λ b.
      chosen_same at (truth_of b) taken takes _ _ h (equals_same es l taken takes other others h k s.1))) st (framed us st) refl))
    where
      compared : Val → State → Result
      compared x st =
          got (λ y st. got (λ b st. chosen (truth_of b) takes (laid.one_equals names globals limit also layout es (layout.first + l) takes others) st) (answer (binary op_is.Equal x y) st))
          (laid_exprs.expr_means globals also layout e st)

  module _ (n : ℕ) where
    mutual
      pub stmt_same : (b : Stmt) → StmtStands has functions b → Alike us (stmt_means names globals limit call around n b) (laid.stmt_means names globals limit also layout n b)
      stmt_same (bare h) s = bare_same h.op
      stmt_same (valued h e) s = valued_same h.op e s
      stmt_same (assign h target e) s = assign_same h.op h.owner target e s.0 s.1
      stmt_same (print span es) s = all_same globals functions around layout us placed has there call also calls es [] [] (how_many es) refl (omega arith) _ _ (λ vs l. printed_same us names vs) s
      stmt_same (block ss) s = stmts_same ss s
      stmt_same (branch bs b) s = branches_same bs _ _ (stmt_same b s.1) s.0
      stmt_same (while_loop e b) s = rounds_same n _ _ _ _ (value e s.0) (stmt_same b s.1)
      stmt_same (for_loop h e b) s = then_got at _ _ _ _ (value e s.0) (λ v. each_same (members_of v) h.slot _ _ (stmt_same b s.1))
      stmt_same (switch slot e cs b) s = then_got at _ _ _ _ (value e s.0) (λ v. set_first slot v _ _ (cases_same slot cs _ _ (stmt_same b s.2) s.1))

      stmts_same : (ss : Stmts) → StmtsStand has functions ss → Alike us (stmts_mean names globals limit call around n ss) (laid.stmts_mean names globals limit also layout n ss)
      stmts_same no_stmts s = at_once at Fine
      stmts_same (more_stmts b ss) s = then_done at _ _ _ _ (stmt_same b s.0) (stmts_same ss s.1)

      branches_same : (bs : Branches) (other others : State → Result) → Alike us other others → BranchesStand has functions bs
          → Alike us (branches_mean names globals limit call around n bs other) (laid.branches_mean names globals limit also layout n bs others)
      branches_same no_branches other others k s = k
      branches_same (more_branches e b bs) other others k s =
          then_got at _ _ _ _ (value e s.0) (λ v. chosen_same at _ _ _ _ _ (stmt_same b s.1) (branches_same bs other others k s.2))

      cases_same : (l : ℕ) (cs : Cases) (other others : State → Result) → Alike us other others → CasesStand has functions cs
          → Alike us (cases_mean names globals limit call around n l cs other) (laid.cases_mean names globals limit also layout n (layout.first + l) cs others)
      cases_same l no_cases other others k s = k
      cases_same l (more_cases es b cs) other others k s = equals_same es l _ _ _ _ (stmt_same b s.1) (cases_same l cs other others k s.2) s.0
