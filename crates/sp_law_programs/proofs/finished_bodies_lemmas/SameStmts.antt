-- Statements agree where their calls do, at fuels that may be compared.
use Rattle.std.proofs.Common.{◌≡◌, ℕ, zero, suc, ◌+◌, ◌-◌, ◌<◌, ◌≤◌, Bool, true, false, List, [], ◌∷◌, Option, refl, arith, inl, inr}
use Rattle.std.specs.Prelude.{◌⊎◌, nat_lt, if◌then◌else◌}
use Rattle.std.proofs.lemmas.Bool.{ltb-true}
use Rattle.sp_base.specs.declared.kinds.PKind.{PKind}
use Rattle.sp_base.specs.declared.kinds.PKind.TheVariants as error_is
use Rattle.sp_words.specs.declared.operators.BinaryOp.{BinaryOp}
use Rattle.sp_words.specs.declared.operators.BinaryOp.TheVariants as op_is
use Rattle.sp_words.specs.declared.operators.AssignOp.{AssignOp}
use Rattle.sp_words.specs.declared.operators.AssignOp.TheVariants as assign_is
use Rattle.sp_value.specs.Val.{Val}
use Rattle.sp_value.specs.Changes.{with_member, without_key}
use Rattle.sp_operators.specs.Operators.{binary}
use Rattle.sp_typed.specs.declared.stmt_words.BareOp.{BareOp}
use Rattle.sp_typed.specs.declared.stmt_words.BareOp.TheVariants as bare_is
use Rattle.sp_typed.specs.declared.stmt_words.ValuedOp.{ValuedOp}
use Rattle.sp_typed.specs.declared.stmt_words.ValuedOp.TheVariants as valued_is
use Rattle.sp_typed.specs.Exprs.{Expr, Exprs, none, more}
use Rattle.sp_typed.specs.Stmts.{Stmt, Stmts, Branches, Cases, bare, valued, assign, print, block, branch, while_loop, for_loop, switch, no_stmts, more_stmts, no_branches, more_branches, no_cases, more_cases}
use Rattle.sp_meaning_states.specs.States.{State, Result, Fine, Unfinished, ends, done, fails, answer, truth_of, local_of, set_local, one_more, turn}
use Rattle.sp_meaning_states.specs.Values.{members_of}
use Rattle.sp_meaning_states.specs.Telling.{Names}
use Rattle.sp_meaning.specs.Globals.{Globals}
use Rattle.sp_code_meaning.specs.Layouts.{Layout}
use Rattle.sp_code_meaning.specs.Exprs.{slot_local}
use Rattle.sp_meaning.specs.Operations.{fails_with, update_means}
use Rattle.sp_code_meaning.specs.Stmts.{bare_means, valued_means, assign_means, rounds, each, one_equals, stmt_means, stmts_mean, branches_mean, cases_mean}
use Rattle.sp_law_programs.proofs.finished_bodies_lemmas.Agree.{Agree, Same, later, then_behind, at_once, then_got, then_done, then_round, chosen_same, answer_same}
use Rattle.sp_law_programs.proofs.finished_bodies_lemmas.SameExprs.{set_same, expr_same, all_same, place_same, put_means_same, key_same}

module _ (May : Type 0) (limit : ℕ) where
  -- two fuels that may be compared where so many turns are counted: the first may lack and is no more than the second, or both suffice
  abbrev pub Fuel : ℕ → ℕ → ℕ → Type 0
  Fuel n m c = (May × (n ≤ m)) ⊎ ((limit - c < n) × (limit - c < m))

  pub later_fuel : (n m c d : ℕ) → c ≤ d → Fuel n m c → Fuel n m d
  later_fuel n m c d l (inl f) = inl f
  later_fuel n m c d l (inr f) = inr (omega (arith, l, f.0), omega (arith, l, f.1))

  pub next_fuel : (n m c : ℕ) → c < limit → Fuel (suc n) (suc m) c → Fuel n m (c + 1)
  next_fuel n m c l (inl f) = inl (f.0, omega (arith, f.1))
  next_fuel n m c l (inr f) = inr (omega (arith, l, f.0), omega (arith, l, f.1))

  -- without fuel nothing is claimed, and that may be
  pub no_fuel : (m c : ℕ) (g : State → Result) → Fuel zero m c → Same May c (ends Unfinished) g
  no_fuel m c g (inl f) = λ st l. (omega arith, inr (f.0, tt))
  no_fuel m c g (inr f) = absurd (omega (arith, f.0))

  pub some_fuel : {A : Type 0} (n c : ℕ) → Fuel (suc n) zero c → A
  some_fuel n c (inl f) = absurd (omega (arith, f.1))
  some_fuel n c (inr f) = absurd (omega (arith, f.1))

  -- what comes behind a turn
  pub turned : (c : ℕ) (go on : State → Result) → ((st : State) → c ≤ st.now.count → st.now.count < limit → Agree May (st.now.count + 1) (go (one_more st)) (on (one_more st)))
      → Same May c (λ st. done go (turn limit st)) (λ st. done on (turn limit st))
  turned c go on h st l = by_test (nat_lt st.now.count limit) (ltb-true st.now.count limit)
    where
      by_test : (b : Bool) → (b ≡ true → st.now.count < limit)
          → Agree May st.now.count (done go (if b then ends Fine (one_more st) else fails error_is.Turns st)) (done on (if b then ends Fine (one_more st) else fails error_is.Turns st))
      by_test true below = let a = h st l (below refl) in then_behind May st.now.count [] (go (one_more st)) (on (one_more st)) (omega (arith, a.0), a.1)
      by_test false below = (omega arith, inl refl)

  module _ (names : Names) (globals : Globals) (layout : Layout) (call also : ℕ → List Val → State → Result) where
    rounds_same : (n m c : ℕ) (test tests body other : State → Result) → Fuel n m c → Same May c test tests → Same May c body other
        → Same May c (rounds names globals limit call layout n test body) (rounds names globals limit also layout m tests other)
    rounds_same zero m c test tests body other f h k = no_fuel m c _ f
    rounds_same (suc n) zero c test tests body other f h k = some_fuel n c f
    rounds_same (suc n) (suc m) c test tests body other f h k =
        then_got May c test tests _ _ h (λ v. chosen_same May c _ _ _ _ _
        (turned c _ _ (λ st l below. then_round May (c + 1) body other _ _ (later May c (c + 1) body other (omega arith) k)
        (rounds_same n m (c + 1) test tests body other (next_fuel n m c (omega (arith, l, below)) f) (later May c (c + 1) test tests (omega arith) h) (later May c (c + 1) body other (omega arith) k))
        (one_more st) (omega (arith, l))))
        (at_once May c Fine))

    each_same : (xs : List Val) (l c : ℕ) (body other : State → Result) → Same May c body other → Same May c (each names globals limit call layout xs l body) (each names globals limit also layout xs l other)
    each_same [] l c body other k = at_once May c Fine
    each_same (x ∷ xs) l c body other k =
        turned c _ _ (λ st m below. then_round May (c + 1) (λ st. body (set_local l x st)) (λ st. other (set_local l x st)) _ _ (λ st o. k (set_local l x st) (omega (arith, o)))
        (each_same xs l (c + 1) body other (later May c (c + 1) body other (omega arith) k)) (one_more st) (omega (arith, m)))

    module _ (c : ℕ) (calls : (f : ℕ) (vs : List Val) → Same May c (call f vs) (also f vs)) where
      bare_same : (o : BareOp) → Same May c (bare_means names globals limit call layout o) (bare_means names globals limit also layout o)
      bare_same (bare_is.Local l) = set_same May c (layout.first + l.slot) _
      bare_same _ = at_once May c _

      thrown_same : (kind : PKind) (text : Option (List ℕ)) → Same May c (fails_with kind text) (fails_with kind text)
      thrown_same kind text = λ st l. (omega arith, inl refl)

      valued_same : (o : ValuedOp) (e : Expr) → Same May c (valued_means names globals limit call layout o e) (valued_means names globals limit also layout o e)
      valued_same (valued_is.Local l) e = then_got May c _ _ _ _ (expr_same May globals layout c call also calls e) (set_same May c (layout.first + l.slot))
      valued_same valued_is.Return e = then_got May c _ _ _ _ (expr_same May globals layout c call also calls e) (λ v. at_once May c _)
      valued_same valued_is.Throw e = then_got May c _ _ _ _ (expr_same May globals layout c call also calls e) (λ v. thrown_same error_is.Throw _)
      valued_same (valued_is.Assert text) e =
          then_got May c _ _ _ _ (expr_same May globals layout c call also calls e) (λ v. chosen_same May c _ _ _ _ _ (at_once May c Fine) (thrown_same error_is.Assert text))
      valued_same (valued_is.Add owner) e = key_same May globals layout c call also calls (slot_local layout owner) e with_member
      valued_same (valued_is.Delete owner) e = key_same May globals layout c call also calls (slot_local layout owner) e without_key
      valued_same valued_is.Expr e = then_got May c _ _ _ _ (expr_same May globals layout c call also calls e) (λ v. at_once May c Fine)

      update_same : (o : AssignOp) (put puts : State → Result) (update other : BinaryOp → State → Result) → Same May c put puts → ((b : BinaryOp) → Same May c (update b) (other b))
          → Same May c (update_means o put update) (update_means o puts other)
      update_same assign_is.Set put puts update other h k = h
      update_same assign_is.Add put puts update other h k = k op_is.Add
      update_same assign_is.Subtract put puts update other h k = k op_is.Subtract

      assign_same : (o : AssignOp) (owner : Option ℕ) (target e : Expr) → Same May c (assign_means names globals limit call layout o owner target e) (assign_means names globals limit also layout o owner target e)
      assign_same o owner target e =
          let same = expr_same May globals layout c call also calls e in
          update_same o _ _ _ _ (put_means_same May globals layout c call also calls owner target _ _ same)
          (λ b. place_same May globals layout c call also calls owner target _ _ (λ x put puts k. then_got May c _ _ _ _ same (λ y.
          then_got May c (answer (binary b x y)) (answer (binary b x y)) put puts (answer_same May c (binary b x y)) k)))

      equals_same : (es : Exprs) (l : ℕ) (taken takes other others : State → Result) → Same May c taken takes → Same May c other others
          → Same May c (one_equals names globals limit call layout es l taken other) (one_equals names globals limit also layout es l takes others)
      equals_same none l taken takes other others h k = k
      equals_same (more e es) l taken takes other others h k = λ st m.
          then_got May c _ _ _ _ (expr_same May globals layout c call also calls e) (λ y.
          then_got May c (answer (binary op_is.Equal (local_of st l) y)) (answer (binary op_is.Equal (local_of st l) y)) _ _ (answer_same May c (binary op_is.Equal (local_of st l) y)) (λ b.
          chosen_same May c (truth_of b) taken takes _ _ h (equals_same es l taken takes other others h k))) st m

      module _ (n m : ℕ) (fuel : Fuel n m c) where
        mutual
          pub stmt_same : (b : Stmt) → Same May c (stmt_means names globals limit call layout n b) (stmt_means names globals limit also layout m b)
          stmt_same (bare h) = bare_same h.op
          stmt_same (valued h e) = valued_same h.op e
          stmt_same (assign h target e) = assign_same h.op (slot_local layout h.owner) target e
          stmt_same (print at es) = all_same May globals layout c call also calls es [] _ _ (λ vs st l. (omega arith, inl refl))
          stmt_same (block ss) = stmts_same ss
          stmt_same (branch bs b) = branches_same bs _ _ (stmt_same b)
          stmt_same (while_loop e b) = rounds_same n m c _ _ _ _ fuel (expr_same May globals layout c call also calls e) (stmt_same b)
          stmt_same (for_loop h e b) = then_got May c _ _ _ _ (expr_same May globals layout c call also calls e) (λ v. each_same (members_of v) (layout.first + h.slot) c _ _ (stmt_same b))
          stmt_same (switch slot e cs b) =
              then_got May c _ _ _ _ (expr_same May globals layout c call also calls e) (λ v st l. cases_same (layout.first + slot) cs _ _ (stmt_same b) (set_local (layout.first + slot) v st) l)

          stmts_same : (ss : Stmts) → Same May c (stmts_mean names globals limit call layout n ss) (stmts_mean names globals limit also layout m ss)
          stmts_same no_stmts = at_once May c Fine
          stmts_same (more_stmts b ss) = then_done May c _ _ _ _ (stmt_same b) (stmts_same ss)

          branches_same : (bs : Branches) (other others : State → Result) → Same May c other others
              → Same May c (branches_mean names globals limit call layout n bs other) (branches_mean names globals limit also layout m bs others)
          branches_same no_branches other others k = k
          branches_same (more_branches e b bs) other others k =
              then_got May c _ _ _ _ (expr_same May globals layout c call also calls e) (λ v. chosen_same May c _ _ _ _ _ (stmt_same b) (branches_same bs other others k))

          cases_same : (l : ℕ) (cs : Cases) (other others : State → Result) → Same May c other others
              → Same May c (cases_mean names globals limit call layout n l cs other) (cases_mean names globals limit also layout m l cs others)
          cases_same l no_cases other others k = k
          cases_same l (more_cases es b cs) other others k = equals_same es l _ _ _ _ (stmt_same b) (cases_same l cs other others k)
