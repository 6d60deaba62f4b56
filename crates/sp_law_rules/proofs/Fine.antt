-- What bodies that end well mean doesn't go on behind them.
use Rattle.std.proofs.Common.{ℕ, ◌≡◌, ◌+◌, Bool, true, false, refl, ◌∙◌, List}
use Rattle.std.specs.Prelude.{◌&&◌}
use Rattle.sp_words.specs.declared.operators.BinaryOp.TheVariants as op_is
use Rattle.sp_events.specs.declared.event.What.{What}
use Rattle.sp_base.specs.declared.kinds.PKind.TheVariants as error_is
use Rattle.sp_value.specs.Val.{Val}
use Rattle.sp_value.specs.Parts.{text_in}
use Rattle.sp_typed.specs.declared.stmt_words.BareOp.{BareOp}
use Rattle.sp_typed.specs.declared.stmt_words.BareOp.TheVariants as bare_is
use Rattle.sp_typed.specs.declared.stmt_words.ValuedOp.{ValuedOp}
use Rattle.sp_typed.specs.declared.stmt_words.ValuedOp.TheVariants as valued_is
use Rattle.sp_operators.specs.Operators.{binary}
use Rattle.sp_typed.specs.Exprs.{Expr, Exprs, none, more}
use Rattle.sp_typed.specs.Stmts.{Stmt, Stmts, Branches, Cases, bare, valued, assign, print, block, branch, while_loop, for_loop, switch, no_stmts, more_stmts, no_branches, more_branches, no_cases, more_cases}
use Rattle.sp_meaning_states.specs.States.{State, Gives, Fine, Failed, Broke, Continued, Returned, Stopped, Backs, Rejected, Need, Unfinished, Result, Ends, ends, behind, got, done, chosen, truth_of, answer, local_of, set_local}
use Rattle.sp_meaning_states.specs.Telling.{Names}
use Rattle.sp_meaning.specs.Globals.{Globals}
use Rattle.sp_code_meaning.specs.Layouts.{Layout}
use Rattle.sp_code_meaning.specs.Exprs.{expr_means}
use Rattle.sp_meaning.specs.Operations.{fails_with}
use Rattle.sp_code_meaning.specs.Stmts.{bare_means, valued_means, one_equals, stmt_means, stmts_mean, branches_mean, cases_mean}
use Rattle.sp_rule_bodies.specs.Ends.{is_return, leaves, ends_well, last_ends_well, branches_end_well, cases_end_well}
use Rattle.sp_law_rules.specs.Ends.{goes_on}

both : (a b : Bool) → (a && b) ≡ true → (a ≡ true) × (b ≡ true)
both true true e = (refl, refl)
both true false e = cc
both false b e = cc

-- a continuation that never goes on
abbrev Never : (State → Result) → Type 0
Never go = (st : State) → goes_on (go st) ≡ false

behind_same : (told : List What) (r : Result) → goes_on (behind told r) ≡ goes_on r
behind_same told (Ends how others st) = refl

got_never : (go : Val → State → Result) → ((v : Val) → Never (go v)) → (r : Result) → goes_on (got go r) ≡ false
got_never go h (Ends (Gives v) told st) = behind_same told (go v st) ∙ h v st
got_never go h (Ends Fine told st) = refl
got_never go h (Ends (Failed e) told st) = refl
got_never go h (Ends Broke told st) = refl
got_never go h (Ends Continued told st) = refl
got_never go h (Ends (Returned v) told st) = refl
got_never go h (Ends Stopped told st) = refl
got_never go h (Ends Backs told st) = refl
got_never go h (Ends Rejected told st) = refl
got_never go h (Ends (Need n) told st) = refl
got_never go h (Ends Unfinished told st) = refl

-- where the first part doesn't go on, or the second never does
done_first : (go : State → Result) (r : Result) → goes_on r ≡ false → goes_on (done go r) ≡ false
done_first go (Ends (Gives v) told st) e = refl
done_first go (Ends Fine told st) e = cc
done_first go (Ends (Failed x) told st) e = refl
done_first go (Ends Broke told st) e = refl
done_first go (Ends Continued told st) e = refl
done_first go (Ends (Returned v) told st) e = refl
done_first go (Ends Stopped told st) e = refl
done_first go (Ends Backs told st) e = refl
done_first go (Ends Rejected told st) e = refl
done_first go (Ends (Need n) told st) e = refl
done_first go (Ends Unfinished told st) e = refl

done_last : (go : State → Result) → Never go → (r : Result) → goes_on (done go r) ≡ false
done_last go h (Ends (Gives v) told st) = refl
done_last go h (Ends Fine told st) = behind_same told (go st) ∙ h st
done_last go h (Ends (Failed x) told st) = refl
done_last go h (Ends Broke told st) = refl
done_last go h (Ends Continued told st) = refl
done_last go h (Ends (Returned v) told st) = refl
done_last go h (Ends Stopped told st) = refl
done_last go h (Ends Backs told st) = refl
done_last go h (Ends Rejected told st) = refl
done_last go h (Ends (Need n) told st) = refl
done_last go h (Ends Unfinished told st) = refl

chosen_never : (b : Bool) (x y : State → Result) → Never x → Never y → Never (chosen b x y)
chosen_never true x y hx hy st = hx st
chosen_never false x y hx hy st = hy st

module _ (names : Names) (globals : Globals) (turns : ℕ) (call : ℕ → List Val → State → Result) (layout : Layout) where
  bare_never : (op : BareOp) → is_return op ≡ true → Never (bare_means names globals turns call layout op)
  bare_never bare_is.Return e st = refl
  bare_never (bare_is.Local l) e st = cc
  bare_never (bare_is.Break meant) e st = cc
  bare_never (bare_is.Continue meant) e st = cc
  bare_never (bare_is.Stop meant) e st = cc
  bare_never (bare_is.Confirm meant) e st = cc
  bare_never (bare_is.Reject meant) e st = cc

  valued_never : (op : ValuedOp) (e : Expr) → leaves op ≡ true → Never (valued_means names globals turns call layout op e)
  valued_never valued_is.Return e h st = got_never (λ v st. ends (Returned v) st) (λ v st. refl) (expr_means globals call layout e st)
  valued_never valued_is.Throw e h st = got_never (λ v st. fails_with error_is.Throw (text_in v) st) (λ v st. refl) (expr_means globals call layout e st)
  valued_never (valued_is.Local l) e h st = cc
  valued_never (valued_is.Assert text) e h st = cc
  valued_never (valued_is.Add owner) e h st = cc
  valued_never (valued_is.Delete owner) e h st = cc
  valued_never valued_is.Expr e h st = cc

  equals_never : (es : Exprs) (l : ℕ) (taken other : State → Result) → Never taken → Never other → Never (one_equals names globals turns call layout es l taken other)
  equals_never none l taken other ht ho st = ho st
  equals_never (more e es) l taken other ht ho st =
      let rest = one_equals names globals turns call layout es l taken other in
      let first : Val → Val → State → Result = λ x b st. chosen (truth_of b) taken rest st in
      let never : (x b : Val) → Never (first x b) = λ x b. chosen_never (truth_of b) taken rest ht (equals_never es l taken other ht ho) in
      let x = local_of st l in
      got_never (λ y st. got (first x) (answer (binary op_is.Equal x y) st)) (λ y st. got_never (first x) (never x) (answer (binary op_is.Equal x y) st)) (expr_means globals call layout e st)

  mutual
    pub stmt_never : (n : ℕ) (s : Stmt) → ends_well s ≡ true → Never (stmt_means names globals turns call layout n s)
    stmt_never n (bare h) e st = bare_never h.op e st
    stmt_never n (valued h x) e st = valued_never h.op x e st
    stmt_never n (assign h target x) e st = cc
    stmt_never n (print at es) e st = cc
    stmt_never n (block ss) e st = stmts_never n ss e st
    stmt_never n (branch bs s) e st =
        let h = both (branches_end_well bs) (ends_well s) e in
        branches_never n bs (stmt_means names globals turns call layout n s) h.0 (stmt_never n s h.1) st
    stmt_never n (while_loop x s) e st = cc
    stmt_never n (for_loop h x s) e st = cc
    stmt_never n (switch slot x cs s) e st =
        let h = both (cases_end_well cs) (ends_well s) e in
        got_never (λ v st. cases_mean names globals turns call layout n (layout.first + slot) cs (stmt_means names globals turns call layout n s) (set_local (layout.first + slot) v st)) (λ v st. cases_never n (layout.first + slot) cs (stmt_means names globals turns call layout n s) h.0 (stmt_never n s h.1) (set_local (layout.first + slot) v st)) (expr_means globals call layout x st)

    stmts_never : (n : ℕ) (ss : Stmts) → last_ends_well ss ≡ true → Never (stmts_mean names globals turns call layout n ss)
    stmts_never n no_stmts e st = cc
    stmts_never n (more_stmts s no_stmts) e st = done_first (stmts_mean names globals turns call layout n no_stmts) (stmt_means names globals turns call layout n s st) (stmt_never n s e st)
    stmts_never n (more_stmts s (more_stmts t ss)) e st =
        done_last (stmts_mean names globals turns call layout n (more_stmts t ss)) (stmts_never n (more_stmts t ss) e) (stmt_means names globals turns call layout n s st)

    branches_never : (n : ℕ) (bs : Branches) (otherwise : State → Result) → branches_end_well bs ≡ true → Never otherwise → Never (branches_mean names globals turns call layout n bs otherwise)
    branches_never n no_branches otherwise e h st = h st
    branches_never n (more_branches x s bs) otherwise e h st =
        let p = both (ends_well s) (branches_end_well bs) e in
        got_never (λ v st. chosen (truth_of v) (stmt_means names globals turns call layout n s) (branches_mean names globals turns call layout n bs otherwise) st) (λ v st. chosen_never (truth_of v) (stmt_means names globals turns call layout n s) (branches_mean names globals turns call layout n bs otherwise) (stmt_never n s p.0) (branches_never n bs otherwise p.1 h) st) (expr_means globals call layout x st)

    cases_never : (n l : ℕ) (cs : Cases) (otherwise : State → Result) → cases_end_well cs ≡ true → Never otherwise → Never (cases_mean names globals turns call layout n l cs otherwise)
    cases_never n l no_cases otherwise e h st = h st
    cases_never n l (more_cases es s cs) otherwise e h st =
        let p = both (ends_well s) (cases_end_well cs) e in
        equals_never es l (stmt_means names globals turns call layout n s) (cases_mean names globals turns call layout n l cs otherwise) (stmt_never n s p.0) (cases_never n l cs otherwise p.1 h) st
