-- What statements mean.
use Rattle.std.specs.Prelude.{ℕ, zero, suc, ◌+◌, List, [], ◌∷◌, reverse, Option}
use Rattle.sp_base.specs.declared.kinds.PKind.TheVariants as error_is
use Rattle.sp_words.specs.declared.operators.BinaryOp.TheVariants as op_is
use Rattle.sp_words.specs.declared.operators.AssignOp.{AssignOp}
use Rattle.sp_events.specs.declared.event.What.{What}
use Rattle.sp_value.specs.Val.{Val, void}
use Rattle.sp_value.specs.Parts.{text_in}
use Rattle.sp_value.specs.Changes.{with_member, without_key}
use Rattle.sp_operators.specs.Operators.{binary}
use Rattle.sp_typed.specs.declared.stmt_words.BareOp.{BareOp}
use Rattle.sp_typed.specs.declared.stmt_words.BareOp.TheVariants as bare_is
use Rattle.sp_typed.specs.declared.stmt_words.ValuedOp.{ValuedOp}
use Rattle.sp_typed.specs.declared.stmt_words.ValuedOp.TheVariants as valued_is
use Rattle.sp_typed.specs.Exprs.{Expr, Exprs, none, more}
use Rattle.sp_typed.specs.Stmts.{Stmt, Stmts, Branches, Cases, bare, valued, assign, print, block, branch, while_loop, for_loop, switch, no_stmts, more_stmts, no_branches, more_branches, no_cases, more_cases}
use Rattle.sp_meaning_states.specs.States.{State, Fine, Broke, Continued, Returned, Unfinished, Result, Ends, ends, got, done, round, chosen, truth_of, answer, local_of, set_local, turn}
use Rattle.sp_meaning_states.specs.Values.{members_of}
use Rattle.sp_meaning_states.specs.Types.{zero_value}
use Rattle.sp_meaning_states.specs.Telling.{Names, value_trees}
use Rattle.sp_meaning.specs.Globals.{Globals}
use Rattle.sp_code_meaning.specs.Layouts.{Layout}
use Rattle.sp_code_meaning.specs.Exprs.{slot_local, expr_means, all_got, place_means}
use Rattle.sp_code_meaning.specs.Places.{put_means, key_means}
use Rattle.sp_meaning.specs.Operations.{fails_with, update_means}

-- a `print` of values, which come with the last first
abbrev pub printed : Names → List Val → State → Result
printed names vs st = Ends Fine (What.Print (value_trees names st.instances (reverse vs)) ∷ []) st

module _ (names : Names) (globals : Globals) (limit : ℕ) (call : ℕ → List Val → State → Result) (layout : Layout) where
  -- a statement without parts; `stop`, `confirm` and `reject` claim nothing yet
  abbrev pub bare_means : BareOp → State → Result
  bare_means (bare_is.Local l) st = ends Fine (set_local (layout.first + l.slot) (zero_value globals.ranges l.ty) st)
  bare_means bare_is.Return st = ends (Returned void) st
  bare_means (bare_is.Break meant) st = ends Broke st
  bare_means (bare_is.Continue meant) st = ends Continued st
  bare_means op st = ends Unfinished st

  abbrev pub valued_means : ValuedOp → Expr → State → Result
  valued_means (valued_is.Local l) e st = got (λ v st. ends Fine (set_local (layout.first + l.slot) v st)) (expr_means globals call layout e st)
  valued_means valued_is.Return e st = got (λ v st. ends (Returned v) st) (expr_means globals call layout e st)
  valued_means valued_is.Throw e st = got (λ v st. fails_with error_is.Throw (text_in v) st) (expr_means globals call layout e st)
  valued_means (valued_is.Assert text) e st =
      got (λ v st. chosen (truth_of v) (ends Fine) (fails_with error_is.Assert text) st) (expr_means globals call layout e st)
  valued_means (valued_is.Add owner) e st = key_means globals call layout (slot_local layout owner) e with_member st
  valued_means (valued_is.Delete owner) e st = key_means globals call layout (slot_local layout owner) e without_key st
  valued_means valued_is.Expr e st = got (λ v st. ends Fine st) (expr_means globals call layout e st)

  -- `t = e`, and `t += e`, which reads t before e
  abbrev pub assign_means : AssignOp → Option ℕ → Expr → Expr → State → Result
  assign_means op owner target e st =
      update_means op (put_means globals call layout owner target (expr_means globals call layout e))
      (λ o. place_means globals call layout owner target (λ x put st. got (λ y st. got put (answer (binary o x y) st)) (expr_means globals call layout e st))) st

  -- a loop on a test, of at most n rounds; a turn is counted at each round whose body is entered
  abbrev pub rounds : ℕ → (State → Result) → (State → Result) → State → Result
  rounds zero test body st = ends Unfinished st
  rounds (suc n) test body st =
      got (λ v st. chosen (truth_of v) (λ st. done (λ st. round (rounds n test body) (body st)) (turn limit st)) (ends Fine) st) (test st)

  -- a loop over these values
  abbrev pub each : List Val → ℕ → (State → Result) → State → Result
  each [] l body st = ends Fine st
  each (x ∷ xs) l body st = done (λ st. round (each xs l body) (body (set_local l x st))) (turn limit st)

  -- the first of these values that equals that of a local decides; they are evaluated up to it
  abbrev pub one_equals : Exprs → ℕ → (State → Result) → (State → Result) → State → Result
  one_equals none l taken other st = other st
  one_equals (more e es) l taken other st =
      let x = local_of st l in
      got (λ y st. got (λ b st. chosen (truth_of b) taken (one_equals es l taken other) st) (answer (binary op_is.Equal x y) st)) (expr_means globals call layout e st)

  abbrev mutual
    pub stmt_means : ℕ → Stmt → State → Result
    stmt_means n (bare h) st = bare_means h.op st
    stmt_means n (valued h e) st = valued_means h.op e st
    stmt_means n (assign h target e) st = assign_means h.op (slot_local layout h.owner) target e st
    stmt_means n (print at es) st = all_got globals call layout es [] (printed names) st
    stmt_means n (block ss) st = stmts_mean n ss st
    stmt_means n (branch bs s) st = branches_mean n bs (stmt_means n s) st
    stmt_means n (while_loop e s) st = rounds n (expr_means globals call layout e) (stmt_means n s) st
    stmt_means n (for_loop h e s) st = got (λ v st. each (members_of v) (layout.first + h.slot) (stmt_means n s) st) (expr_means globals call layout e st)
    stmt_means n (switch slot e cs s) st =
        got (λ v st. cases_mean n (layout.first + slot) cs (stmt_means n s) (set_local (layout.first + slot) v st)) (expr_means globals call layout e st)

    pub stmts_mean : ℕ → Stmts → State → Result
    stmts_mean n no_stmts st = ends Fine st
    stmts_mean n (more_stmts s ss) st = done (stmts_mean n ss) (stmt_means n s st)

    pub branches_mean : ℕ → Branches → (State → Result) → State → Result
    branches_mean n no_branches otherwise st = otherwise st
    branches_mean n (more_branches e s bs) otherwise st =
        got (λ v st. chosen (truth_of v) (stmt_means n s) (branches_mean n bs otherwise) st) (expr_means globals call layout e st)

    pub cases_mean : ℕ → ℕ → Cases → (State → Result) → State → Result
    cases_mean n l no_cases otherwise st = otherwise st
    cases_mean n l (more_cases es s cs) otherwise st = one_equals es l (stmt_means n s) (cases_mean n l cs otherwise) st
