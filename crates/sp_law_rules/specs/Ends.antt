-- What bodies that end well do when they are run.
use Rattle.std.specs.Prelude.{ℕ, ◌≡◌, Bool, true, false, List}
use Rattle.sp_value.specs.Val.{Val}
use Rattle.sp_typed.specs.Stmts.{Stmt}
use Rattle.sp_meaning_states.specs.States.{State, End, Fine, Result, Ends}
use Rattle.sp_meaning_states.specs.Telling.{Names}
use Rattle.sp_meaning.specs.Globals.{Globals}
use Rattle.sp_code_meaning.specs.Layouts.{Layout}
use Rattle.sp_code_meaning.specs.Stmts.{stmt_means}
use Rattle.sp_rule_bodies.specs.Ends.{ends_well}

-- whether a statement has come to its end, and what stands behind it is next
abbrev pub is_fine : End → Bool
is_fine Fine = true
is_fine _ = false

abbrev pub goes_on : Result → Bool
goes_on (Ends how told st) = is_fine how

-- A body that ends well doesn't go on behind its last statement: it returns, fails, leaves a loop round it, or waits for more input. So
-- it holds whatever its calls do, however many rounds its loops take, and wherever it is run.
abbrev pub BodiesGiveResults : Type 0
BodiesGiveResults =
    (names : Names) (globals : Globals) (turns : ℕ) (call : ℕ → List Val → State → Result) (layout : Layout) (rounds : ℕ) (body : Stmt) (st : State) →
    ends_well body ≡ true → goes_on (stmt_means names globals turns call layout rounds body st) ≡ false
