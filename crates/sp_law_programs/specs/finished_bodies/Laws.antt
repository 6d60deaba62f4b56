-- That more fuel changes nothing that is finished, and that a fuel above the turns that are left suffices.
use Rattle.std.specs.Prelude.{◌≡◌, ℕ, ◌-◌, ◌<◌, ◌≤◌, Bool, false, List, [], ◌∷◌, Option, Some, None, slice_get}
use Rattle.sp_base.specs.declared.places.Limits.{Limits}
use Rattle.sp_value.specs.Val.{Val}
use Rattle.sp_methods.specs.Kinds.{Kind, Have}
use Rattle.sp_typed.specs.Exprs.{Expr}
use Rattle.sp_typed.specs.Stmts.{Stmt}
use Rattle.sp_typed_units.specs.declared.declarations.Function.{Function}
use Rattle.sp_typed_units.specs.declared.declarations.Hook.{Hook}
use Rattle.sp_typed_units.specs.declared.declarations.Typed.{Typed}
use Rattle.sp_meaning_states.specs.States.{State, Unfinished, Result, Ends}
use Rattle.sp_meaning_states.specs.Scopes as called_is
use Rattle.sp_meaning_states.specs.Telling.{Names}
use Rattle.sp_code_meaning.specs.Layouts.{Layout}
use Rattle.sp_meaning.specs.Globals.{globals_of}
use Rattle.sp_code_meaning.specs.Exprs.{expr_means}
use Rattle.sp_code_meaning.specs.Stmts.{stmt_means}
use Rattle.sp_meaning.specs.Hooks.{is_foreach}
use Rattle.sp_code_meaning.specs.Calls.{body_means, call_means, hook_means, hooks_mean}
use Rattle.sp_code.specs.Machine.{Plain}
use Rattle.sp_code.specs.Shapes.{Shapes, Round, OfFunction, Enters, Holds}
use Rattle.sp_code_programs.specs.exprs.Code.{kind_of}
use Rattle.sp_law_code.specs.exprs.Parts.{Fits}
use Rattle.sp_law_code.specs.bodies.Fits.{StmtFits}
use Rattle.sp_law_programs.specs.finished_bodies.Built.{ExprIsBuilt, StmtIsBuilt}
use Rattle.sp_law_programs.specs.finished_bodies.Finished.{AnExpression, AStatement, ABody, AHook, IsReturned, EndsAs, HookFits, FunctionsFit}

-- the end of a part claims something
abbrev pub IsFinished : Result → Type 0
IsFinished (Ends Unfinished es st) = ⊥
IsFinished r = Unit {0}

-- Something is true of all that a list of modules means at each fuel: of each call of a function; of each body of a hook, and of any of
-- these one after another, of a unit that fails or doesn't; and of each body, statement and expression that calls the functions of the
-- list.
pub record OfAll (P : (ℕ → State → Result) → Type 0) (names : Names) (hook_names : List (List ℕ)) (list : Typed) (limits : Limits) : Type 0 where
  pub calls : (f : ℕ) (vs : List Val) → P (λ n. call_means names hook_names list limits n f vs)
  pub hooks : (failing : Bool) (h : ℕ) (vs : List Val) → P (λ n. hook_means names hook_names list limits failing n h vs)
  pub rows : (failing : Bool) (hs : List ℕ) (vs : List Val) → P (λ n. hooks_mean names hook_names list limits failing n hs vs)
  pub bodies : (layout : Layout) (ending : Val) (b : Stmt) → P (λ n. body_means names hook_names list limits n (call_means names hook_names list limits n) layout ending b)
  pub statements : (layout : Layout) (b : Stmt) → P (λ n. stmt_means names (globals_of list) limits.turns (call_means names hook_names list limits n) layout n b)
  pub expressions : (layout : Layout) (e : Expr) → P (λ n. expr_means (globals_of list) (call_means names hook_names list limits n) layout e)

-- what is finished at a fuel is the same at each larger one
abbrev pub IsTheSameAtMore : (ℕ → State → Result) → Type 0
IsTheSameAtMore means = (n m : ℕ) (st : State) → n ≤ m → IsFinished (means n st) → means m st ≡ means n st

-- A fuel above the turns that are left is as good as each other such fuel: what is unfinished there isn't so for want of fuel.
abbrev pub IsDecidedByTurns : (limit : ℕ) → (ℕ → State → Result) → Type 0
IsDecidedByTurns limit means = (n m : ℕ) (st : State) → limit - st.now.count < n → limit - st.now.count < m → means m st ≡ means n st

-- More fuel changes nothing that is finished.
abbrev pub MoreFuelIsTheSame : Type 0
MoreFuelIsTheSame = (names : Names) (hook_names : List (List ℕ)) (list : Typed) (limits : Limits) → OfAll IsTheSameAtMore names hook_names list limits

-- The turns that are left, and one more, are fuel enough, whatever the bodies are.
abbrev pub TurnsAreEnough : Type 0
TurnsAreEnough = (names : Names) (hook_names : List (List ℕ)) (list : Typed) (limits : Limits) → OfAll (IsDecidedByTurns limits.turns) names hook_names list limits

-- each of these bodies of hooks is in the list, is handed values of these kinds in a unit, fits, and is none of a foreach hook
abbrev pub AllFitAs : (p : Plain) (shapes : Shapes) (list : Typed) → Option ℕ → List Kind → List ℕ → Type 0
AllFitAs p shapes list u ins [] = Unit {0}
AllFitAs p shapes list u ins (h ∷ hs) =
    ((x : Hook) × (slice_get list.hooks h ≡ Some x) × (is_foreach x.of ≡ false) × HookFits p shapes list x u ins) × AllFitAs p shapes list u ins hs

-- What ends as it may, from a state and at a fuel: each call that fits, with values of its kinds; each body of a hook that fits, and any
-- of these one after another, of a unit that fails or doesn't; and each body, statement and expression that fits and is built of what has
-- a meaning.
pub record AllEnd (p : Plain) (shapes : Shapes) (names : Names) (hook_names : List (List ℕ)) (list : Typed) (limits : Limits) (n : ℕ) (units : List ℕ) (u : Option ℕ) (ls : List Kind) (st : State) : Type 0 where
  pub calls : (f : ℕ) (x : Function) (ins : List Kind) (k : Kind) (vs : List Val) → slice_get list.functions f ≡ Some x → Enters p shapes f None called_is.Called.Function (OfFunction k) ins → Have units ins vs →
      EndsAs p shapes units u ls (AnExpression k) (call_means names hook_names list limits n f vs st)
  pub hooks : (failing : Bool) (h : ℕ) (x : Hook) (ins : List Kind) (vs : List Val) → slice_get list.hooks h ≡ Some x → HookFits p shapes list x u ins → Have units ins vs →
      EndsAs p shapes units u ls (AHook (is_foreach x.of)) (hook_means names hook_names list limits failing n h vs st)
  pub rows : (failing : Bool) (hs : List ℕ) (ins : List Kind) (vs : List Val) → AllFitAs p shapes list u ins hs → Have units ins vs →
      EndsAs p shapes units u ls (AHook false) (hooks_mean names hook_names list limits failing n hs vs st)
  pub bodies : (layout : Layout) (round : Round) (ending : Val) (b : Stmt) → IsReturned units ending round → StmtFits p shapes (globals_of list) layout ls u round false b → StmtIsBuilt (globals_of list) list.functions b →
      EndsAs p shapes units u ls (ABody round) (body_means names hook_names list limits n (call_means names hook_names list limits n) layout ending b st)
  pub statements : (layout : Layout) (round : Round) (in_loop : Bool) (b : Stmt) → StmtFits p shapes (globals_of list) layout ls u round in_loop b → StmtIsBuilt (globals_of list) list.functions b →
      EndsAs p shapes units u ls (AStatement round in_loop) (stmt_means names (globals_of list) limits.turns (call_means names hook_names list limits n) layout n b st)
  pub expressions : (layout : Layout) (e : Expr) → Fits p shapes (globals_of list) layout ls u e → ExprIsBuilt (globals_of list) list.functions e →
      EndsAs p shapes units u ls (AnExpression (kind_of (globals_of list) layout e)) (expr_means (globals_of list) (call_means names hook_names list limits n) layout e st)

-- With a fuel above the turns that are left all that fits ends as it may, and so it is finished, from each state in which values have
-- their kinds.
abbrev pub FuelSuffices : Type 0
FuelSuffices =
    (p : Plain) (shapes : Shapes) (names : Names) (hook_names : List (List ℕ)) (list : Typed) (limits : Limits) → FunctionsFit p shapes list →
    (n : ℕ) (units : List ℕ) (u : Option ℕ) (ls : List Kind) (st : State) → limits.turns - st.now.count < n → Holds p shapes units u ls st →
    AllEnd p shapes names hook_names list limits n units u ls st
