-- Calls of functions and bodies of hooks agree at fuels that may be compared; and what follows of one more fuel, and of enough.
use Rattle.std.proofs.Common.{◌≡◌, ℕ, zero, suc, ◌+◌, ◌≤◌, Bool, true, false, List, [], ◌∷◌, refl, sym, arith, inl, inr}
use Rattle.std.specs.Prelude.{◌⊎◌, nat_lt, slice_get, if◌then◌else◌}
use Rattle.sp_base.specs.declared.kinds.PKind.TheVariants as error_is
use Rattle.sp_base.specs.declared.places.Limits.{Limits}
use Rattle.sp_value.specs.Val.{Val, void}
use Rattle.sp_typed.specs.Stmts.{Stmt}
use Rattle.sp_typed_units.specs.declared.declarations.Typed.{Typed}
use Rattle.sp_meaning_states.specs.States.{State, End, Returned, Fine, Unfinished, Result, Ends, ends, fails, one_more, deeper}
use Rattle.sp_meaning_states.specs.Scopes.{Called, called_where, InCall, left, inside}
use Rattle.sp_meaning_states.specs.Scopes as called_is
use Rattle.sp_meaning_states.specs.Types.{zero_value}
use Rattle.sp_meaning_states.specs.Telling.{Names}
use Rattle.sp_code_meaning.specs.Layouts.{Layout}
use Rattle.sp_meaning.specs.Globals.{globals_of}
use Rattle.sp_code_meaning.specs.Calls.{function_layout, hook_layout, hook_event, body_means, with_locals, one_deeper, call_means, hook_means, hooks_mean}
use Rattle.sp_meaning.specs.Hooks.{is_foreach, told_count}
use Rattle.sp_law_programs.specs.finished_bodies.Laws.{IsFinished, OfAll, IsTheSameAtMore, IsDecidedByTurns, MoreFuelIsTheSame, TurnsAreEnough}
use Rattle.sp_law_programs.proofs.finished_bodies_lemmas.Agree.{IsUnfinished, Agree, Same, then_behind, ended, at_once, then_done, known_same}
use Rattle.sp_law_programs.proofs.finished_bodies_lemmas.SameExprs.{expr_same}
use Rattle.sp_law_programs.proofs.finished_bodies_lemmas.SameStmts.{Fuel, later_fuel, next_fuel, no_fuel, some_fuel, turned, stmt_same}

module _ (May : Type 0) where
  left_agrees : (c : ℕ) (b : Called) (self : ℕ) (locals : List Val) (how : End) (st : State) → c ≤ st.now.count → Agree May c (left (InCall b self locals) how st) (left (InCall b self locals) how st)
  left_agrees c called_is.Called.Function self locals Fine st l = (l, inl refl)
  left_agrees c called_is.Called.Function self locals _ st l = (l, inl refl)
  left_agrees c (called_is.Called.Hook true) self locals Fine st l = (l, inl refl)
  left_agrees c (called_is.Called.Hook true) self locals _ st l = (l, inl refl)
  left_agrees c (called_is.Called.Hook false) self locals Fine st l = (l, inl refl)
  left_agrees c (called_is.Called.Hook false) self locals _ st l = (l, inl refl)
  left_agrees c called_is.Called.FailingHook self locals Fine st l = (l, inl refl)
  left_agrees c called_is.Called.FailingHook self locals _ st l = (l, inl refl)

  inside_agrees : (c : ℕ) (b : Called) (self : ℕ) (locals : List Val) (r s : Result) → Agree May c r s → Agree May c (inside (InCall b self locals) r) (inside (InCall b self locals) s)
  inside_agrees c b self locals r s a = ended May c _ _ (left_agrees c b self locals) r s a

  deeper_same : (c k : ℕ) → Same May c (deeper k) (deeper k)
  deeper_same c k st l = by_test (nat_lt st.depth k)
    where
      by_test : (b : Bool) → Agree May st.now.count (if b then ends Fine st else fails error_is.Depth st) (if b then ends Fine st else fails error_is.Depth st)
      by_test true = (omega arith, inl refl)
      by_test false = (omega arith, inl refl)

  module _ (names : Names) (hook_names : List (List ℕ)) (list : Typed) (limits : Limits) where
    abbrev means : ℕ → ℕ → List Val → State → Result
    means n = call_means names hook_names list limits n

    -- the same at fuels that may be compared
    abbrev AtFuels : (ℕ → State → Result) → Type 0
    AtFuels part = (n m c : ℕ) → Fuel May limits.turns n m c → Same May c (part n) (part m)

    body_same : (n m c : ℕ) (layout : Layout) (ending : Val) (b : Stmt) → Fuel May limits.turns n m c → ((f : ℕ) (vs : List Val) → Same May c (means n f vs) (means m f vs))
        → Same May c (body_means names hook_names list limits n (means n) layout ending b) (body_means names hook_names list limits m (means m) layout ending b)
    body_same n m c layout ending b fuel calls =
        then_done May c _ _ _ _ (stmt_same May limits.turns names (globals_of list) layout (means n) (means m) c calls n m fuel b) (at_once May c (Returned ending))

    call_same : (n m c : ℕ) → Fuel May limits.turns n m c → (f : ℕ) (vs : List Val) → Same May c (means n f vs) (means m f vs)
    call_same zero m c fuel f vs = no_fuel May limits.turns m c _ fuel
    call_same (suc n) zero c fuel f vs = some_fuel May limits.turns n c fuel
    call_same (suc n) (suc m) c fuel f vs =
        known_same May c (slice_get list.functions f) _ _ (λ x. turned May limits.turns c _ _ (λ st l below.
        let next = next_fuel May limits.turns n m c (omega (arith, l, below)) fuel in
        then_done May (c + 1) _ _ _ _ (deeper_same (c + 1) limits.depth)
        (λ st o. inside_agrees st.now.count called_is.Called.Function st.self st.locals _ _
        (body_same n m (c + 1) (function_layout x) (zero_value (globals_of list).ranges x.result) x.body next (call_same n m (c + 1) next)
        (one_deeper names hook_names list limits (with_locals names hook_names list limits vs x.slots st)) o))
        (one_more st) (omega (arith, l))))

    hook_same : (failing : Bool) (h : ℕ) (vs : List Val) → AtFuels (λ n. hook_means names hook_names list limits failing n h vs)
    hook_same failing h vs n m c fuel =
        known_same May c (slice_get list.hooks h) _ _ (λ x. turned May limits.turns c _ _ (λ st l below.
        let next = later_fuel May limits.turns n m c (c + 1) (omega arith) fuel in
        then_behind May (st.now.count + 1) (hook_event names hook_names list limits h (told_count x) vs (one_more st) ∷ []) _ _
        (inside_agrees (st.now.count + 1) (called_where failing (called_is.Called.Hook (is_foreach x.of))) st.self st.locals _ _
        (body_same n m (c + 1) (hook_layout x) void x.body next (call_same n m (c + 1) next) (with_locals names hook_names list limits vs x.slots (one_more st)) (omega (arith, l))))))

    hooks_same : (failing : Bool) (hs : List ℕ) (vs : List Val) → AtFuels (λ n. hooks_mean names hook_names list limits failing n hs vs)
    hooks_same failing [] vs n m c fuel = at_once May c Fine
    hooks_same failing (h ∷ hs) vs n m c fuel = then_done May c _ _ _ _ (hook_same failing h vs n m c fuel) (hooks_same failing hs vs n m c fuel)

    -- what all that is the same at such fuels has, all of a list has
    pub of_all : (P : (ℕ → State → Result) → Type 0) → ((part : ℕ → State → Result) → AtFuels part → P part) → OfAll P names hook_names list limits
    of_all P h =
        record {
          calls = λ f vs. h _ (λ n m c fuel. call_same n m c fuel f vs);
          hooks = λ failing k vs. h _ (hook_same failing k vs);
          rows = λ failing hs vs. h _ (hooks_same failing hs vs);
          bodies = λ layout ending b. h _ (λ n m c fuel. body_same n m c layout ending b fuel (call_same n m c fuel));
          statements = λ layout b. h _ (λ n m c fuel. stmt_same May limits.turns names (globals_of list) layout (means n) (means m) c (call_same n m c fuel) n m fuel b);
          expressions = λ layout e. h _ (λ n m c fuel. expr_same May (globals_of list) layout c (means n) (means m) (call_same n m c fuel) e);
        }

not_both : (r : Result) → IsFinished r → IsUnfinished r → ⊥
not_both (Ends Unfinished es st) f u = f
not_both (Ends _ es st) f u = u

finished_same : (r s : Result) → IsFinished r → (r ≡ s) ⊎ (Unit {0} × IsUnfinished r) → s ≡ r
finished_same r s f (inl e) = sym e
finished_same r s f (inr u) = absurd (not_both r f u.1)

decided_same : (r s : Result) → (r ≡ s) ⊎ (⊥ × IsUnfinished r) → s ≡ r
decided_same r s (inl e) = sym e
decided_same r s (inr u) = absurd u.0

pub more_fuel_is_the_same : MoreFuelIsTheSame
more_fuel_is_the_same names hook_names list limits =
    of_all (Unit {0}) names hook_names list limits IsTheSameAtMore
    (λ part same n m st l f. finished_same (part n st) (part m st) f (same n m 0 (inl (tt, l)) st (omega arith)).1)

pub turns_are_enough : TurnsAreEnough
turns_are_enough names hook_names list limits =
    of_all ⊥ names hook_names list limits (IsDecidedByTurns limits.turns)
    (λ part same n m st l k. decided_same (part n st) (part m st) (same n m st.now.count (inr (l, k)) st (omega arith)).1)
