-- The bodies of the hooks that a unit runs fit, where those of its hooks are built of what has a meaning.
use Rattle.std.proofs.Common.{◌≡◌, ℕ, suc, ◌+◌, Bool, true, false, List, [], ◌∷◌, length, Some, refl, sym, subst, arith}
use Rattle.std.specs.Prelude.{slice_get, if◌then◌else◌}
use Rattle.sp_words.specs.declared.words.HookName.{HookName}
use Rattle.sp_methods.specs.Kinds.{Kind}
use Rattle.sp_typed_units.specs.declared.declarations.Hook.{Hook}
use Rattle.sp_typed_units.specs.declared.declarations.HookOf.{HookOf}
use Rattle.sp_typed_units.specs.declared.declarations.HookOf.TheVariants as hook_of
use Rattle.sp_typed_units.specs.declared.declarations.Typed.{Typed}
use Rattle.sp_typed_units.specs.declared.declarations.Unit.{Unit as TypedUnit}
use Rattle.sp_meaning_states.specs.Scopes as called_is
use Rattle.sp_meaning.specs.Hooks.{is_foreach, runs_before, put_in_order, in_order, bodies_of, numbers, hook_bodies, is_of_unit}
use Rattle.sp_code.specs.Machine.{Plain}
use Rattle.sp_code.specs.Shapes.{Shapes, OfHook, Enters}
use Rattle.sp_law_code.specs.units.Fits.{BodiesFit}
use Rattle.sp_law_programs.specs.finished_bodies.Laws.{AllFitAs}
use Rattle.sp_law_programs.specs.finished_units.Built.{HookIsBuilt, HooksAreBuilt, UnitIsBuilt, HooksFit}

-- what is true of each of these bodies with its number
module _ (P : ℕ → Hook → Type 0) where
  abbrev Each : List (ℕ × Hook) → Type 0
  Each [] = Unit {0}
  Each (x ∷ xs) = P x.0 x.1 × Each xs

  -- it stays so in any order
  put_each : (x : ℕ × Hook) (xs : List (ℕ × Hook)) → P x.0 x.1 → Each xs → Each (put_in_order x xs)
  put_each x [] h g = (h, tt)
  put_each x (y ∷ ys) h g = by_order (runs_before x.1 y.1) (put_each x ys h g.1)
    where
      by_order : (b : Bool) → Each (put_in_order x ys) → Each (if b then x ∷ y ∷ ys else y ∷ put_in_order x ys)
      by_order true rest = (h, g)
      by_order false rest = (g.0, rest)

  each_in_order : (xs : List (ℕ × Hook)) → Each xs → Each (in_order xs)
  each_in_order [] h = tt
  each_in_order (x ∷ xs) h = put_each x (in_order xs) h.0 (each_in_order xs h.1)

  -- where it is true of those that are of a hook, from a number on
  each_of : (of : HookOf → Bool) (n : ℕ) (xs : List Hook) → ((k : ℕ) (x : Hook) → slice_get xs k ≡ Some x → of x.of ≡ true → P (n + k) x) → Each (bodies_of of n xs)
  each_of of n [] h = tt
  each_of of n (x ∷ xs) h = by_test (of x.of) refl (each_of of (suc n) xs (λ k y e t. subst (λ i. P i y) (omega arith) (h (suc k) y e t)))
    where
      by_test : (b : Bool) → of x.of ≡ b → Each (bodies_of of (suc n) xs) → Each (if b then (n, x) ∷ bodies_of of (suc n) xs else bodies_of of (suc n) xs)
      by_test true t rest = (subst (λ i. P i x) (omega arith) (h 0 x refl t), rest)
      by_test false t rest = rest

-- a hook that each unit has is none of elements
of_unit : (u : ℕ) (name : HookName) (h : HookOf) → is_of_unit u name h ≡ true → is_foreach h ≡ false
of_unit u name (hook_of.Unit v x) e = refl
of_unit u name _ e = absurd (let q : false ≡ true = e in cc)

module _ (list : Typed) where
  -- a body in the list that is built, and none of a foreach hook
  abbrev IsRun : ℕ → Hook → Type 0
  IsRun h x = (slice_get list.hooks h ≡ Some x) × (is_foreach x.of ≡ false) × HookIsBuilt list x

  numbered : (xs : List (ℕ × Hook)) → Each IsRun xs → HooksAreBuilt list (numbers xs)
  numbered [] h = tt
  numbered (x ∷ xs) h = ((x.1, h.0.0, h.0.1, h.0.2), numbered xs h.1)

  -- so are the bodies of a hook of a unit that is built
  pub unit_hooks_built : (u : ℕ) (x : TypedUnit) (name : HookName) → UnitIsBuilt list u x → HooksAreBuilt list (hook_bodies (is_of_unit u name) list.hooks)
  unit_hooks_built u x name built =
      numbered (in_order (bodies_of (is_of_unit u name) 0 list.hooks))
      (each_in_order IsRun (bodies_of (is_of_unit u name) 0 list.hooks)
      (each_of IsRun (is_of_unit u name) 0 list.hooks (λ k y e t.
      (subst (λ i. slice_get list.hooks i ≡ Some y) (omega arith) e, of_unit u name y.of t, built.hooks name k y e t))))

  module _ (p : Plain) (shapes : Shapes) (fit : HooksFit p shapes list) where
    -- a body that can be run as none of a foreach hook is run so
    as_run : (h u : ℕ) (ins : List Kind) (each : Bool) → each ≡ false → Enters p shapes (length list.functions + h) (Some u) (called_is.Called.Hook false) (OfHook false) ins
        → Enters p shapes (length list.functions + h) (Some u) (called_is.Called.Hook each) (OfHook each) ins
    as_run h u ins each other enters = subst (λ b. Enters p shapes (length list.functions + h) (Some u) (called_is.Called.Hook b) (OfHook b) ins) (sym other) enters

    pub all_fit : (u : ℕ) (ins : List Kind) (hs : List ℕ) → HooksAreBuilt list hs → BodiesFit p shapes list u ins hs → AllFitAs p shapes list (Some u) ins hs
    all_fit u ins [] built fits = tt
    all_fit u ins (h ∷ hs) ((x, is, other, b), bs) fits =
        ((x, is, other, fit h x (Some u) ins is b (as_run h u ins (is_foreach x.of) other fits.0)), all_fit u ins hs bs fits.1)
