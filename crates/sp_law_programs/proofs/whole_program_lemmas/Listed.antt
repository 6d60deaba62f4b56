-- The bodies of a hook that each unit has are ones of that hook.
use Rattle.std.proofs.Common.{◌≡◌, ℕ, suc, ◌+◌, ◌==◌, Bool, true, false, List, [], ◌∷◌, Some, refl, sym, ap, ◌∙◌, arith, eqb-true}
use Rattle.std.proofs.lemmas.Bool.{and_parts}
use Rattle.std.specs.Prelude.{slice_get, if◌then◌else◌}
use Rattle.sp_words.specs.declared.words.HookName.{HookName}
use Rattle.sp_typed_units.specs.declared.declarations.Hook.{Hook}
use Rattle.sp_typed_units.specs.declared.declarations.HookOf.{HookOf}
use Rattle.sp_typed_units.specs.declared.declarations.HookOf.TheVariants as hook_of
use Rattle.sp_meaning.specs.Hooks.{has_current, is_foreach, runs_before, put_in_order, in_order, bodies_of, numbers, hook_bodies, is_hook, is_of_unit}
use Rattle.sp_code_programs.specs.programs.Routines.{hook_unit}

-- a body with its number among these, which passes a test of what it is of
module _ (hooks : List Hook) (of : HookOf → Bool) where
  abbrev IsOne : ℕ × Hook → Type 0
  IsOne x = (slice_get hooks x.0 ≡ Some x.1) × (of x.1.of ≡ true)

  abbrev AreOnes : List (ℕ × Hook) → Type 0
  AreOnes [] = Unit {0}
  AreOnes (x ∷ xs) = IsOne x × AreOnes xs

  put_ones : (x : ℕ × Hook) (ys : List (ℕ × Hook)) → IsOne x → AreOnes ys → AreOnes (put_in_order x ys)
  put_ones x [] is are = (is, tt)
  put_ones x (y ∷ ys) is are = by_order (runs_before x.1 y.1) (put_ones x ys is are.1)
    where
      by_order : (b : Bool) → AreOnes (put_in_order x ys) → AreOnes (if b then x ∷ y ∷ ys else y ∷ put_in_order x ys)
      by_order true later = (is, are)
      by_order false later = (are.0, later)

  ordered_ones : (xs : List (ℕ × Hook)) → AreOnes xs → AreOnes (in_order xs)
  ordered_ones [] are = tt
  ordered_ones (x ∷ xs) are = put_ones x (in_order xs) are.0 (ordered_ones xs are.1)

  found_ones : (xs : List Hook) (n : ℕ) → ((j : ℕ) (x : Hook) → slice_get xs j ≡ Some x → slice_get hooks (n + j) ≡ Some x) → AreOnes (bodies_of of n xs)
  found_ones [] n each = tt
  found_ones (x ∷ xs) n each =
      let m : n + 0 ≡ n = omega arith in
      let here : slice_get hooks n ≡ Some x = sym (ap (λ m. slice_get hooks m) m) ∙ each 0 x refl in
      let later = found_ones xs (suc n) (λ j y e. let k : suc n + j ≡ n + suc j = omega arith in ap (λ m. slice_get hooks m) k ∙ each (suc j) y e) in
      by_test (of x.of) refl here later
    where
      by_test : (b : Bool) → of x.of ≡ b → slice_get hooks n ≡ Some x → AreOnes (bodies_of of (suc n) xs) → AreOnes (if b then (n, x) ∷ bodies_of of (suc n) xs else bodies_of of (suc n) xs)
      by_test true e here later = ((here, e), later)
      by_test false e here later = later

  -- by their numbers
  abbrev pub AreListed : List ℕ → Type 0
  AreListed [] = Unit {0}
  AreListed (h ∷ hs) = ((x : Hook) × (slice_get hooks h ≡ Some x) × (of x.of ≡ true)) × AreListed hs

  numbers_listed : (xs : List (ℕ × Hook)) → AreOnes xs → AreListed (numbers xs)
  numbers_listed [] are = tt
  numbers_listed (x ∷ xs) are = ((x.1, are.0.0, are.0.1), numbers_listed xs are.1)

  pub bodies_listed : AreListed (hook_bodies of hooks)
  bodies_listed =
      let all = found_ones hooks 0 (λ j x e. let k : 0 + j ≡ j = omega arith in ap (λ m. slice_get hooks m) k ∙ e) in
      numbers_listed (in_order (bodies_of of 0 hooks)) (ordered_ones (bodies_of of 0 hooks) all)

-- one of a hook that the unit u has
pub of_unit : (u : ℕ) (name : HookName) (x : HookOf) → is_of_unit u name x ≡ true → (hook_unit x ≡ Some u) × (is_foreach x ≡ false) × (has_current x ≡ false)
of_unit u name (hook_of.Unit v y) e = (ap (λ n. Some n) (sym (eqb-true u v (and_parts (u == v) (is_hook name y) e).0)), refl, refl)
of_unit u name _ e = absurd (let q : false ≡ true = e in cc)
