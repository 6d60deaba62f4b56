-- The walk over what a declaration depends on.
use Rattle.std.proofs.Common.{ℕ, ◌≡◌, ◌≤◌, ◌<◌, ◌+◌, zero, suc, refl, sym, ap, subst, ◌∙◌, arith, List, [], ◌∷◌, length, take, Option, Some, None, slice_get, get_or, is_some, true, false}
use Rattle.std.proofs.lemmas.List.{take_all}
use Rattle.sp_solver.specs.declared.attempt.Attempt.{Attempt}
use Rattle.sp_solver.specs.declared.attempt.Attempt.TheVariants.{Done, Waits}
use Rattle.sp_dependencies.specs.Tries.{first_open, open_or, when_open, tries, ready}
use Rattle.sp_dependencies.specs.TryLaws.{none_some, some_is, open_none, none_open, try_within}

pub here : {A : Type 0} (xs : List A) (i : ℕ) (d : A) → i < length xs → slice_get xs i ≡ Some (get_or xs i d)
here [] i d lt = absurd (let z : ⊥ = omega (arith, lt) in z)
here (x ∷ xs) zero d lt = refl
here (x ∷ xs) (suc i) d lt = here xs i d (omega (arith, lt))

open_step : {A : Type 0} (f : ℕ → Option A) (xs : List ℕ) (m j : ℕ) (a : A) → first_open f (take m xs) ≡ None → slice_get xs m ≡ Some j → f j ≡ Some a → first_open f (take (suc m) xs) ≡ None
open_step f [] m j a e g h = absurd (none_some None j refl g)
open_step f (x ∷ xs) zero j a e g h = none_open f x [] a (ap f (some_is x j g) ∙ h) refl
open_step f (x ∷ xs) (suc m) j a e g h = (let o = open_none f x (take m xs) e in none_open f x (take (suc m) xs) o.0.0 o.0.1 (open_step f xs m j a o.1 g h))

open_found : {A : Type 0} (f : ℕ → Option A) (xs : List ℕ) (m j : ℕ) → first_open f (take m xs) ≡ None → slice_get xs m ≡ Some j → f j ≡ None → first_open f xs ≡ Some j
open_found f [] m j e g h = absurd (none_some None j refl g)
open_found f (x ∷ xs) zero j e g h = ap (λ o. open_or o x (first_open f xs)) (ap f (some_is x j g) ∙ h) ∙ g
open_found f (x ∷ xs) (suc m) j e g h = (let o = open_none f x (take m xs) e in ap (λ o. open_or o x (first_open f xs)) o.0.1 ∙ open_found f xs m j o.1 g h)

some_of : {A : Type 0} (o : Option A) → is_some o ≡ true → (a : A) × (o ≡ Some a)
some_of None e = absurd (let z : false ≡ true = e in let b : ⊥ = (cc) in b)
some_of (Some a) e = (a, refl)

none_of : {A : Type 0} (o : Option A) → is_some o ≡ false → o ≡ None
none_of None e = refl
none_of (Some a) e = absurd (let z : true ≡ false = e in let b : ⊥ = (cc) in b)

pub open_step_at : {A : Type 0} (f : ℕ → Option A) (xs : List ℕ) (m : ℕ) → first_open f (take m xs) ≡ None → m < length xs → is_some (f (get_or xs m 0)) ≡ true → first_open f (take (m + 1) xs) ≡ None
open_step_at f xs m e lt h =
    let a = some_of (f (get_or xs m 0)) h in
    let s : suc m ≡ m + 1 = omega arith in
    subst (λ k. first_open f (take k xs) ≡ None) s (open_step f xs m (get_or xs m 0) a.0 e (here xs m 0 lt) a.1)

pub open_found_at : {A : Type 0} (f : ℕ → Option A) (xs : List ℕ) (m : ℕ) → first_open f (take m xs) ≡ None → m < length xs → is_some (f (get_or xs m 0)) ≡ false → Some (get_or xs m 0) ≡ first_open f xs
open_found_at f xs m e lt h = sym (open_found f xs m (get_or xs m 0) e (here xs m 0 lt) (none_of (f (get_or xs m 0)) h))

pub open_all_at : {A : Type 0} (f : ℕ → Option A) (xs : List ℕ) (m : ℕ) → first_open f (take m xs) ≡ None → length xs ≤ m → None ≡ first_open f xs
open_all_at f xs m e le = sym (ap (first_open f) (sym (take_all m xs le)) ∙ e)

pub ready_from : {A : Type 0} (needs : ℕ → List ℕ) (f : ℕ → Option A) (i c : ℕ) (xs : List ℕ) → xs ≡ needs i → ready needs f i c → first_open f (take c xs) ≡ None
ready_from needs f i c xs e r = ap (λ l. first_open f (take c l)) e ∙ r

pub ready_to : {A : Type 0} (needs : ℕ → List ℕ) (f : ℕ → Option A) (i c : ℕ) (xs : List ℕ) → xs ≡ needs i → first_open f (take c xs) ≡ None → ready needs f i c
ready_to needs f i c xs e r = ap (λ l. first_open f (take c l)) (sym e) ∙ r

pub waits_is_tried : {A : Type 0} (n : ℕ) (needs : ℕ → List ℕ) (gives : (ℕ → Option A) → ℕ → A) (f : ℕ → Option A) (i j : ℕ) (xs : List ℕ) → i < n → xs ≡ needs i → Some j ≡ first_open f xs → Waits j ≡ tries n needs gives f i
waits_is_tried n needs gives f i j xs lt e o = ap (when_open (gives f i)) (o ∙ ap (first_open f) e) ∙ sym (try_within n needs gives f i lt)

pub done_is_tried : {A : Type 0} (n : ℕ) (needs : ℕ → List ℕ) (gives : (ℕ → Option A) → ℕ → A) (f : ℕ → Option A) (i : ℕ) (xs : List ℕ) (a : A) → i < n → xs ≡ needs i → None ≡ first_open f xs → a ≡ gives f i → Done a ≡ tries n needs gives f i
done_is_tried n needs gives f i xs a lt e o d = ap Done d ∙ ap (when_open (gives f i)) (o ∙ ap (first_open f) e) ∙ sym (try_within n needs gives f i lt)
