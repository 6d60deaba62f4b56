-- Tries ask for nothing on which a declaration doesn't depend.
use Rattle.std.proofs.Common.{ℕ, ◌≡◌, ◌≤◌, ◌<◌, zero, suc, Bool, true, false, ltb, refl, sym, ap, subst, ◌∙◌, arith, List, [], ◌∷◌, take, Option, Some, None}
use Rattle.std.specs.Prelude.{if◌then◌else◌, nat_lt}
use Rattle.std.proofs.lemmas.Bool.Decides.{nat_tests}
use Rattle.sp_solver.specs.declared.attempt.Attempt.{Attempt}
use Rattle.sp_solver.specs.declared.attempt.Attempt.TheVariants.{Done, Waits}
use Rattle.sp_solver.specs.Rounds.{Within, IsFair}
use Rattle.sp_dependencies.specs.Tries.{open_or, first_open, when_open, nowhere, tries, ready, Hangs, AreBelow, IsInRange}

pub none_some : {A : Type 0} (o : Option A) (a : A) → o ≡ None → o ≡ Some a → ⊥
none_some o a n s = (let x : None ≡ Some a = sym n ∙ s in cc)

done_waits : {A : Type 0} (a : A) (j : ℕ) → Done a ≡ Waits j → ⊥
done_waits a j e = cc

waits_is : {A : Type 0} (i j : ℕ) → (let x : Attempt A = Waits i in let y : Attempt A = Waits j in x ≡ y) → i ≡ j
waits_is i j e = cc

done_is : {A : Type 0} (a b : A) → Done a ≡ Done b → a ≡ b
done_is a b e = cc

pub some_is : {A : Type 0} (a b : A) → Some a ≡ Some b → a ≡ b
some_is a b e = cc

pub by_option : {A : Type 0} (P : Type 0) (o : Option A) → (o ≡ None → P) → ((a : A) → o ≡ Some a → P) → P
by_option P None n s = n refl
by_option P (Some a) n s = s a refl

-- all have answers
pub open_none : {A : Type 0} (f : ℕ → Option A) (j : ℕ) (js : List ℕ) → first_open f (j ∷ js) ≡ None → ((a : A) × (f j ≡ Some a)) × (first_open f js ≡ None)
open_none {A = A} f j js e = by_option (((a : A) × (f j ≡ Some a)) × (first_open f js ≡ None)) (f j)
    (λ n. absurd (none_some (first_open f (j ∷ js)) j e (ap (λ o. open_or o j (first_open f js)) n)))
    (λ a s. ((a, s), sym (ap (λ o. open_or o j (first_open f js)) s) ∙ e))

pub none_open : {A : Type 0} (f : ℕ → Option A) (j : ℕ) (js : List ℕ) (a : A) → f j ≡ Some a → first_open f js ≡ None → first_open f (j ∷ js) ≡ None
none_open f j js a s e = ap (λ o. open_or o j (first_open f js)) s ∙ e

pub open_kept : {A : Type 0} (f g : ℕ → Option A) (js : List ℕ) → Within f g → first_open f js ≡ None → first_open g js ≡ None
open_kept f g [] w e = refl
open_kept f g (j ∷ js) w e = (let o = open_none f j js e in none_open g j js o.0.0 (w j o.0.0 o.0.1) (open_kept f g js w o.1))

-- the first that has no answer stays the first while it has none
open_stays : {A : Type 0} (f g : ℕ → Option A) (js : List ℕ) (j : ℕ) → Within f g → first_open f js ≡ Some j → g j ≡ None → first_open g js ≡ Some j
open_stays f g [] j w e n = absurd (none_some None j refl e)
open_stays f g (x ∷ js) j w e n = by_option (first_open g (x ∷ js) ≡ Some j) (f x)
    (λ u. (
    let is : x ≡ j = some_is x j (sym (ap (λ o. open_or o x (first_open f js)) u) ∙ e) in
    ap (λ o. open_or o x (first_open g js)) (ap g is ∙ n) ∙ ap Some is))
    (λ a s. ap (λ o. open_or o x (first_open g js)) (w x a s) ∙ open_stays f g js j w (sym (ap (λ o. open_or o x (first_open f js)) s) ∙ e) n)

pub open_is : {A : Type 0} (f : ℕ → Option A) (js : List ℕ) (j : ℕ) → first_open f js ≡ Some j → f j ≡ None
open_is f [] j e = absurd (none_some None j refl e)
open_is f (x ∷ js) j e = by_option (f j ≡ None) (f x)
    (λ u. (let is : x ≡ j = some_is x j (sym (ap (λ o. open_or o x (first_open f js)) u) ∙ e) in ap f (sym is) ∙ u))
    (λ a s. open_is f js j (sym (ap (λ o. open_or o x (first_open f js)) s) ∙ e))

-- tries
pub when_done : {A : Type 0} (b a : A) (o : Option ℕ) → when_open b o ≡ Done a → (o ≡ None) × (b ≡ a)
when_done b a None e = (refl, done_is b a e)
when_done b a (Some j) e = absurd (done_waits a j (sym e))

pub when_waits : {A : Type 0} (b : A) (o : Option ℕ) (j : ℕ) → when_open b o ≡ Waits j → o ≡ Some j
when_waits b None j e = absurd (done_waits b j e)
when_waits b (Some k) j e = ap Some (waits_is k j e)

nowhere_done : {A : Type 0} (o : Option A) (i : ℕ) (a : A) → nowhere o i ≡ Done a → o ≡ Some a
nowhere_done None i a e = absurd (done_waits a i (sym e))
nowhere_done (Some b) i a e = ap Some (done_is b a e)

nowhere_waits : {A : Type 0} (o : Option A) (i j : ℕ) → nowhere o i ≡ Waits j → (o ≡ None) × (i ≡ j)
nowhere_waits None i j e = (refl, waits_is i j e)
nowhere_waits (Some b) i j e = absurd (done_waits b j e)

module _ {A : Type 0} (n : ℕ) (needs : ℕ → List ℕ) (gives : (ℕ → Option A) → ℕ → A) where
  abbrev pub one_try : Bool → (ℕ → Option A) → ℕ → Attempt A
  one_try b f i = if b then when_open (gives f i) (first_open f (needs i)) else nowhere (f i) i

  keeps : Hangs needs gives → (b : Bool) (f g : ℕ → Option A) (i : ℕ) (a : A) → Within f g → one_try b f i ≡ Done a → one_try b g i ≡ Done a
  keeps h true f g i a w e =
      let o = when_done (gives f i) a (first_open f (needs i)) e in
      ap (when_open (gives g i)) (open_kept f g (needs i) w o.0) ∙ ap Done (sym (h f g i w o.0) ∙ o.1)
  keeps h false f g i a w e = ap (λ o. nowhere o i) (w i a (nowhere_done (f i) i a e))

  waits : (b : Bool) (f g : ℕ → Option A) (i j : ℕ) → Within f g → one_try b f i ≡ Waits j → g j ≡ None → one_try b g i ≡ Waits j
  waits true f g i j w e u = ap (when_open (gives g i)) (open_stays f g (needs i) j w (when_waits (gives f i) (first_open f (needs i)) j e) u)
  waits false f g i j w e u = (let s = nowhere_waits (f i) i j e in ap (λ o. nowhere o i) (ap g s.1 ∙ u) ∙ ap Waits s.1)

  unknown : (b : Bool) (f : ℕ → Option A) (i j : ℕ) → one_try b f i ≡ Waits j → f j ≡ None
  unknown true f i j e = open_is f (needs i) j (when_waits (gives f i) (first_open f (needs i)) j e)
  unknown false f i j e = (let s = nowhere_waits (f i) i j e in ap f (sym s.1) ∙ s.0)

  pub is_fair : Hangs needs gives → IsFair (tries n needs gives)
  is_fair h = record {
    keeps = λ f g i a w e. keeps h (nat_lt i n) f g i a w e;
    waits = λ f g i j w e u. waits (nat_lt i n) f g i j w e u;
    unknown = λ f i j e. unknown (nat_lt i n) f i j e;
  }

  pub is_outside : (f : ℕ → Option A) (i : ℕ) → n ≤ i → f i ≡ None → (j : ℕ) × (tries n needs gives f i ≡ Waits j)
  is_outside f i le u =
      let b : nat_lt i n ≡ false = grind (arith, nat_tests) in
      (i, ap (λ t. one_try t f i) b ∙ ap (λ o. nowhere o i) u)

  pub try_within : (f : ℕ → Option A) (i : ℕ) → i < n → tries n needs gives f i ≡ when_open (gives f i) (first_open f (needs i))
  try_within f i lt = (let b : nat_lt i n ≡ true = grind (arith, nat_tests) in ap (λ t. one_try t f i) b)

  below : (f : ℕ → Option A) (js : List ℕ) (j : ℕ) → AreBelow n js → first_open f js ≡ Some j → j < n
  below f [] j h e = absurd (none_some None j refl e)
  below f (x ∷ js) j h e = by_option (j < n) (f x)
      (λ u. subst (λ v. v < n) (some_is x j (sym (ap (λ o. open_or o x (first_open f js)) u) ∙ e)) h.0)
      (λ a s. below f js j h.1 (sym (ap (λ o. open_or o x (first_open f js)) s) ∙ e))

  pub is_inside : IsInRange n needs → (f : ℕ → Option A) (i j : ℕ) → i < n → tries n needs gives f i ≡ Waits j → j < n
  is_inside r f i j lt e = below f (needs i) j (r i lt) (when_waits (gives f i) (first_open f (needs i)) j (sym (try_within f i lt) ∙ e))

  pub is_first : (f : ℕ → Option A) (i : ℕ) → ready needs f i 0
  is_first f i = refl

  pub is_later : (f g : ℕ → Option A) (i c : ℕ) → Within f g → ready needs f i c → ready needs g i c
  is_later f g i c w r = open_kept f g (take c (needs i)) w r
