-- The rounds of questions come to an end: what is found by then are settled answers.
use Rattle.std.proofs.Common.{ℕ, ◌≡◌, ◌<◌, ◌≤◌, ◌+◌, zero, suc, true, false, refl, sym, ap, ◌∙◌, arith, List, [], ◌∷◌, length, Option, Some, None, slice_get, ◌⊎◌, inl, inr}
use Rattle.std.specs.Prelude.{nat_lt}
use Rattle.std.proofs.lemmas.Bool.Decides.{nat_tests}
use Rattle.sp_ast.specs.Trees.{Tree}
use Rattle.sp_solver.specs.declared.attempt.Attempt.{Attempt}
use Rattle.sp_solver.specs.declared.attempt.Attempt.TheVariants.{Done, Waits}
use Rattle.sp_solver.specs.Rounds.{got, round, Within, IsFair, IsSettled}
use Rattle.sp_solver.specs.Told.{told}
use Rattle.sp_solver.proofs.Rounds.{round_more, none_some}
use Rattle.sp_names.specs.Declarations.{rows}
use Rattle.sp_names.specs.Aliases.{tries as alias_tries}
use Rattle.sp_names.specs.AliasLaws.{is_fair as aliases_are_fair, is_outside as aliases_outside}
use Rattle.sp_dependencies.specs.Tries.{tries as value_tries}
use Rattle.sp_dependencies.specs.TryLaws.{is_fair as values_are_fair, is_outside as values_outside}
use Rattle.sp_type_values.specs.Valued.{valued, needs}
use Rattle.sp_type_values.specs.Answers.{gives}
use Rattle.sp_type_values.specs.Laws.{hangs}
use Rattle.sp_type_context.specs.Contexts.{Around}
use Rattle.sp_type_fields.specs.Values.{Values}
use Rattle.sp_type_modules.specs.Sources.{questions}
use Rattle.sp_type_members.specs.Tries.{tries as stored_tries, try_asked, nowhere}
use Rattle.sp_type_answers.specs.Settled.{first_contexts, worth, Answers}

by_option : {A : Type 0} (P : Type 0) (o : Option A) → (o ≡ None → P) → ((a : A) → o ≡ Some a → P) → P
by_option P None n s = n refl
by_option P (Some a) n s = s a refl

got_done : {A : Type 0} (t : Attempt A) (a : A) → got t ≡ Some a → t ≡ Done a
got_done (Done b) a e = cc
got_done (Waits j) a e = cc

got_none : {A : Type 0} (t : Attempt A) → got t ≡ None → (j : ℕ) × (t ≡ Waits j)
got_none (Done a) e = absurd (none_some None a refl (sym e))
got_none (Waits j) e = (j, refl)

before_or : (i n : ℕ) → (i < n) ⊎ (n ≤ i)
before_or i n = elim (nat_lt i n) as (λ b. nat_lt i n ≡ b → (i < n) ⊎ (n ≤ i)) [
  | true ↦ λ e. (let h : i < n = grind (arith, nat_tests) in inl h)
  | false ↦ λ e. (let h : n ≤ i = grind (arith, nat_tests) in inr h)
] refl

last_or : (i n : ℕ) → i < suc n → (i < n) ⊎ (i ≡ n)
last_or i n lt = elim (before_or i n) [ inl l ↦ inl l | inr g ↦ inr (let e : i ≡ n = omega (arith, lt, g) in e) ]

-- how many of the first n questions have no answer
abbrev open_one : {A : Type 0} → Option A → ℕ
open_one None = 1
open_one (Some a) = 0

abbrev open_in : {A : Type 0} → (ℕ → Option A) → ℕ → ℕ
open_in f zero = 0
open_in f (suc n) = open_in f n + open_one (f n)

-- of the first n nothing more is found
abbrev Still : {A : Type 0} → (ℕ → Option A) → (ℕ → Option A) → ℕ → Type 0
Still f g n = (i : ℕ) → i < n → f i ≡ None → g i ≡ None

abbrev Fewer : {A : Type 0} → (ℕ → Option A) → (ℕ → Option A) → ℕ → Type 0
Fewer f g n = (open_in g n ≤ open_in f n) × (Still f g n ⊎ (open_in g n < open_in f n))

-- where more is known, nothing more is found or fewer are open
fewer : {A : Type 0} (f g : ℕ → Option A) → Within f g → (n : ℕ) → Fewer f g n
fewer f g w zero = (omega arith, inl (λ i lt e. absurd (let x : ⊥ = omega (arith, lt) in x)))
fewer {A = A} f g w (suc n) =
    let before = fewer f g w n in
    by_option (Fewer f g (suc n)) (f n)
    (λ fn. by_option (Fewer f g (suc n)) (g n)
    (λ gn.
    let a = ap (open_one {A = A}) fn in
    let b = ap (open_one {A = A}) gn in
    let le : open_in g (suc n) ≤ open_in f (suc n) = omega (arith, before.0, a, b) in (
      le,
      elim (before.1) [
        | inl still ↦ inl (λ i lt e. elim (last_or i n lt) [ inl l ↦ still i l e | inr s ↦ ap g s ∙ gn ])
        | inr less ↦ inr (let x : open_in g (suc n) < open_in f (suc n) = omega (arith, less, a, b) in x)
      ],
    ))
    (λ y gn.
    let a = ap (open_one {A = A}) fn in
    let b = ap (open_one {A = A}) gn in
    (omega (arith, before.0, a, b), inr (let x : open_in g (suc n) < open_in f (suc n) = omega (arith, before.0, a, b) in x))))
    (λ x fn.
    let a = ap (open_one {A = A}) fn in
    let b = ap (open_one {A = A}) (w n x fn) in
    let le : open_in g (suc n) ≤ open_in f (suc n) = omega (arith, before.0, a, b) in (
      le,
      elim (before.1) [
        | inl still ↦ inl (λ i lt e. elim (last_or i n lt) [ inl l ↦ still i l e | inr s ↦ absurd (none_some (f n) x (ap f (sym s) ∙ e) fn) ])
        | inr less ↦ inr (let y : open_in g (suc n) < open_in f (suc n) = omega (arith, less, a, b) in y)
      ],
    ))

-- a round in which nothing more is found
closes : {A : Type 0} (try : (ℕ → Option A) → ℕ → Attempt A) → IsFair try → (n most k : ℕ) → open_in (round try k) n ≤ most → (m : ℕ) × Still (round try m) (round try (suc m)) n
closes try fair n zero k le = elim ((fewer (round try k) (round try (suc k)) (round_more try fair k) n).1) [
  | inl still ↦ (k, still)
  | inr less ↦ absurd (let x : ⊥ = omega (arith, less, le) in x)
]
closes try fair n (suc most) k le = elim ((fewer (round try k) (round try (suc k)) (round_more try fair k) n).1) [
  | inl still ↦ (k, still)
  | inr less ↦ closes try fair n most (suc k) (omega (arith, less, le))
]

-- what is known of the first n, in a list
abbrev first_of : {A : Type 0} → (ℕ → Option A) → ℕ → List (Option A)
first_of f zero = []
first_of f (suc n) = f 0 ∷ first_of (λ i. f (suc i)) n

length_first : {A : Type 0} (f : ℕ → Option A) (n : ℕ) → length (first_of f n) ≡ n
length_first f zero = refl
length_first f (suc n) = ap suc (length_first (λ i. f (suc i)) n)

told_first : {A : Type 0} (f : ℕ → Option A) (n i : ℕ) → i < n → told (first_of f n) i ≡ f i
told_first f zero i lt = absurd (let x : ⊥ = omega (arith, lt) in x)
told_first f (suc n) zero lt = refl
told_first f (suc n) (suc i) lt = told_first (λ i. f (suc i)) n i (omega (arith, lt))

told_past : {A : Type 0} (f : ℕ → Option A) (n i : ℕ) → n ≤ i → told (first_of f n) i ≡ None
told_past f zero i le = refl
told_past f (suc n) zero le = absurd (let x : ⊥ = omega (arith, le) in x)
told_past f (suc n) (suc i) le = told_past (λ i. f (suc i)) n i (omega (arith, le))

-- there are n questions
abbrev pub Outside : {A : Type 0} → ((ℕ → Option A) → ℕ → Attempt A) → ℕ → Type 0
Outside {A} try n = (f : ℕ → Option A) (i : ℕ) → n ≤ i → f i ≡ None → (j : ℕ) × (try f i ≡ Waits j)

round_past : {A : Type 0} (try : (ℕ → Option A) → ℕ → Attempt A) (n : ℕ) → Outside try n → (k i : ℕ) → n ≤ i → round try k i ≡ None
round_past try n out zero i le = refl
round_past try n out (suc k) i le = ap got (out (round try k) i le (round_past try n out k i le)).1

pub settles : {A : Type 0} (try : (ℕ → Option A) → ℕ → Attempt A) → IsFair try → (n : ℕ) → Outside try n → (xs : List (Option A)) × (length xs ≡ n) × IsSettled try (told xs)
settles {A} try fair n out =
    let closed = closes try fair n (open_in (round try 0) n) 0 (omega arith) in
    let f = round try closed.0 in
    let xs = first_of f n in
    let same : (i : ℕ) → told xs i ≡ f i = λ i. elim (before_or i n) [ inl lt ↦ told_first f n i lt | inr le ↦ told_past f n i le ∙ sym (round_past try n out closed.0 i le) ] in
    let back : Within f (told xs) = λ i a e. same i ∙ e in
    let waits : (i : ℕ) → f i ≡ None → (j : ℕ) × (try f i ≡ Waits j) = λ i e. elim (before_or i n) [ inl lt ↦ got_none (try f i) (closed.1 i lt e) | inr le ↦ out f i le e ] in (
      xs,
      length_first f n,
      record {
        solved = λ i a e. fair.keeps f (told xs) i a back (got_done (try f i) a (round_more try fair closed.0 i a (sym (same i) ∙ e)));
        stuck = λ i e. (let w = waits i (sym (same i) ∙ e) in (w.0, fair.waits f (told xs) i w.0 back w.1 (same w.0 ∙ fair.unknown f i w.0 w.1)));
        found = λ i a e. (closed.0, sym (same i) ∙ e);
      },
    )

-- no question behind the last one is answered
slice_past : {A : Type 0} (xs : List A) (i : ℕ) → length xs ≤ i → slice_get xs i ≡ None
slice_past [] i le = refl
slice_past (x ∷ xs) zero le = absurd (let z : ⊥ = omega (arith, le) in z)
slice_past (x ∷ xs) (suc i) le = slice_past xs i (omega (arith, le))

stored_outside : (list : List Tree) (contexts : List Around) (v : Values) → Outside (stored_tries list contexts v) (length (questions list))
stored_outside list contexts v f i le e =
    (i, ap (try_asked list contexts v (length (questions list)) f i) (slice_past (questions list) i le) ∙ ap (λ o. nowhere o i) e)

pub answered : ((list : List Tree) (contexts : List Around) (v : Values) → IsFair (stored_tries list contexts v)) → (list : List Tree) → Answers list
answered fair list =
    let types = settles (alias_tries list) (aliases_are_fair list) (length (rows list)) (aliases_outside list) in
    let f = told types.0 in
    let count = length (valued list f) in
    let values = settles (value_tries count (needs list f) (gives list f)) (values_are_fair count (needs list f) (gives list f) (hangs list f)) count (values_outside count (needs list f) (gives list f)) in
    let contexts = first_contexts list types.0 values.0 in
    let v = worth list types.0 values.0 in
    let stored = settles (stored_tries list contexts v) (fair list contexts v) (length (questions list)) (stored_outside list contexts v) in
    record {
      types = types.0;
      values = values.0;
      stored = stored.0;
      resolved = (types.1, types.2);
      valued = record { settled = values.2; all = values.1 };
      kept = record { settled = stored.2; all = stored.1 };
    }
