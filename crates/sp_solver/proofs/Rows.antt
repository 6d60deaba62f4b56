-- The steps of a search.
use Rattle.std.proofs.Common.{ℕ, ◌≡◌, ◌<◌, ◌≤◌, ◌≢◌, zero, suc, Bool, true, false, eqb, Option, Some, None, List, [], ◌∷◌, ◌++◌, length, ◌⊎◌, inl, inr, refl, sym, ap, subst, ◌∙◌, arith, ltb}
use Rattle.std.proofs.Math.ListN.{set}
use Rattle.std.proofs.lemmas.List.{get_or-set_same, get_or-set_other}
use Rattle.std.proofs.lemmas.Bool.Decides.{nat_tests}
use Rattle.sp_solver.specs.declared.attempt.Attempt.{Attempt}
use Rattle.sp_solver.specs.declared.attempt.Attempt.TheVariants.{Done, Waits}
use Rattle.sp_solver.specs.Rounds.{got, round, Within, IsFair}
use Rattle.sp_solver.specs.Told.{told}
use Rattle.sp_solver.specs.Rows.{marked, Among, Line, Distinct, Going}
use Rattle.sp_solver.proofs.Rounds.{round_more, IsClosed, none_some, some_is}

pub same_or : (i j : ℕ) → (i ≡ j) ⊎ (i ≢ j)
same_or i j = elim (eqb i j) as (λ b. eqb i j ≡ b → (i ≡ j) ⊎ (i ≢ j)) [
  | true ↦ λ e. (let h : i ≡ j = grind (arith, nat_tests) in inl h)
  | false ↦ λ e. (let h : i ≢ j = grind (arith, nat_tests) in inr h)
] refl

-- one more answer
pub record IsMore {A : Type 0} (f g : ℕ → Option A) (i : ℕ) (a : A) : Type 0 where
  pub here : g i ≡ Some a
  pub elsewhere : (j : ℕ) → j ≢ i → g j ≡ f j

pub told_more : {A : Type 0} (xs : List (Option A)) (i : ℕ) (a : A) → i < length xs → IsMore (told xs) (told (set xs i (Some a))) i a
told_more xs i a lt = record {
  here = get_or-set_same xs i (Some a) None lt;
  elsewhere = λ j ne. get_or-set_other xs i j (Some a) None ne;
}

-- one more begun
pub record IsBegun (p q : ℕ → Bool) (i : ℕ) : Type 0 where
  pub here : q i ≡ true
  pub elsewhere : (j : ℕ) → j ≢ i → q j ≡ p j

pub marked_more : (ts : List Bool) (i : ℕ) → i < length ts → IsBegun (marked ts) (marked (set ts i true)) i
marked_more ts i lt = record {
  here = get_or-set_same ts i true false lt;
  elsewhere = λ j ne. get_or-set_other ts i j true false ne;
}

pub more_within : {A : Type 0} (f g : ℕ → Option A) (i : ℕ) (a : A) → f i ≡ None → IsMore f g i a → Within f g
more_within f g i a none more j b e = elim (same_or j i) [
  | inl s ↦ (let x : ⊥ = none_some (f i) b none (ap f (sym s) ∙ e) in absurd x)
  | inr ne ↦ more.elsewhere j ne ∙ e
]

-- rows
among_left : (xs ys : List ℕ) (x : ℕ) → Among xs x → Among (xs ++ ys) x
among_left [] ys x h = absurd h
among_left (z ∷ xs) ys x h = elim h [ inl e ↦ inl e | inr r ↦ inr (among_left xs ys x r) ]

among_cases : (xs : List ℕ) (y x : ℕ) → Among (xs ++ y ∷ []) x → Among xs x ⊎ (y ≡ x)
among_cases [] y x h = elim h [ inl e ↦ inr e | inr r ↦ absurd r ]
among_cases (z ∷ xs) y x h = elim h [ inl e ↦ inl (inl e) | inr r ↦ elim (among_cases xs y x r) [ inl a ↦ inl (inr a) | inr b ↦ inr b ] ]

pub among_last : (xs : List ℕ) (y : ℕ) → Among (xs ++ y ∷ []) y
among_last [] y = inl refl
among_last (z ∷ xs) y = inr (among_last xs y)

distinct_front : (xs : List ℕ) (y : ℕ) → Distinct (xs ++ y ∷ []) → Distinct xs × (Among xs y → ⊥)
distinct_front [] y d = (tt, λ h. h)
distinct_front (x ∷ xs) y d =
    let rest = distinct_front xs y d.1 in
    ((λ h. d.0 (among_left xs (y ∷ []) x h), rest.0), λ h. elim h [ inl e ↦ d.0 (subst (λ z. Among (xs ++ y ∷ []) z) (sym e) (among_last xs y)) | inr r ↦ rest.1 r ])

distinct_more : (xs : List ℕ) (y : ℕ) → Distinct xs → (Among xs y → ⊥) → Distinct (xs ++ y ∷ [])
distinct_more [] y d n = (λ h. h, tt)
distinct_more (x ∷ xs) y d n =
    (λ h. elim (among_cases xs y x h) [ inl a ↦ d.0 a | inr e ↦ n (inl (sym e)) ], distinct_more xs y d.1 (λ h. n (inr h)))

line_front : {A : Type 0} (try : (ℕ → Option A) → ℕ → Attempt A) (f : ℕ → Option A) (xs : List ℕ) (y : ℕ) → Line try f (xs ++ y ∷ []) → Line try f xs
line_front try f [] y l = tt
line_front try f (x ∷ []) y l = tt
line_front try f (x ∷ (z ∷ xs)) y l = (l.0, line_front try f (z ∷ xs) y l.1)

line_more : {A : Type 0} (try : (ℕ → Option A) → ℕ → Attempt A) (f : ℕ → Option A) (xs : List ℕ) (x y : ℕ) → Line try f (xs ++ x ∷ []) → try f x ≡ Waits y → Line try f ((xs ++ x ∷ []) ++ y ∷ [])
line_more try f [] x y l w = (w, tt)
line_more try f (z ∷ []) x y l w = (l.0, (w, tt))
line_more try f (z ∷ (u ∷ xs)) x y l w = (l.0, line_more try f (u ∷ xs) x y l.1 w)

-- the row stays in line where none of it got an answer
line_kept : {A : Type 0} (try : (ℕ → Option A) → ℕ → Attempt A) → IsFair try → (f g : ℕ → Option A) → Within f g → (xs : List ℕ) → ((x : ℕ) → Among xs x → g x ≡ None) → Line try f xs → Line try g xs
line_kept try fair f g in_g [] none l = tt
line_kept try fair f g in_g (x ∷ []) none l = tt
line_kept try fair f g in_g (x ∷ (y ∷ ys)) none l = (fair.waits f g x y in_g l.0 (none y (inr (inl refl))), line_kept try fair f g in_g (y ∷ ys) (λ z h. none z (inr h)) l.1)

-- all in a row but the last wait for one of it
line_waits : {A : Type 0} (try : (ℕ → Option A) → ℕ → Attempt A) (f : ℕ → Option A) (xs : List ℕ) (y x : ℕ) → Line try f (xs ++ y ∷ []) → Among xs x → (j : ℕ) × (try f x ≡ Waits j) × Among (xs ++ y ∷ []) j
line_waits try f [] y x l h = absurd h
line_waits try f (z ∷ []) y x l h = elim h [ inl e ↦ (y, subst (λ v. try f v ≡ Waits y) e l.0, inr (inl refl)) | inr r ↦ absurd r ]
line_waits try f (z ∷ (u ∷ xs)) y x l h = elim h [
  | inl e ↦ (u, subst (λ v. try f v ≡ Waits u) e l.0, inr (inl refl))
  | inr r ↦ (let w = line_waits try f (u ∷ xs) y x l.1 r in (w.0, w.1, inr w.2))
]

-- a question is begun
pub begins : {A : Type 0} (try : (ℕ → Option A) → ℕ → Attempt A) → (n : ℕ) (f : ℕ → Option A) (p q : ℕ → Bool) (i : ℕ) → Going try n f p [] → IsBegun p q i → p i ≡ false → f i ≡ None → i < n → Going try n f q (i ∷ [])
begins try n f p q i g begun fresh none lt = record {
  solved = g.solved;
  sound = g.sound;
  fresh = λ x e. g.fresh x (unbegun x e);
  line = tt;
  distinct = (λ h. h, tt);
  within = λ x h. elim h [ inl e ↦ (ap q (sym e) ∙ begun.here, ap f (sym e) ∙ none, subst (λ v. v < n) e lt) | inr r ↦ absurd r ];
  rest = λ x b u. elim (same_or x i) [
    | inl s ↦ inl (inl (sym s))
    | inr ne ↦ elim (g.rest x (sym (begun.elsewhere x ne) ∙ b) u) [
      | inl a ↦ absurd a
      | inr d ↦ inr (d.0, d.1, still d.0 d.2, other d.0 d.2)
    ]
  ];
}
  where
    unbegun : (x : ℕ) → q x ≡ false → p x ≡ false
    unbegun x e = elim (same_or x i) [ inl s ↦ (let z : false ≡ true = sym e ∙ ap q s ∙ begun.here in let b : ⊥ = (cc) in absurd b) | inr ne ↦ sym (begun.elsewhere x ne) ∙ e ]

    still : (j : ℕ) → p j ≡ true → q j ≡ true
    still j e = elim (same_or j i) [ inl s ↦ ap q s ∙ begun.here | inr ne ↦ begun.elsewhere j ne ∙ e ]

    other : (j : ℕ) → p j ≡ true → Among (i ∷ []) j → ⊥
    other j e h = elim h [ inl s ↦ (let x : false ≡ true = sym fresh ∙ ap p s ∙ e in cc) | inr r ↦ r ]

not_both : (b : Bool) → b ≡ false → b ≡ true → ⊥
not_both b e h = (let x : false ≡ true = sym e ∙ h in cc)

pub begun_still : (p q : ℕ → Bool) (i : ℕ) → IsBegun p q i → (j : ℕ) → p j ≡ true → q j ≡ true
begun_still p q i b j e = elim (same_or j i) [ inl s ↦ ap q s ∙ b.here | inr ne ↦ b.elsewhere j ne ∙ e ]

-- what is at hand waits for one that was not begun
pub goes_on : {A : Type 0} (try : (ℕ → Option A) → ℕ → Attempt A) → IsFair try → (n : ℕ) (f : ℕ → Option A) (p q : ℕ → Bool) (xs : List ℕ) (i j : ℕ) → Going try n f p (xs ++ i ∷ []) → try f i ≡ Waits j → IsBegun p q j → p j ≡ false → j < n → Going try n f q ((xs ++ i ∷ []) ++ j ∷ [])
goes_on try fair n f p q xs i j g w begun fresh lt = record {
  solved = g.solved;
  sound = g.sound;
  fresh = λ x e. elim (same_or x j) [ inl s ↦ absurd (not_both (q x) e (ap q s ∙ begun.here)) | inr ne ↦ g.fresh x (sym (begun.elsewhere x ne) ∙ e) ];
  line = line_more try f xs i j g.line w;
  distinct = distinct_more (xs ++ i ∷ []) j g.distinct (λ h. not_both (p j) fresh (g.within j h).0);
  within = λ x h. elim (among_cases (xs ++ i ∷ []) j x h) [
    | inl a ↦ (let k = g.within x a in (begun_still p q j begun x k.0, k.1, k.2))
    | inr e ↦ (ap q (sym e) ∙ begun.here, ap f (sym e) ∙ fair.unknown f i j w, subst (λ v. v < n) e lt)
  ];
  rest = λ x b u. elim (same_or x j) [
    | inl s ↦ inl (subst (Among ((xs ++ i ∷ []) ++ j ∷ [])) (sym s) (among_last (xs ++ i ∷ []) j))
    | inr ne ↦ elim (g.rest x (sym (begun.elsewhere x ne) ∙ b) u) [
      | inl a ↦ inl (among_left (xs ++ i ∷ []) (j ∷ []) x a)
      | inr d ↦ inr (
        d.0,
        d.1,
        begun_still p q j begun d.0 d.2,
        λ h. elim (among_cases (xs ++ i ∷ []) j d.0 h) [
          | inl a ↦ d.3 a
          | inr e ↦ not_both (p j) fresh (ap p e ∙ d.2)
        ],
      )
    ]
  ];
}

-- what is at hand is answered
pub is_answered : {A : Type 0} (try : (ℕ → Option A) → ℕ → Attempt A) → IsFair try → (n : ℕ) (f h : ℕ → Option A) (p : ℕ → Bool) (xs : List ℕ) (i : ℕ) (a : A) → Going try n f p (xs ++ i ∷ []) → try f i ≡ Done a → IsMore f h i a → Going try n h p xs
is_answered {A} try fair n f h p xs i a g d more = record {
  solved = λ x b e. elim (same_or x i) [
    | inl s ↦ ap (try h) s ∙ fair.keeps f h i a in_h d ∙ ap Done (mine x b s e)
    | inr ne ↦ fair.keeps f h x b in_h (g.solved x b (sym (more.elsewhere x ne) ∙ e))
  ];
  sound = (
    suc g.sound.0,
    λ x b e. elim (same_or x i) [
      | inl s ↦ ap (λ v. got (try (round try g.sound.0) v)) s ∙ ap got (fair.keeps f (round try g.sound.0) i a g.sound.1 d) ∙ ap Some (mine x b s e)
      | inr ne ↦ round_more try fair g.sound.0 x b (g.sound.1 x b (sym (more.elsewhere x ne) ∙ e))
    ],
  );
  fresh = λ x e. more.elsewhere x (λ s. not_both (p x) e (ap p s ∙ (g.within i (among_last xs i)).0)) ∙ g.fresh x e;
  line = line_kept try fair f h in_h xs (λ x k. gone x k) (line_front try f xs i g.line);
  distinct = apart.0;
  within = λ x k. (let w = g.within x (among_left xs (i ∷ []) x k) in (w.0, gone x k, w.2));
  rest = λ x b u. (
      let ne : x ≢ i = λ s. none_some (h x) a u (ap h s ∙ more.here) in
      elim (g.rest x b (sym (more.elsewhere x ne) ∙ u)) [
        | inl k ↦ elim (among_cases xs i x k) [ inl l ↦ inl l | inr e ↦ absurd (ne (sym e)) ]
        | inr q ↦ (
            let off : q.0 ≢ i = λ s. q.3 (subst (Among (xs ++ i ∷ [])) (sym s) (among_last xs i)) in
            let none : h q.0 ≡ None = more.elsewhere q.0 off ∙ fair.unknown f x q.0 q.1 in
            inr (q.0, fair.waits f h x q.0 in_h q.1 none, q.2, λ k. q.3 (among_left xs (i ∷ []) q.0 k)))
      ]);
}
  where
    none_i : f i ≡ None
    none_i = (g.within i (among_last xs i)).1

    in_h : Within f h
    in_h = more_within f h i a none_i more

    apart : Distinct xs × (Among xs i → ⊥)
    apart = distinct_front xs i g.distinct

    mine : (x : ℕ) (b : A) → x ≡ i → h x ≡ Some b → a ≡ b
    mine x b s e = some_is a b (sym more.here ∙ ap h (sym s) ∙ e)

    gone : (x : ℕ) → Among xs x → h x ≡ None
    gone x k = more.elsewhere x (λ s. apart.1 (subst (Among xs) s k)) ∙ (g.within x (among_left xs (i ∷ []) x k)).1

-- what is at hand waits for one that was begun: nothing of the row will be answered
pub is_given_up : {A : Type 0} (try : (ℕ → Option A) → ℕ → Attempt A) (n : ℕ) (f : ℕ → Option A) (p : ℕ → Bool) (xs : List ℕ) (i j : ℕ) → Going try n f p (xs ++ i ∷ []) → try f i ≡ Waits j → p j ≡ true → Going try n f p []
is_given_up try n f p xs i j g w b = record {
  solved = g.solved;
  sound = g.sound;
  fresh = g.fresh;
  line = tt;
  distinct = tt;
  within = λ x h. absurd h;
  rest = λ x t u. inr (elim (g.rest x t u) [
    | inl k ↦ elim (among_cases xs i x k) [
      | inl l ↦ (let q = line_waits try f xs i x g.line l in (q.0, q.1, (g.within q.0 q.2).0, λ h. h))
      | inr e ↦ (j, subst (λ v. try f v ≡ Waits j) e w, b, λ h. h)
    ]
    | inr d ↦ (d.0, d.1, d.2, λ h. h)
  ]);
}

-- nothing is begun yet
pub is_new : {A : Type 0} (try : (ℕ → Option A) → ℕ → Attempt A) (n : ℕ) (f : ℕ → Option A) (p : ℕ → Bool) → ((i : ℕ) → f i ≡ None) → ((i : ℕ) → p i ≡ false) → Going try n f p []
is_new try n f p none fresh = record {
  solved = λ i a e. absurd (none_some (f i) a (none i) e);
  sound = (zero, λ i a e. absurd (none_some (f i) a (none i) e));
  fresh = λ i e. none i;
  line = tt;
  distinct = tt;
  within = λ x h. absurd h;
  rest = λ x t u. absurd (not_both (p x) (fresh x) t);
}

-- all is begun
pub is_closed : {A : Type 0} (try : (ℕ → Option A) → ℕ → Attempt A) (n : ℕ) (f : ℕ → Option A) (p : ℕ → Bool) → Going try n f p [] → ((i : ℕ) → i < n → p i ≡ true) → ((i : ℕ) → n ≤ i → f i ≡ None → (j : ℕ) × (try f i ≡ Waits j)) → IsClosed try f
is_closed try n f p g all out = record {
  solved = g.solved;
  stuck = λ i u. elim (ltb i n) as (λ b. ltb i n ≡ b → (j : ℕ) × (try f i ≡ Waits j)) [
    | true ↦ λ e. (
        let lt : i < n = grind (arith, nat_tests) in
        elim (g.rest i (all i lt) u) [ inl a ↦ absurd a | inr d ↦ (d.0, d.1) ])
    | false ↦ λ e. (let le : n ≤ i = grind (arith, nat_tests) in out i le u)
  ] refl;
}
