-- One turn of each loop over a machine's words, rows and goals.
use Rattle.std.proofs.Common.{◌≡◌, ◌≢◌, ℕ, zero, suc, ◌+◌, ◌*◌, ◌/◌, ◌%◌, ◌^◌, ◌<◌, ◌≤◌, ◌++◌, ◌==◌, ◌||◌, ◌⊎◌, Bool, true, false, List, [], ◌∷◌, Some, None, length, get_or, refl, ap, sym, subst, ◌∙◌, inl, inr, arith, length-append, eqb-true, eq-eqb}
use Rattle.std.proofs.lemmas.List.{get_or_past}
use Rattle.std.specs.Global.{Vec}
use Rattle.std.specs.Int.{bit_at}
use lib.Bits.{bit_and}
use Rattle.std.proofs.lemmas.Nat.Bits.{bit_at_and, bit_at-zero, bit_at-lt, bit_at_above}
use Rattle.sp_match.specs.declared.spot.Spot.{Spot}
use Rattle.sp_match.specs.declared.spot.Spot.TheVariants as spot
use Rattle.sp_match.specs.declared.machine.Goal.{Goal}
use Rattle.sp_match.specs.Bits.{holds, row, led, IsStep, IsStepTo, IsWordStep, IsWordTurn}
use Rattle.sp_match.specs.Nets.{at, is_goal, goal_token, goal_literal}
use Rattle.sp_match.specs.Tables.{goal_at, goal_found, AreGoals}
use Rattle.sp_match.proofs.Compiling.{order, before_or_not, either_true, left_true, right_true, not_both, true_or_false}
use Rattle.sp_match.proofs.Words.{min_is_one, is_one, one_is}
use Rattle.sp_match.proofs.Tabling.{row_before, row_new, row_past}

pub holds_none : (q : ℕ) → holds [] q ≡ false
holds_none q = ap (λ z. z == 1) (bit_at-zero (q % 64))

-- a row that is not there holds nothing
pub past_none : (rows : List (Vec ℕ)) (i q : ℕ) → length rows ≤ i → holds (row rows i) q ≡ false
past_none rows i q le = ap (λ z. holds z q) (row_past rows i le) ∙ holds_none q

-- a fact of each row, with one row more
pub rows_turn : (P : ℕ → List ℕ → Type 0) (xs : List (Vec ℕ)) (x : Vec ℕ) (n : ℕ) → n ≡ length xs → ((i : ℕ) → i < n → P i (row xs i)) → P n x.items → (i : ℕ) → i < n + 1 → P i (row (xs ++ x ∷ []) i)
rows_turn P xs x n long old new i lt = elim (order i n) [
  | inl less ↦ subst (P i) (sym (row_before xs x i (omega arith))) (old i less)
  | inr ge ↦ elim ge [
    | inl e ↦ subst (λ z. P z (row (xs ++ x ∷ []) z)) (sym e) (subst (P n) (sym (ap (row (xs ++ x ∷ [])) long ∙ row_new xs x)) new)
    | inr gt ↦ absurd (omega arith)
  ]
]

-- the bits of a word

bit_within : (n i : ℕ) → n < 2 ^ 64 → bit_at n i ≡ 1 → i < 64
bit_within n i small one = elim (before_or_not i 64) [ inl lt ↦ lt | inr ge ↦ absurd (let z = bit_at_above n 64 i small ge in omega arith) ]

pub word_begins : (nexts : List ℕ) (word spots : ℕ) (old : ℕ → Bool) → IsWordTurn nexts word spots spots old old
word_begins nexts word spots old = record {
  keeps = λ q h. h;
  came = λ q h. inl h;
  goes = λ bit one none. absurd (omega arith);
  within = λ bit one. one;
}

pub word_turn : (nexts : List ℕ) (word spots rest bit left : ℕ) (old mid new : ℕ → Bool) → spots < 2 ^ 64 → left < 2 ^ 64 → bit_at rest bit ≡ 1 → bit_at left bit ≡ 0 → ((i : ℕ) → i < 64 → i ≢ bit → bit_at left i ≡ bit_at rest i) → ((q : ℕ) → new q ≡ (mid q || (q == led nexts (word * 64 + bit)))) → IsWordTurn nexts word spots rest old mid → IsWordTurn nexts word spots left old new
word_turn nexts word spots rest bit left old mid new small less one gone others is t = record {
  keeps = λ q h. is q ∙ left_true (mid q) (q == led nexts (word * 64 + bit)) (t.keeps q h);
  came = λ q h. elim (either_true (mid q) (q == led nexts (word * 64 + bit)) (sym (is q) ∙ h)) [
    | inl x ↦ t.came q x
    | inr x ↦ inr (bit, t.within bit one, sym (eqb-true q (led nexts (word * 64 + bit)) x))
  ];
  goes = λ i set clear. elim (true_or_false (i == bit)) [
    | inl e ↦ (let q = led nexts (word * 64 + i) in let same : q ≡ led nexts (word * 64 + bit) = ap (λ z. led nexts (word * 64 + z)) (eqb-true i bit e) in
        is q ∙ right_true (mid q) (q == led nexts (word * 64 + bit)) (eq-eqb q (led nexts (word * 64 + bit)) same))
    | inr e ↦ (let q = led nexts (word * 64 + i) in
        is q ∙ left_true (mid q) (q == led nexts (word * 64 + bit)) (t.goes i set (sym (others i (bit_within spots i small set) (λ same. not_both (eq-eqb i bit same) e)) ∙ clear)))
  ];
  within = λ i set. elim (true_or_false (i == bit)) [
    | inl e ↦ absurd (let k = ap (bit_at left) (eqb-true i bit e) in omega arith)
    | inr e ↦ t.within i (sym (others i (bit_within left i less set) (λ same. not_both (eq-eqb i bit same) e)) ∙ set)
  ];
}

pub word_done : (nexts : List ℕ) (word spots rest : ℕ) (old new : ℕ → Bool) → rest ≡ 0 → IsWordTurn nexts word spots rest old new → IsWordStep nexts word spots old new
word_done nexts word spots rest old new e t = record {
  keeps = t.keeps;
  came = t.came;
  goes = λ bit one. t.goes bit one (ap (λ z. bit_at z bit) e ∙ bit_at-zero bit);
}

-- all words

pub step_begins : (live readers : ℕ → Bool) (nexts : List ℕ) (next : ℕ → Bool) → ((q : ℕ) → next q ≡ false) → IsStepTo 0 live readers nexts next
step_begins live readers nexts next none = record {
  came = λ q h. absurd (not_both h (none q));
  goes = λ p lt h k. absurd (omega arith);
}

pub step_turn : (live readers : List ℕ) (nexts : List ℕ) (i spots : ℕ) (mid new : ℕ → Bool) → get_or live i 0 < 2 ^ 64 → spots ≡ bit_and (get_or live i 0) (get_or readers i 0) → IsWordStep nexts i spots mid new → IsStepTo i (holds live) (holds readers) nexts mid → IsStepTo (i + 1) (holds live) (holds readers) nexts new
step_turn live readers nexts i spots mid new small e w s = record {
  came = λ q h. elim (w.came q h) [
    | inl x ↦ s.came q x
    | inr x ↦ (let bit = x.0 in
        let both = min_is_one (bit_at (get_or live i 0) bit) (bit_at (get_or readers i 0) bit) (sym (bit_at_and (get_or live i 0) (get_or readers i 0) bit) ∙ ap (λ z. bit_at z bit) (sym e) ∙ x.1) (bit_at-lt (get_or live i 0) bit) (bit_at-lt (get_or readers i 0) bit) in
        let lt = bit_within (get_or live i 0) bit small both.0 in
        let word : (i * 64 + bit) / 64 ≡ i = omega arith in
        let place : (i * 64 + bit) % 64 ≡ bit = omega arith in
        (i * 64 + bit, rw (word, place) (is_one (bit_at (get_or live i 0) bit) both.0), rw (word, place) (is_one (bit_at (get_or readers i 0) bit) both.1), x.2))
  ];
  goes = λ p lt h k. elim (order (p / 64) i) [
    | inl less ↦ w.keeps (led nexts p) (s.goes p less h k)
    | inr ge ↦ elim ge [
      | inl is ↦ (let bit = p % 64 in
          let a : bit_at (get_or live i 0) bit ≡ 1 = ap (λ z. bit_at (get_or live z 0) bit) (sym is) ∙ one_is (bit_at (get_or live (p / 64) 0) bit) h in
          let b : bit_at (get_or readers i 0) bit ≡ 1 = ap (λ z. bit_at (get_or readers z 0) bit) (sym is) ∙ one_is (bit_at (get_or readers (p / 64) 0) bit) k in
          let both : bit_at spots bit ≡ 1 = ap (λ z. bit_at z bit) e ∙ bit_at_and (get_or live i 0) (get_or readers i 0) bit ∙ (omega arith) in
          let place : i * 64 + bit ≡ p = omega arith in
          subst (λ z. new (led nexts z) ≡ true) place (w.goes bit both))
      | inr gt ↦ absurd (omega arith)
    ]
  ];
}

held_within : (set : List ℕ) (p : ℕ) → holds set p ≡ true → p / 64 < length set
held_within set p h = elim (before_or_not (p / 64) (length set)) [
  | inl lt ↦ lt
  | inr ge ↦ absurd (not_both h (ap (λ z. z == 1) (ap (λ z. bit_at z (p % 64)) (get_or_past set (p / 64) 0 ge) ∙ bit_at-zero (p % 64))))
]

pub step_done : (live readers : List ℕ) (nexts : List ℕ) (n : ℕ) (next : ℕ → Bool) → n ≡ length live → IsStepTo n (holds live) (holds readers) nexts next → IsStep (holds live) (holds readers) nexts next
step_done live readers nexts n next e s = record {
  came = s.came;
  goes = λ p h k. s.goes p (let lt = held_within live p h in omega arith) h k;
}

-- no reader, no step
pub no_step : (live readers : ℕ → Bool) (nexts : List ℕ) (next : ℕ → Bool) → ((q : ℕ) → next q ≡ false) → ((q : ℕ) → readers q ≡ false) → IsStep live readers nexts next
no_step live readers nexts next none nobody = record {
  came = λ q h. absurd (not_both h (none q));
  goes = λ p h k. absurd (not_both k (nobody p));
}

-- one next spot more
pub next_more : (nexts : List ℕ) (x p : ℕ) → (led (nexts ++ x ∷ []) p ≡ led nexts p) ⊎ ((p ≡ length nexts) × (led (nexts ++ x ∷ []) p ≡ x))
next_more [] x zero = inr (refl, refl)
next_more [] x (suc p) = inl refl
next_more (y ∷ ys) x zero = inl refl
next_more (y ∷ ys) x (suc p) = elim (next_more ys x p) [ inl e ↦ inl e | inr e ↦ inr (ap suc e.0, e.1) ]

pub next_new : (nexts : List ℕ) (x : ℕ) → led (nexts ++ x ∷ []) (length nexts) ≡ x
next_new [] x = refl
next_new (y ∷ ys) x = next_new ys x

pub next_kept : (nexts : List ℕ) (x p : ℕ) → p < length nexts → led (nexts ++ x ∷ []) p ≡ led nexts p
next_kept [] x p lt = absurd (omega arith)
next_kept (y ∷ ys) x zero lt = refl
next_kept (y ∷ ys) x (suc p) lt = next_kept ys x p (omega arith)

-- goals

found_is : (s : Spot) (n : ℕ) (x : Goal) → goal_found s n ≡ Some x → (is_goal s ≡ true) × (x.spot ≡ n) × (goal_token s ≡ x.token) × (goal_literal s ≡ x.literal)
found_is (spot.Goal token literal) n x e =
    let g : Goal = record { spot = n; token = token; literal = literal } in
    let same : g ≡ x = (let k : Some g ≡ Some x = e in cc) in
    (refl, sym (ap (λ z. z.spot) same), ap (λ z. z.token) same, ap (λ z. z.literal) same)
found_is (spot.Byte bytes next) n x e = absurd (let k : None ≡ Some x = e in cc)
found_is (spot.Jump to) n x e = absurd (let k : None ≡ Some x = e in cc)
found_is spot.Nothing n x e = absurd (let k : None ≡ Some x = e in cc)

found_none : (s : Spot) (n : ℕ) → goal_found s n ≡ None → is_goal s ≡ true → ⊥
found_none (spot.Goal token literal) n e g = absurd (let x : Goal = record { spot = n; token = token; literal = literal } in let k : Some x ≡ None = e in cc)
found_none (spot.Byte bytes next) n e g = absurd (let k : false ≡ true = g in cc)
found_none (spot.Jump to) n e g = absurd (let k : false ≡ true = g in cc)
found_none spot.Nothing n e g = absurd (let k : false ≡ true = g in cc)

goal_before : (goals : List Goal) (x : Goal) (j : ℕ) → j < length goals → goal_at (goals ++ x ∷ []) j ≡ goal_at goals j
goal_before [] x j lt = absurd (omega arith)
goal_before (y ∷ ys) x zero lt = refl
goal_before (y ∷ ys) x (suc j) lt = goal_before ys x j (omega arith)

goal_new : (goals : List Goal) (x : Goal) → goal_at (goals ++ x ∷ []) (length goals) ≡ x
goal_new [] x = refl
goal_new (y ∷ ys) x = goal_new ys x

pub goals_same : (net : List Spot) (goals : List Goal) (n : ℕ) (s : Spot) → at net n ≡ s → goal_found s n ≡ None → AreGoals net goals n → AreGoals net goals (n + 1)
goals_same net goals n s here none a = record {
  is = a.is;
  all = λ g lt is. elim (order g n) [
    | inl less ↦ a.all g less is
    | inr ge ↦ elim ge [
      | inl e ↦ absurd (found_none s n none (ap is_goal (sym (ap (at net) e ∙ here)) ∙ is))
      | inr gt ↦ absurd (omega arith)
    ]
  ];
}

pub goals_more : (net : List Spot) (goals : List Goal) (n : ℕ) (s : Spot) (x : Goal) → at net n ≡ s → goal_found s n ≡ Some x → AreGoals net goals n → AreGoals net (goals ++ x ∷ []) (n + 1)
goals_more net goals n s x here some a =
    let f = found_is s n x some in
    let long = length-append goals (x ∷ []) in
    record {
      is = λ j lt. elim (order j (length goals)) [
        | inl less ↦ subst (λ (z : Goal). (is_goal (at net (z.spot)) ≡ true) × (goal_token (at net (z.spot)) ≡ z.token) × (goal_literal (at net (z.spot)) ≡ z.literal)) (sym (goal_before goals x j less)) (a.is j less)
        | inr ge ↦ elim ge [
          | inl e ↦ subst (λ (z : Goal). (is_goal (at net (z.spot)) ≡ true) × (goal_token (at net (z.spot)) ≡ z.token) × (goal_literal (at net (z.spot)) ≡ z.literal)) (sym (ap (goal_at (goals ++ x ∷ [])) e ∙ goal_new goals x))
              (let at_x : at net (x.spot) ≡ s = ap (at net) f.1 ∙ here in (ap is_goal at_x ∙ f.0, ap goal_token at_x ∙ f.2, ap goal_literal at_x ∙ f.3))
          | inr gt ↦ absurd (omega arith)
        ]
      ];
      all = λ g lt is. elim (order g n) [
        | inl less ↦ (let k = a.all g less is in let small = k.1 in (k.0, omega arith, ap (λ z. z.spot) (goal_before goals x k.0 k.1) ∙ k.2))
        | inr ge ↦ elim ge [
          | inl e ↦ (length goals, omega arith, ap (λ z. z.spot) (goal_new goals x) ∙ f.1 ∙ sym e)
          | inr gt ↦ absurd (omega arith)
        ]
      ];
    }

pub goals_none : (net : List Spot) → AreGoals net [] 0
goals_none net = record {
  is = λ j lt. absurd (omega arith);
  all = λ g lt is. absurd (omega arith);
}

-- a number of a list, by another default
pub number_is : (xs : List ℕ) (i x : ℕ) → i < length xs → x ≡ get_or xs i x → get_or xs i 0 ≡ x
number_is [] i x lt e = absurd (omega arith)
number_is (y ∷ ys) zero x lt e = sym e
number_is (y ∷ ys) (suc i) x lt e = number_is ys i x (omega arith) e

pub both_words : (x y a b : ℕ) → x ≡ a → y ≡ b → bit_and x y ≡ bit_and a b
both_words x y a b e f = ap (λ z. bit_and z y) e ∙ ap (bit_and a) f
