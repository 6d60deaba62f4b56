-- Bounds byte by byte.
use Rattle.std.proofs.Common.{◌≡◌, ℕ, ◌+◌, ◌-◌, ◌*◌, ◌<◌, ◌≤◌, ◌==◌, ◌&&◌, List, ◌∷◌, Option, Some, None, refl, sym, ap, ◌∙◌, ◌⊎◌, inl, inr, subst, arith, nat_le}
use Rattle.std.proofs.lemmas.Bool.{cases_Bool, eqb-true, leb-true, leb-false, le-leb, cond-true, cond-false, and_parts, cases_eq}
use Rattle.std.proofs.lemmas.Bool.Decides.{nat_tests}
use Rattle.sp_regex.specs.declared.bounds.BoundsPlace.{BoundsPlace}
use Rattle.sp_regex.specs.declared.bounds.BoundsPlace.TheVariants.{Start, Least, Comma, Most}
use Rattle.sp_regex.specs.declared.bounds.BoundsStep.{BoundsStep}
use Rattle.sp_regex.specs.declared.bounds.BoundsStep.TheVariants.{Goes, Ends}
use Rattle.sp_regex.specs.declared.tree.Count.{Count}
use Rattle.sp_regex.specs.Bytes.{decimal_value}
use Rattle.sp_regex.specs.Bounds.{with_digit, greatest_from, bounds_step, digit_step, most_step, least_step, close_step, comma_step, may_digit, exactly}
use Rattle.sp_regex.specs.Syntax as syntax
use Rattle.sp_regex.specs.Syntax.{MoreDigits, no_digit, one_digit, IsNumber, digits, IsCount, at_least, between}
use Rattle.sp_regex.proofs.EscapeLaws.{picks}

-- what is left in the greatest number, where a is read of it
pub data MostRest : ℕ → ℕ → Option ℕ → List ℕ → List ℕ → Type 0 where
  most : {n a j : ℕ} {w u : List ℕ} → MoreDigits a j w (125 ∷ u) → n ≤ j → j ≤ 255 → MostRest n a (Some j) w u

-- what is left behind the comma
pub data CommaRest : ℕ → Option ℕ → List ℕ → List ℕ → Type 0 where
  open_end : {n : ℕ} {u : List ℕ} → CommaRest n None (125 ∷ u) u
  closed_end : {n j : ℕ} {w u : List ℕ} → IsNumber j w (125 ∷ u) → n ≤ j → j ≤ 255 → CommaRest n (Some j) w u

-- what is left in the least number, where a is read of it
pub data LeastRest : ℕ → ℕ → Option ℕ → List ℕ → List ℕ → Type 0 where
  brace : {a n : ℕ} {w u : List ℕ} → MoreDigits a n w (125 ∷ u) → n ≤ 255 → LeastRest a n (Some n) w u
  comma : {a n : ℕ} {m : Option ℕ} {w v u : List ℕ} → MoreDigits a n w (44 ∷ v) → n ≤ 255 → CommaRest n m v u → LeastRest a n m w u

-- what is left behind the opening brace
pub data StartRest : ℕ → Option ℕ → List ℕ → List ℕ → Type 0 where
  number : {b d n : ℕ} {m : Option ℕ} {w u : List ℕ} → decimal_value b ≡ Some d → LeastRest d n m w u → StartRest n m (b ∷ w) u

-- what is left of bounds at a place in them
abbrev pub bounds_rest : BoundsPlace → ℕ → Option ℕ → List ℕ → List ℕ → Type 0
bounds_rest Start n m w u = StartRest n m w u
bounds_rest (Least a) n m w u = LeastRest a n m w u
bounds_rest (Comma i) n m w u = (n ≡ i) × CommaRest i m w u
bounds_rest (Most i a) n m w u = (n ≡ i) × MostRest i a m w u

-- the numbers of a place are such that some bounds go on from there
abbrev pub BoundsFit : BoundsPlace → Type 0
BoundsFit Start = Unit {0}
BoundsFit (Least a) = a ≤ 255
BoundsFit (Comma i) = i ≤ 255
BoundsFit (Most i a) = (i ≤ greatest_from a) × (a ≤ 255)

pub count_start : {n : ℕ} {m : Option ℕ} {w u : List ℕ} → IsCount n m (123 ∷ w) u → StartRest n m w u
count_start (syntax.exactly (digits e ds) le) = number e (brace ds le)
count_start (at_least (digits e ds) le) = number e (comma ds le open_end)
count_start (between (digits e ds) j le low) = number e (comma ds (omega arith) (closed_end j le low))

pub start_count : {n : ℕ} {m : Option ℕ} {w u : List ℕ} → StartRest n m w u → IsCount n m (123 ∷ w) u
start_count (number e (brace ds le)) = syntax.exactly (digits e ds) le
start_count (number e (comma ds le open_end)) = at_least (digits e ds) le
start_count (number e (comma ds le (closed_end j low high))) = between (digits e ds) j low high

digits_grow : {a n : ℕ} {w v : List ℕ} → MoreDigits a n w v → a ≤ n
digits_grow no_digit = omega arith
digits_grow (one_digit e ds) = omega (arith, digits_grow ds)

decimal_below : (b d : ℕ) → decimal_value b ≡ Some d → d ≤ 9
decimal_below b d e = elim (picks (nat_le 48 b && nat_le b 57) _ _ _ e) [
  | inl h ↦ (let p = and_parts (nat_le 48 b) (nat_le b 57) h.0 in let low = leb-true 48 b p.0 in let high = leb-true b 57 p.1 in let f : b - 48 ≡ d = cc in omega arith)
  | inr h ↦ cc
]

greatest_grows : (a d : ℕ) → d ≤ 9 → a * 10 + d ≤ 255 → greatest_from (a * 10 + d) ≤ greatest_from a
greatest_grows a d le high = grind (arith, nat_tests)

greatest_at : (a : ℕ) → a ≤ 255 → a ≤ greatest_from a
greatest_at a le = grind (arith, nat_tests)

digits_reach : {a j : ℕ} {w v : List ℕ} → MoreDigits a j w v → j ≤ 255 → j ≤ greatest_from a
digits_reach {a} no_digit le = greatest_at a le
digits_reach {a} (one_digit {b = b} {d = d} e ds) le =
    let up = digits_grow ds in let g = greatest_grows a d (decimal_below b d e) (omega arith) in let r = digits_reach ds le in omega arith

digit_seen : (p : BoundsPlace) (b d : ℕ) → decimal_value b ≡ Some d → bounds_step p b ≡ digit_step p d
digit_seen p b d e =
    elim (cases_Bool (b == 125)) [
      | inl h ↦ (let g : b ≡ 125 = eqb-true b 125 h in let f : decimal_value 125 ≡ Some d = ap decimal_value (sym g) ∙ e in cc)
      | inr h ↦ elim (cases_Bool (b == 44)) [
        | inl i ↦ (let g : b ≡ 44 = eqb-true b 44 i in let f : decimal_value 44 ≡ Some d = ap decimal_value (sym g) ∙ e in cc)
        | inr i ↦ cond-false (b == 125) (close_step p) _ h ∙ cond-false (b == 44) (comma_step p) (may_digit p (decimal_value b)) i ∙ ap (may_digit p) e
      ]
    ]

with_digit_fits : (a d : ℕ) → a * 10 + d ≤ 255 → with_digit a d ≡ Some (a * 10 + d)
with_digit_fits a d le = cond-true (nat_le (a * 10 + d) 255) _ _ (le-leb (a * 10 + d) 255 le)

most_goes : (n m : ℕ) → n ≤ greatest_from m → most_step n (Some m) ≡ Goes (Most n m)
most_goes n m le = cond-true (nat_le n (greatest_from m)) _ _ (le-leb n (greatest_from m) le)

-- the next byte of bounds is taken
abbrev pub Taken : BoundsPlace → ℕ → List ℕ → ℕ → Option ℕ → List ℕ → Type 0
Taken p b w n m u = ((q : BoundsPlace) × (bounds_step p b ≡ Goes q) × bounds_rest q n m w u) ⊎ ((bounds_step p b ≡ Ends (exactly n m)) × (w ≡ u))

start_forth : {b n : ℕ} {m : Option ℕ} {w u : List ℕ} → StartRest n m (b ∷ w) u → Taken Start b w n m u
start_forth {b} (number {d = d} e r) = inl (Least d, digit_seen Start b d e, r)

least_digit : (a b d : ℕ) → decimal_value b ≡ Some d → a * 10 + d ≤ 255 → bounds_step (Least a) b ≡ Goes (Least (a * 10 + d))
least_digit a b d e le = digit_seen (Least a) b d e ∙ ap least_step (with_digit_fits a d le)

least_forth : {a b n : ℕ} {m : Option ℕ} {w u : List ℕ} → LeastRest a n m (b ∷ w) u → Taken (Least a) b w n m u
least_forth (brace no_digit le) = inr (refl, refl)
least_forth {a} {b} (brace (one_digit {d = d} e ds) le) = inl (Least (a * 10 + d), least_digit a b d e (let g = digits_grow ds in omega arith), brace ds le)
least_forth {a} (comma no_digit le r) = inl (Comma a, refl, (refl, r))
least_forth {a} {b} (comma (one_digit {d = d} e ds) le r) = inl (Least (a * 10 + d), least_digit a b d e (let g = digits_grow ds in omega arith), comma ds le r)

comma_forth : {i b : ℕ} {m : Option ℕ} {w u : List ℕ} → CommaRest i m (b ∷ w) u → Taken (Comma i) b w i m u
comma_forth open_end = inr (refl, refl)
comma_forth {i} {b} (closed_end (digits {d = d} e ds) low high) =
    let g = digits_reach ds high in
    inl (Most i d, digit_seen (Comma i) b d e ∙ most_goes i d (omega arith), (refl, most ds low high))

most_forth : {i a b : ℕ} {m : Option ℕ} {w u : List ℕ} → MostRest i a m (b ∷ w) u → Taken (Most i a) b w i m u
most_forth {i} {a} (most no_digit low high) = inr (cond-true (nat_le i a) _ _ (le-leb i a low), refl)
most_forth {i} {a} {b} (most (one_digit {d = d} e ds) low high) =
    let g = digits_reach ds high in let h = digits_grow ds in
    inl (Most i (a * 10 + d), digit_seen (Most i a) b d e ∙ ap (most_step i) (with_digit_fits a d (omega arith)) ∙ most_goes i (a * 10 + d) (omega arith), (refl, most ds low high))

pub bounds_forth : (p : BoundsPlace) (b n : ℕ) (m : Option ℕ) (w u : List ℕ) → bounds_rest p n m (b ∷ w) u → Taken p b w n m u
bounds_forth Start b n m w u r = start_forth r
bounds_forth (Least a) b n m w u r = least_forth r
bounds_forth (Comma i) b n m w u r = subst (λ k. Taken (Comma i) b w k m u) (sym r.0) (comma_forth r.1)
bounds_forth (Most i a) b n m w u r = subst (λ k. Taken (Most i a) b w k m u) (sym r.0) (most_forth r.1)

seen : (p : BoundsPlace) (b : ℕ) (s : BoundsStep) → bounds_step p b ≡ s → ((b ≡ 125) × (close_step p ≡ s)) ⊎ (((b ≡ 44) × (comma_step p ≡ s)) ⊎ (may_digit p (decimal_value b) ≡ s))
seen p b s e = elim (picks (b == 125) _ _ _ e) [
  | inl h ↦ inl (eqb-true b 125 h.0, h.1)
  | inr h ↦ elim (picks (b == 44) _ _ _ h.1) [ inl i ↦ inr (inl (eqb-true b 44 i.0, i.1)) | inr i ↦ inr (inr i.1) ]
]

least_of : (o : Option ℕ) (q : BoundsPlace) → least_step o ≡ Goes q → (k : ℕ) × (o ≡ Some k) × (Least k ≡ q)
least_of (Some k) q e = (k, refl, cc)
least_of None q e = cc

with_digit_of : (a d k : ℕ) → with_digit a d ≡ Some k → (k ≡ a * 10 + d) × (a * 10 + d ≤ 255)
with_digit_of a d k e = elim (picks (nat_le (a * 10 + d) 255) _ _ _ e) [
  | inl h ↦ (let f : a * 10 + d ≡ k = cc in (sym f, leb-true (a * 10 + d) 255 h.0))
  | inr h ↦ cc
]

most_of : (i : ℕ) (o : Option ℕ) (q : BoundsPlace) → most_step i o ≡ Goes q → (k : ℕ) × (o ≡ Some k) × (Most i k ≡ q) × (i ≤ greatest_from k)
most_of i (Some k) q e = elim (picks (nat_le i (greatest_from k)) _ _ _ e) [
  | inl h ↦ (k, refl, cc, leb-true i (greatest_from k) h.0)
  | inr h ↦ cc
]
most_of i None q e = cc

-- a step to a place, and what is left there, make what was left before
abbrev Back : BoundsPlace → BoundsPlace → ℕ → Type 0
Back p q b = BoundsFit q × ((n : ℕ) (m : Option ℕ) (w u : List ℕ) → bounds_rest q n m w u → bounds_rest p n m (b ∷ w) u)

comma_back : (a : ℕ) → a ≤ 255 → Back (Least a) (Comma a) 44
comma_back a fit = (fit, λ n m w u r. subst (λ k. LeastRest a k m (44 ∷ w) u) (sym r.0) (comma no_digit fit r.1))

digit_back : (p : BoundsPlace) (b d : ℕ) (q : BoundsPlace) → BoundsFit p → decimal_value b ≡ Some d → digit_step p d ≡ Goes q → Back p q b
digit_back Start b d q fit e s =
    let f : Least d ≡ q = cc in let le = decimal_below b d e in
    subst (λ q. Back Start q b) f (omega arith, λ n m w u r. number e r)
digit_back (Least a) b d q fit e s =
    let k = least_of (with_digit a d) q s in let g = with_digit_of a d k.0 k.1 in
    subst (λ q. Back (Least a) q b) (ap Least (sym g.0) ∙ k.2) (g.1, λ n m w u r. least_more e r)
  where
    least_more : {a b d n : ℕ} {m : Option ℕ} {w u : List ℕ} → decimal_value b ≡ Some d → LeastRest (a * 10 + d) n m w u → LeastRest a n m (b ∷ w) u
    least_more e (brace ds le) = brace (one_digit e ds) le
    least_more e (comma ds le r) = comma (one_digit e ds) le r
digit_back (Comma i) b d q fit e s =
    let k = most_of i (Some d) q s in let f : d ≡ k.0 = cc in let le = decimal_below b d e in
    subst (λ q. Back (Comma i) q b) (ap (Most i) f ∙ k.2) ((subst (λ x. i ≤ greatest_from x) (sym f) k.3, omega arith), λ n m w u r. (r.0, comma_more e r.1))
  where
    comma_more : {i b d : ℕ} {m : Option ℕ} {w u : List ℕ} → decimal_value b ≡ Some d → MostRest i d m w u → CommaRest i m (b ∷ w) u
    comma_more e (most ds low high) = closed_end (digits e ds) low high
digit_back (Most i a) b d q fit e s =
    let k = most_of i (with_digit a d) q s in let g = with_digit_of a d k.0 k.1 in
    subst (λ q. Back (Most i a) q b) (ap (Most i) (sym g.0) ∙ k.2) ((subst (λ x. i ≤ greatest_from x) g.0 k.3, g.1), λ n m w u r. (r.0, most_more e r.1))
  where
    most_more : {i a b d : ℕ} {m : Option ℕ} {w u : List ℕ} → decimal_value b ≡ Some d → MostRest i (a * 10 + d) m w u → MostRest i a m (b ∷ w) u
    most_more e (most ds low high) = most (one_digit e ds) low high

digit_option : (p : BoundsPlace) (b : ℕ) (o : Option ℕ) (q : BoundsPlace) → BoundsFit p → decimal_value b ≡ o → may_digit p o ≡ Goes q → Back p q b
digit_option p b (Some d) q fit e s = digit_back p b d q fit e s
digit_option p b None q fit e s = cc

comma_goes : (p q : BoundsPlace) → BoundsFit p → comma_step p ≡ Goes q → Back p q 44
comma_goes (Least a) q fit s = let f : Comma a ≡ q = cc in subst (λ q. Back (Least a) q 44) f (comma_back a fit)
comma_goes Start q fit s = cc
comma_goes (Comma i) q fit s = cc
comma_goes (Most i a) q fit s = cc

close_goes : (p q : BoundsPlace) → close_step p ≡ Goes q → ⊥
close_goes Start q s = cc
close_goes (Least a) q s = cc
close_goes (Comma i) q s = cc
close_goes (Most i a) q s = elim (picks (nat_le i a) _ _ _ s) [ inl h ↦ cc | inr h ↦ cc ]

pub bounds_back : (p q : BoundsPlace) (b : ℕ) → BoundsFit p → bounds_step p b ≡ Goes q → Back p q b
bounds_back p q b fit s = elim (seen p b (Goes q) s) [
  | inl h ↦ absurd (close_goes p q h.1)
  | inr h ↦ elim h [
    | inl i ↦ subst (λ x. Back p q x) (sym i.0) (comma_goes p q fit i.1)
    | inr i ↦ digit_option p b (decimal_value b) q fit refl i
  ]
]

comma_ends : (p : BoundsPlace) (c : Count) → comma_step p ≡ Ends c → ⊥
comma_ends (Least a) c s = cc
comma_ends Start c s = cc
comma_ends (Comma i) c s = cc
comma_ends (Most i a) c s = cc

digit_ends : (p : BoundsPlace) (o : Option ℕ) (c : Count) → may_digit p o ≡ Ends c → ⊥
digit_ends p None c s = cc
digit_ends Start (Some d) c s = cc
digit_ends (Least a) (Some d) c s = no_end (with_digit a d) c s
  where
    no_end : (o : Option ℕ) (c : Count) → least_step o ≡ Ends c → ⊥
    no_end (Some k) c s = cc
    no_end None c s = cc
digit_ends (Comma i) (Some d) c s = elim (picks (nat_le i (greatest_from d)) _ _ _ s) [ inl h ↦ cc | inr h ↦ cc ]
digit_ends (Most i a) (Some d) c s = no_end i (with_digit a d) c s
  where
    no_end : (i : ℕ) (o : Option ℕ) (c : Count) → most_step i o ≡ Ends c → ⊥
    no_end i (Some k) c s = elim (picks (nat_le i (greatest_from k)) _ _ _ s) [ inl h ↦ cc | inr h ↦ cc ]
    no_end i None c s = cc

abbrev Ended : BoundsPlace → Count → ℕ → Type 0
Ended p c b = (w : List ℕ) → bounds_rest p c.least c.most (b ∷ w) w

close_ends : (p : BoundsPlace) (c : Count) → BoundsFit p → close_step p ≡ Ends c → Ended p c 125
close_ends Start c fit s = cc
close_ends (Least a) c fit s = let f : exactly a (Some a) ≡ c = cc in subst (λ c. Ended (Least a) c 125) f (λ w. brace no_digit fit)
close_ends (Comma i) c fit s = let f : exactly i None ≡ c = cc in subst (λ c. Ended (Comma i) c 125) f (λ w. (refl, open_end))
close_ends (Most i a) c fit s = elim (picks (nat_le i a) _ _ _ s) [
  | inl h ↦ (let f : exactly i (Some a) ≡ c = cc in subst (λ c. Ended (Most i a) c 125) f (λ w. (refl, most no_digit (leb-true i a h.0) fit.1)))
  | inr h ↦ cc
]

pub bounds_ends : (p : BoundsPlace) (c : Count) (b : ℕ) → BoundsFit p → bounds_step p b ≡ Ends c → Ended p c b
bounds_ends p c b fit s = elim (seen p b (Ends c) s) [
  | inl h ↦ subst (λ x. Ended p c x) (sym h.0) (close_ends p c fit h.1)
  | inr h ↦ elim h [
    | inl i ↦ absurd (comma_ends p c i.1)
    | inr i ↦ absurd (digit_ends p (decimal_value b) c i)
  ]
]

greatest_small : (i a : ℕ) → (a ≡ 0 → ⊥) → (a ≡ 1 → ⊥) → (a ≡ 2 → ⊥) → (a ≡ 25 → ⊥) → a ≤ 25 → i ≤ greatest_from a → i ≤ a * 10 + 9
greatest_small i a n0 n1 n2 n25 k le = grind (arith, nat_tests)

greatest_large : (i a : ℕ) → 25 < a → i ≤ greatest_from a → i ≤ a
greatest_large i a k le = grind (arith, nat_tests)

-- further digits of a make a number that is not below i
reach : (i a : ℕ) → i ≤ greatest_from a → a ≤ 255 → (v : List ℕ) → (j : ℕ) × (w : List ℕ) × MoreDigits a j w v × (i ≤ j) × (j ≤ 255)
reach i a le fit v = elim (cases_eq a 0) [
  | inl e ↦ (let g : i ≤ 255 = subst (λ x. i ≤ greatest_from x) e le in
      (255, 50 ∷ 53 ∷ 53 ∷ v, subst (λ x. MoreDigits x 255 (50 ∷ 53 ∷ 53 ∷ v) v) (sym e) (one_digit refl (one_digit refl (one_digit refl no_digit))), g, omega arith))
  | inr n0 ↦ elim (cases_eq a 2) [
    | inl e ↦ (let g : i ≤ 255 = subst (λ x. i ≤ greatest_from x) e le in
        (255, 53 ∷ 53 ∷ v, subst (λ x. MoreDigits x 255 (53 ∷ 53 ∷ v) v) (sym e) (one_digit refl (one_digit refl no_digit)), g, omega arith))
    | inr n2 ↦ elim (cases_eq a 1) [
      | inl e ↦ (let g : i ≤ 199 = subst (λ x. i ≤ greatest_from x) e le in
          (199, 57 ∷ 57 ∷ v, subst (λ x. MoreDigits x 199 (57 ∷ 57 ∷ v) v) (sym e) (one_digit refl (one_digit refl no_digit)), g, omega arith))
      | inr n1 ↦ elim (cases_eq a 25) [
        | inl e ↦ (let g : i ≤ 255 = subst (λ x. i ≤ greatest_from x) e le in
            (255, 53 ∷ v, subst (λ x. MoreDigits x 255 (53 ∷ v) v) (sym e) (one_digit refl no_digit), g, omega arith))
        | inr n25 ↦ elim (cases_Bool (nat_le a 25)) [
          | inl h ↦ (let k = leb-true a 25 h in let g : i ≤ a * 10 + 9 = greatest_small i a n0 n1 n2 n25 k le in
              (a * 10 + 9, 57 ∷ v, one_digit refl no_digit, g, omega arith))
          | inr h ↦ (a, v, no_digit, greatest_large i a (leb-false a 25 h) le, fit)
        ]
      ]
    ]
  ]
]

-- some bounds go on from a place
pub bounds_done : (p : BoundsPlace) → BoundsFit p → (v : List ℕ) → (w : List ℕ) × (n : ℕ) × (m : Option ℕ) × bounds_rest p n m w v
bounds_done Start fit v = (48 ∷ 125 ∷ v, 0, Some 0, number refl (brace no_digit (omega arith)))
bounds_done (Least a) fit v = (125 ∷ v, a, Some a, brace no_digit fit)
bounds_done (Comma i) fit v = (125 ∷ v, i, None, (refl, open_end))
bounds_done (Most i a) fit v = let r = reach i a fit.0 fit.1 (125 ∷ v) in (r.1, i, Some r.0, (refl, most r.2 r.3 r.4))
