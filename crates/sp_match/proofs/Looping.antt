-- Repetitions without a greatest number, as a jump back to where they begin.
use Rattle.std.proofs.Common.{◌≡◌, ℕ, zero, suc, ◌+◌, ◌<◌, ◌≤◌, ◌++◌, ◌==◌, ◌&&◌, ◌||◌, not, ◌⊎◌, true, false, List, [], ◌∷◌, length, refl, ap, sym, subst, ◌∙◌, inl, inr, arith, append_assoc, length-append, eqb-true, eq-eqb}
use Rattle.sp_regex.specs.Language.{Times}
use Rattle.sp_match.specs.declared.spot.Spot.{Spot}
use Rattle.sp_match.specs.Sets.{has}
use Rattle.sp_match.specs.Parts.{Below, Star, Plus}
use Rattle.sp_match.specs.Nets.{at, moves, jumps, is_goal, Reads, here, over, through, ReadsSome, Alive, Agree, Compiled, Leads, AliveAt}
use Rattle.sp_match.proofs.Compiling.{order, either_true, left_true, right_true, both_true, and_true, true_or_false, not_both, not_of_false, not_true, agree_part, not_below, compiled_same}

-- the spot s is at each spot of the set
pub record IsLoop (to : List ℕ) (s : Spot) : Type 0 where
  pub jumps : (q : ℕ) → jumps s q ≡ has to q
  pub no_goal : is_goal s ≡ true → ⊥
  pub no_move : (x q : ℕ) → moves s x q ≡ true → ⊥

pub loop_read : (to : List ℕ) (a : ℕ) (other : List Spot) (s : Spot) → at other a ≡ s → IsLoop to s → (g : ℕ) (w : List ℕ) → Reads other g a w → ReadsSome other g to w
loop_read to a other s e l g w (here x) = absurd (l.no_goal (ap is_goal (sym e) ∙ x))
loop_read to a other s e l g w (over {b = x} {q = q} m r) = absurd (l.no_move x q (ap (λ z. moves z x q) (sym e) ∙ m))
loop_read to a other s e l g w (through {q = q} j r) = (q, sym (l.jumps q) ∙ ap (λ z. jumps z q) (sym e) ∙ j, r)

pub loop_begins : (to : List ℕ) (a : ℕ) (other : List Spot) (s : Spot) → at other a ≡ s → IsLoop to s → (g : ℕ) (w : List ℕ) → ReadsSome other g to w → Reads other g a w
loop_begins to a other s e l g w r = through (ap (λ z. jumps z r.0) e ∙ l.jumps r.0 ∙ r.1) r.2

star_plus : (A : List ℕ → Type 0) (n : ℕ) (w : List ℕ) → A [] → Times n A w → Plus A w
star_plus A zero w none t = (0, ([], w, refl, none, t))
star_plus A (suc n) w none t = (n, t)

-- The loop at the spot a: its body begins at `entry` and leads back to a; from a the body is entered, or what
-- stands behind it.
pub record Looped (A : List ℕ → Type 0) (then entry back to : List ℕ) (a b : ℕ) (net : List Spot) : Type 0 where
  pub below : Below then a
  pub goes_on : (q : ℕ) × (has then q ≡ true)
  pub order : a < b
  pub loop : IsLoop to (at net a)
  pub to_is : (p : ℕ) → has to p ≡ ((has entry p && not (p == a)) || has then p)
  pub back_is : (p : ℕ) → has back p ≡ (p == a)
  pub body : Compiled A back entry (a + 1) b net

module _ {A : List ℕ → Type 0} {then entry back to : List ℕ} {a b : ℕ} {net : List Spot} (l : Looped A then entry back to a b net) where
  to_cases : (p : ℕ) → has to p ≡ true → ((has entry p ≡ true) × (a + 1 ≤ p)) ⊎ (has then p ≡ true)
  to_cases p h = elim (either_true (has entry p && not (p == a)) (has then p) (sym (l.to_is p) ∙ h)) [
    | inr k ↦ inr k
    | inl k ↦ (let two = both_true (has entry p) (not (p == a)) k in
        elim (l.body.spots p two.0) [
          | inl j ↦ absurd (not_both (sym (l.back_is p) ∙ j.0) (not_true (p == a) two.1))
          | inr j ↦ inl (two.0, j.0)
        ])
  ]

  begins : (other : List Spot) → Agree net other a b → at other a ≡ at net a
  begins other h = let lt = l.order in h a (omega arith) lt

  inside : (other : List Spot) → Agree net other a b → Agree net other (a + 1) b
  inside other h = agree_part net other a b (a + 1) b h (omega arith) (omega arith)

  back_read : (other : List Spot) (g : ℕ) (v : List ℕ) → ReadsSome other g back v → Reads other g a v
  back_read other g v r = subst (λ z. Reads other g z v) (eqb-true r.0 a (sym (l.back_is r.0) ∙ r.1)) r.2

  loop_words : (other : List Spot) → Agree net other a b → (g k : ℕ) (v : List ℕ) → length v ≤ k → Reads other g a v → (u : List ℕ) × (w : List ℕ) × (v ≡ u ++ w) × Star A u × ReadsSome other g then w
  loop_words other h g zero v le r =
      let s = loop_read to a other (at net a) (begins other h) l.loop g v r in
      elim (to_cases s.0 s.1) [
        | inr t ↦ ([], v, refl, (0, refl), (s.0, t, s.2))
        | inl e ↦ (let x = l.body.reads other (inside other h) g s.0 v e.0 e.1 s.2 in
            absurd (omega (arith, ap length x.3, length-append (x.0 ∷ x.1) x.2)))
      ]
  loop_words other h g (suc k) v le r =
      let s = loop_read to a other (at net a) (begins other h) l.loop g v r in
      elim (to_cases s.0 s.1) [
        | inr t ↦ ([], v, refl, (0, refl), (s.0, t, s.2))
        | inl e ↦ (let x = l.body.reads other (inside other h) g s.0 v e.0 e.1 s.2 in
            let shorter : length x.2 ≤ k = omega (arith, ap length x.3, length-append (x.0 ∷ x.1) x.2) in
            let y = loop_words other h g k x.2 shorter (back_read other g x.2 x.5) in
            ((x.0 ∷ x.1) ++ y.0, y.1, x.3 ∙ ap (λ z. (x.0 ∷ x.1) ++ z) y.2 ∙ sym (append_assoc (x.0 ∷ x.1) y.0 y.1), (suc y.3.0, (x.0 ∷ x.1, y.0, refl, x.4, y.3.1)), y.4))
      ]

  part_read : (other : List Spot) → Agree net other a b → (g p : ℕ) (w : List ℕ) → has entry p ≡ true → a + 1 ≤ p → Reads other g p w → (c : ℕ) × (u : List ℕ) × (v : List ℕ) × (w ≡ (c ∷ u) ++ v) × Plus A (c ∷ u) × ReadsSome other g then v
  part_read other h g p w e from r =
      let x = l.body.reads other (inside other h) g p w e from r in
      let y = loop_words other h g (length x.2) x.2 (omega arith) (back_read other g x.2 x.5) in
      (x.0, x.1 ++ y.0, y.1, x.3 ∙ ap (λ z. (x.0 ∷ x.1) ++ z) y.2 ∙ sym (append_assoc (x.0 ∷ x.1) y.0 y.1), (y.3.0, (x.0 ∷ x.1, y.0, refl, x.4, y.3.1)), y.4)

  entered : (other : List Spot) → Agree net other a b → (g : ℕ) (w : List ℕ) → ReadsSome other g entry w → ReadsSome other g to w
  entered other h g w r = elim (true_or_false (r.0 == a)) [
    | inl t ↦ loop_read to a other (at net a) (begins other h) l.loop g w (subst (λ z. Reads other g z w) (eqb-true r.0 a t) r.2)
    | inr f ↦ (r.0, l.to_is r.0 ∙ left_true (has entry r.0 && not (r.0 == a)) (has then r.0) (and_true (has entry r.0) (not (r.0 == a)) r.1 (not_of_false (r.0 == a) f)), r.2)
  ]

  round_read : (other : List Spot) → Agree net other a b → (g : ℕ) (u v : List ℕ) → A u → ReadsSome other g to v → ReadsSome other g entry (u ++ v)
  round_read other h g u v x s = l.body.is_read other (inside other h) g u v x (a, l.back_is a ∙ eq-eqb a a refl, loop_begins to a other (at net a) (begins other h) l.loop g v s)

  star_read : (other : List Spot) → Agree net other a b → (g n : ℕ) (u v : List ℕ) → Times n A u → ReadsSome other g then v → ReadsSome other g to (u ++ v)
  star_read other h g zero u v t s = rw t (s.0, l.to_is s.0 ∙ right_true (has entry s.0 && not (s.0 == a)) (has then s.0) s.1, s.2)
  star_read other h g (suc n) u v t s =
      let rest = star_read other h g n t.1 v t.4 s in
      let whole = entered other h g (t.0 ++ (t.1 ++ v)) (round_read other h g t.0 (t.1 ++ v) t.3 rest) in
      subst (λ z. ReadsSome other g to z) (sym (append_assoc t.0 t.1 v) ∙ ap (λ z. z ++ v) (sym t.2)) whole

  back_alive : (other : List Spot) → Agree net other a b → Alive other then → Alive other back
  back_alive other h live p e =
      let k = live l.goes_on.0 l.goes_on.1 in
      let r = loop_begins to a other (at net a) (begins other h) l.loop k.0 k.1 (l.goes_on.0, l.to_is l.goes_on.0 ∙ right_true (has entry l.goes_on.0 && not (l.goes_on.0 == a)) (has then l.goes_on.0) l.goes_on.1, k.2) in
      (k.0, k.1, subst (λ z. Reads other k.0 z k.1) (sym (eqb-true p a (sym (l.back_is p) ∙ e))) r)

  lively_all : (other : List Spot) → Agree net other a b → Alive other then → (p q : ℕ) → a ≤ p → p < b → Leads (at net p) q → AliveAt other q
  lively_all other h live p q low high x = elim (order p a) [
    | inl lt ↦ absurd (omega arith)
    | inr ge ↦ elim ge [
      | inl e ↦ elim (subst (λ z. Leads (at net z) q) e x) [
        | inl m ↦ absurd (l.loop.no_move m.0 q m.1)
        | inr j ↦ elim (to_cases q (sym (l.loop.jumps q) ∙ j)) [
          | inr k ↦ live q k
          | inl k ↦ l.body.alive other (inside other h) (back_alive other h live) q k.0
        ]
      ]
      | inr gt ↦ l.body.lively other (inside other h) (back_alive other h live) p q (omega arith) high x
    ]
  ]

  pub compiled_star : Compiled (Star A) then to a b net
  compiled_star = record {
    spots = λ p h. elim (to_cases p h) [
      | inr k ↦ inl (k, (0, refl))
      | inl k ↦ elim (l.body.spots p k.0) [
        | inl j ↦ (let e = eqb-true p a (sym (l.back_is p) ∙ j.0) in let le = k.1 in absurd (omega arith))
        | inr j ↦ inr (omega (arith, k.1), j.1, j.2)
      ]
    ];
    reads = λ other h g p w e from r. elim (to_cases p e) [
      | inr k ↦ absurd (not_below then a p l.below k from)
      | inl k ↦ (let x = part_read other h g p w k.0 k.1 r in (x.0, x.1, x.2, x.3, (suc x.4.0, x.4.1), x.5))
    ];
    is_read = λ other h g u v x s. star_read other h g x.0 u v x.1 s;
    alive = λ other h live p e. elim (to_cases p e) [
      | inr k ↦ live p k
      | inl k ↦ l.body.alive other (inside other h) (back_alive other h live) p k.0
    ];
    lively = lively_all;
  }

  -- where the body has the empty word, once or more is any number of times
  pub compiled_plus_empty : has entry a ≡ true → Compiled (Plus A) then to a b net
  compiled_plus_empty e =
      let none : A [] = elim (l.body.spots a e) [ inl k ↦ k.1 | inr k ↦ (let le = k.0 in absurd (omega arith)) ] in
      compiled_same (Star A) (Plus A) then to a b net
      (λ w x. star_plus A x.0 w none x.1)
      (λ w x. (suc x.0, x.1)) compiled_star

  pub compiled_plus : has entry a ≡ false → Compiled (Plus A) then entry a b net
  compiled_plus e = record {
    spots = λ p h. elim (l.body.spots p h) [
      | inl k ↦ absurd (not_both h (subst (λ z. has entry z ≡ false) (sym (eqb-true p a (sym (l.back_is p) ∙ k.0))) e))
      | inr k ↦ inr (omega (arith, k.0), k.1, k.2)
    ];
    reads = λ other h g p w x from r. elim (l.body.spots p x) [
      | inl k ↦ absurd (not_both x (subst (λ z. has entry z ≡ false) (sym (eqb-true p a (sym (l.back_is p) ∙ k.0))) e))
      | inr k ↦ part_read other h g p w x k.0 r
    ];
    is_read = λ other h g u v x s.
        subst (λ z. ReadsSome other g entry z) (sym (append_assoc x.1.0 x.1.1 v) ∙ ap (λ z. z ++ v) (sym x.1.2))
        (round_read other h g x.1.0 (x.1.1 ++ v) x.1.3 (star_read other h g x.0 x.1.1 v x.1.4 s));
    alive = λ other h live. l.body.alive other (inside other h) (back_alive other h live);
    lively = lively_all;
  }
