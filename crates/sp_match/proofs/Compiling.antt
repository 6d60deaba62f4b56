-- The parts of a regular expression as parts of the automaton.
use Rattle.std.proofs.Common.{◌≡◌, ℕ, zero, suc, ◌+◌, ◌<◌, ◌≤◌, ◌++◌, ◌==◌, ◌&&◌, ◌||◌, not, ◌⊎◌, Bool, true, false, List, [], ◌∷◌, refl, ap, sym, subst, ◌∙◌, inl, inr, arith, append_assoc, eqb-true, eq-eqb}
use Rattle.std.proofs.lemmas.List.{append-nil}
use Rattle.sp_match.specs.declared.spot.Spot.{Spot}
use Rattle.sp_match.specs.declared.spot.Spot.TheVariants as spot
use Rattle.sp_match.specs.Sets.{has, HasNone, class_has}
use Rattle.sp_match.specs.Parts.{Below, Both, OneByte, IsNamed}
use Rattle.sp_match.specs.Nets.{at, moves, jumps, is_byte, is_goal, Reads, here, over, through, ReadsSome, Alive, Agree, ReadsPart, Compiled, Leads}

-- truth values

pub either_true : (x y : Bool) → (x || y) ≡ true → (x ≡ true) ⊎ (y ≡ true)
either_true true y p = inl refl
either_true false y p = inr p

pub left_true : (x y : Bool) → x ≡ true → (x || y) ≡ true
left_true true y p = refl
left_true false y p = absurd (let q : false ≡ true = p in cc)

pub right_true : (x y : Bool) → y ≡ true → (x || y) ≡ true
right_true true y p = refl
right_true false y p = p

pub both_true : (x y : Bool) → (x && y) ≡ true → (x ≡ true) × (y ≡ true)
both_true true y p = (refl, p)
both_true false y p = absurd (let q : false ≡ true = p in cc)

pub and_true : (x y : Bool) → x ≡ true → y ≡ true → (x && y) ≡ true
and_true true y p q = q
and_true false y p q = absurd (let r : false ≡ true = p in cc)

pub true_or_false : (x : Bool) → (x ≡ true) ⊎ (x ≡ false)
true_or_false true = inl refl
true_or_false false = inr refl

pub not_both : {x : Bool} → x ≡ true → x ≡ false → ⊥
not_both p q = absurd (let r : true ≡ false = sym p ∙ q in cc)

pub not_of_false : (x : Bool) → x ≡ false → not x ≡ true
not_of_false true p = absurd (let q : true ≡ false = p in cc)
not_of_false false p = refl

pub not_true : (x : Bool) → not x ≡ true → x ≡ false
not_true true p = absurd (let q : false ≡ true = p in cc)
not_true false p = refl

pub or_false : (x : Bool) → (x || false) ≡ x
or_false true = refl
or_false false = refl

pub and_false : (x y : Bool) → x ≡ true → (x && not y) ≡ false → y ≡ true
and_false true true p q = refl
and_false true false p q = absurd (let r : true ≡ false = q in cc)
and_false false y p q = absurd (let r : false ≡ true = p in cc)

-- sets of spots

pub only : (v p : ℕ) → has (v ∷ []) p ≡ (p == v)
only v p = or_false (p == v)

pub only_one : (v p : ℕ) → has (v ∷ []) p ≡ true → p ≡ v
only_one v p h = eqb-true p v (sym (only v p) ∙ h)

pub only_same : (v p : ℕ) → p ≡ v → has (v ∷ []) p ≡ true
only_same v p e = only v p ∙ eq-eqb p v e

-- spots of a kind

pub byte_no_goal : (s : Spot) → is_byte s ≡ true → is_goal s ≡ true → ⊥
byte_no_goal (spot.Byte bytes next) b g = absurd (let q : false ≡ true = g in cc)
byte_no_goal (spot.Jump to) b g = absurd (let q : false ≡ true = b in cc)
byte_no_goal (spot.Goal token literal) b g = absurd (let q : false ≡ true = b in cc)
byte_no_goal spot.Nothing b g = absurd (let q : false ≡ true = b in cc)

pub order : (p n : ℕ) → (p < n) ⊎ ((p ≡ n) ⊎ (n < p))
order zero zero = inr (inl refl)
order zero (suc n) = inl (omega arith)
order (suc p) zero = inr (inr (omega arith))
order (suc p) (suc n) = elim (order p n) [ inl x ↦ inl (omega arith) | inr y ↦ elim y [ inl e ↦ inr (inl (ap suc e)) | inr z ↦ inr (inr (omega arith)) ] ]

pub before_or_not : (p n : ℕ) → (p < n) ⊎ (n ≤ p)
before_or_not p n = elim (order p n) [ inl lt ↦ inl lt | inr ge ↦ elim ge [ inl e ↦ inr (omega arith) | inr gt ↦ inr (omega arith) ] ]

-- the same spots

pub agree_part : (net other : List Spot) (a b c d : ℕ) → Agree net other a b → a ≤ c → d ≤ b → Agree net other c d
agree_part net other a b c d h l m = λ p x y. h p (omega arith) (omega arith)

pub agree_chain : (net later other : List Spot) (a b : ℕ) → Agree net later a b → Agree later other a b → Agree net other a b
agree_chain net later other a b h k = λ p x y. k p x y ∙ h p x y

pub compiled_later : (L : List ℕ → Type 0) (then entry : List ℕ) (a b : ℕ) (net later : List Spot) → Agree net later a b → Compiled L then entry a b net → Compiled L then entry a b later
compiled_later L then entry a b net later same c = record {
  spots = λ p h. elim (c.spots p h) [ inl k ↦ inl k | inr k ↦ inr (k.0, k.1, ap is_byte (same p k.0 k.1) ∙ k.2) ];
  reads = λ other h. c.reads other (agree_chain net later other a b same h);
  is_read = λ other h. c.is_read other (agree_chain net later other a b same h);
  alive = λ other h. c.alive other (agree_chain net later other a b same h);
  lively = λ other h live p q le lt x. c.lively other (agree_chain net later other a b same h) live p q le lt (subst (λ s. Leads s q) (same p le lt) x);
}

-- no word, or nothing behind it
pub compiled_none : (L : List ℕ → Type 0) (then entry : List ℕ) (a b : ℕ) (net : List Spot) → b ≤ a → HasNone entry → ((u : List ℕ) (q : ℕ) → L u → has then q ≡ true → ⊥) → Compiled L then entry a b net
compiled_none L then entry a b net small none dead = record {
  spots = λ p h. absurd (not_both h (none p));
  reads = λ other h g p w e le r. absurd (not_both e (none p));
  is_read = λ other h g u v l s. absurd (dead u s.0 l s.1);
  alive = λ other h live p e. absurd (not_both e (none p));
  lively = λ other h live p q le lt x. absurd (omega arith);
}

no_entry : (x y z w : Bool) → x ≡ false → z ≡ false → ((x && y) || (z && w)) ≡ false
no_entry x y z w e f = rw (e, f) refl

-- a language of the same words
pub compiled_same : (A B : List ℕ → Type 0) (then entry : List ℕ) (a b : ℕ) (net : List Spot) → ((w : List ℕ) → A w → B w) → ((w : List ℕ) → B w → A w) → Compiled A then entry a b net → Compiled B then entry a b net
compiled_same A B then entry a b net forth back c = record {
  spots = λ p h. elim (c.spots p h) [ inl k ↦ inl (k.0, forth [] k.1) | inr k ↦ inr k ];
  reads = λ other h g p w e le r. let k = c.reads other h g p w e le r in (k.0, k.1, k.2, k.3, forth (k.0 ∷ k.1) k.4, k.5);
  is_read = λ other h g u v l s. c.is_read other h g u v (back u l) s;
  alive = c.alive;
  lively = c.lively;
}

pub not_below : (set : List ℕ) (a : ℕ) (p : ℕ) → Below set a → has set p ≡ true → a ≤ p → ⊥
not_below set a p below h le = let lt = below p h in omega arith

-- the spots where a reading begins are of the part, or of the set behind it
pub entry_below : (L : List ℕ → Type 0) (then entry : List ℕ) (a b : ℕ) (net : List Spot) → a ≤ b → Below then a → Compiled L then entry a b net → Below entry b
entry_below L then entry a b net le below c = λ p h. elim (c.spots p h) [ inl k ↦ (let lt = below p k.0 in omega arith) | inr k ↦ k.1 ]

-- nothing is read
pub compiled_empty : (then : List ℕ) (a b : ℕ) (net : List Spot) → b ≤ a → Below then a → Compiled (λ w. w ≡ []) then then a b net
compiled_empty then a b net small below = record {
  spots = λ p h. inl (h, refl);
  reads = λ other h g p w e le r. absurd (not_below then a p below e le);
  is_read = λ other h g u v l s. rw l s;
  alive = λ other h live. live;
  lively = λ other h live p q le lt x. absurd (omega arith);
}

chain_inner : (A B : List ℕ → Type 0) (then mid : List ℕ) (a m : ℕ) (net other : List Spot) → Agree net other a m → Compiled B then mid a m net → (g c : ℕ) (u v w : List ℕ) → w ≡ (c ∷ u) ++ v → A (c ∷ u) → Below then a → ReadsSome other g mid v → ReadsPart other g (Both A B) then w
chain_inner A B then mid a m net other h cb g c u v w e l below s =
    elim (cb.spots s.0 s.1) [
      | inl k ↦ (c, u, v, e, (c ∷ u, [], sym (append-nil (c ∷ u)), l, k.1), (s.0, k.0, s.2))
      | inr k ↦ (let r = cb.reads other h g s.0 v s.1 k.0 s.2 in
          (c, u ++ (r.0 ∷ r.1), r.2, e ∙ ap (λ z. (c ∷ u) ++ z) r.3 ∙ sym (append_assoc (c ∷ u) (r.0 ∷ r.1) r.2), (c ∷ u, r.0 ∷ r.1, refl, l, r.4), r.5))
    ]

pub compiled_both : (A B : List ℕ → Type 0) (then mid entry : List ℕ) (a m b : ℕ) (net : List Spot) → a ≤ m → m ≤ b → Below then a → Compiled B then mid a m net → Compiled A mid entry m b net → Compiled (Both A B) then entry a b net
compiled_both A B then mid entry a m b net le le2 below cb ca = record {
  spots = λ p h. elim (ca.spots p h) [
    | inl k ↦ elim (cb.spots p k.0) [ inl j ↦ inl (j.0, ([], [], refl, k.1, j.1)) | inr j ↦ inr (j.0, omega arith, j.2) ]
    | inr k ↦ inr (omega arith, k.1, k.2)
  ];
  reads = λ other h g p w e from r. elim (ca.spots p e) [
    | inl k ↦ elim (cb.spots p k.0) [
      | inl j ↦ absurd (not_below then a p below j.0 from)
      | inr j ↦ (let s = cb.reads other (agree_part net other a b a m h (omega arith) le2) g p w k.0 j.0 r in
          (s.0, s.1, s.2, s.3, ([], s.0 ∷ s.1, refl, k.1, s.4), s.5))
    ]
    | inr k ↦ (let s = ca.reads other (agree_part net other a b m b h le (omega arith)) g p w e k.0 r in
        chain_inner A B then mid a m net other (agree_part net other a b a m h (omega arith) le2) cb g s.0 s.1 s.2 w s.3 s.4 below s.5)
  ];
  is_read = λ other h g u v l s.
      let first = cb.is_read other (agree_part net other a b a m h (omega arith) le2) g l.1 v l.4 s in
      let second = ca.is_read other (agree_part net other a b m b h le (omega arith)) g l.0 (l.1 ++ v) l.3 first in
      subst (λ z. ReadsSome other g entry z) (sym (append_assoc l.0 l.1 v) ∙ ap (λ z. z ++ v) (sym l.2)) second;
  alive = λ other h live. ca.alive other (agree_part net other a b m b h le (omega arith)) (cb.alive other (agree_part net other a b a m h (omega arith) le2) live);
  lively = λ other h live p q low high x. elim (before_or_not p m) [
    | inl lt ↦ cb.lively other (agree_part net other a b a m h (omega arith) le2) live p q low lt x
    | inr ge ↦ ca.lively other (agree_part net other a b m b h le (omega arith)) (cb.alive other (agree_part net other a b a m h (omega arith) le2) live) p q ge high x
  ];
}

-- a word of A or one of B
abbrev pub Either : (List ℕ → Type 0) → (List ℕ → Type 0) → List ℕ → Type 0
Either A B w = A w ⊎ B w

pub compiled_either : (A B : List ℕ → Type 0) (then one two entry : List ℕ) (a m b : ℕ) (net : List Spot) → a ≤ m → m ≤ b → Below then a → ((p : ℕ) → has entry p ≡ (has one p || has two p)) → Compiled A then one a m net → Compiled B then two m b net → Compiled (Either A B) then entry a b net
compiled_either A B then one two entry a m b net le le2 below is ca cb = record {
  spots = λ p h. elim (either_true (has one p) (has two p) (sym (is p) ∙ h)) [
    | inl x ↦ elim (ca.spots p x) [ inl k ↦ inl (k.0, inl k.1) | inr k ↦ inr (k.0, omega arith, k.2) ]
    | inr x ↦ elim (cb.spots p x) [ inl k ↦ inl (k.0, inr k.1) | inr k ↦ inr (omega arith, k.1, k.2) ]
  ];
  reads = λ other h g p w e from r. elim (either_true (has one p) (has two p) (sym (is p) ∙ e)) [
    | inl x ↦ (let s = ca.reads other (agree_part net other a b a m h (omega arith) le2) g p w x from r in
        (s.0, s.1, s.2, s.3, inl s.4, s.5))
    | inr x ↦ elim (cb.spots p x) [
      | inl k ↦ absurd (not_below then a p below k.0 from)
      | inr k ↦ (let s = cb.reads other (agree_part net other a b m b h le (omega arith)) g p w x k.0 r in
          (s.0, s.1, s.2, s.3, inr s.4, s.5))
    ]
  ];
  is_read = λ other h g u v l s. elim l [
    | inl x ↦ (let r = ca.is_read other (agree_part net other a b a m h (omega arith) le2) g u v x s in (r.0, is r.0 ∙ left_true (has one r.0) (has two r.0) r.1, r.2))
    | inr x ↦ (let r = cb.is_read other (agree_part net other a b m b h le (omega arith)) g u v x s in (r.0, is r.0 ∙ right_true (has one r.0) (has two r.0) r.1, r.2))
  ];
  alive = λ other h live p e. elim (either_true (has one p) (has two p) (sym (is p) ∙ e)) [
    | inl x ↦ ca.alive other (agree_part net other a b a m h (omega arith) le2) live p x
    | inr x ↦ cb.alive other (agree_part net other a b m b h le (omega arith)) live p x
  ];
  lively = λ other h live p q low high x. elim (before_or_not p m) [
    | inl lt ↦ ca.lively other (agree_part net other a b a m h (omega arith) le2) live p q low lt x
    | inr ge ↦ cb.lively other (agree_part net other a b m b h le (omega arith)) live p q ge high x
  ];
}

leaf_read : (bytes : List Bool) (then : List ℕ) (p : ℕ) (other : List Spot) (s : Spot) → at other p ≡ s → is_byte s ≡ true → ((x q : ℕ) → moves s x q ≡ true → (class_has bytes x ≡ true) × (has then q ≡ true)) → ((q : ℕ) → jumps s q ≡ true → ⊥) → (g : ℕ) (w : List ℕ) → Reads other g p w → ReadsPart other g (OneByte bytes) then w
leaf_read bytes then p other s e b moved jumped g w (here x) = absurd (byte_no_goal (at other g) (ap is_byte e ∙ b) x)
leaf_read bytes then p other s e b moved jumped g w (over {b = x} {q = q} {w = v} m r) =
    let k = moved x q (subst (λ z. moves z x q ≡ true) e m) in
    (x, [], v, refl, (x, k.0, refl), (q, k.1, r))
leaf_read bytes then p other s e b moved jumped g w (through {q = q} j r) = absurd (jumped q (subst (λ z. jumps z q ≡ true) e j))

-- the spot s reads a byte of the class and is then at the set
pub record IsLeaf (bytes : List Bool) (then : List ℕ) (s : Spot) : Type 0 where
  pub is_byte : is_byte s ≡ true
  pub moved : (x q : ℕ) → moves s x q ≡ true → (class_has bytes x ≡ true) × (has then q ≡ true)
  pub moves : (x q : ℕ) → class_has bytes x ≡ true → has then q ≡ true → moves s x q ≡ true
  pub jumped : (q : ℕ) → jumps s q ≡ true → ⊥

pub compiled_leaf : (bytes : List Bool) (then entry : List ℕ) (a : ℕ) (net : List Spot) → IsLeaf bytes then (at net a) → ((p : ℕ) → has entry p ≡ (p == a)) → (x : ℕ) → class_has bytes x ≡ true → (q : ℕ) → has then q ≡ true → Compiled (OneByte bytes) then entry a (a + 1) net
compiled_leaf bytes then entry a net leaf is x hx q hq = record {
  spots = λ p h. let e : p ≡ a = eqb-true p a (sym (is p) ∙ h) in inr (omega arith, omega arith, ap (λ z. is_byte (at net z)) e ∙ leaf.is_byte);
  reads = λ other h g p w e from r. let i : p ≡ a = eqb-true p a (sym (is p) ∙ e) in
      leaf_read bytes then p other (at net a) (ap (at other) i ∙ h a (omega arith) (omega arith)) leaf.is_byte leaf.moved leaf.jumped g w r;
  is_read = λ other h g u v l s.
      let same : at other a ≡ at net a = h a (omega arith) (omega arith) in
      let m : moves (at other a) l.0 s.0 ≡ true = ap (λ z. moves z l.0 s.0) same ∙ leaf.moves l.0 s.0 l.1 s.1 in
      subst (λ z. ReadsSome other g entry (z ++ v)) (sym l.2) (a, is a ∙ eq-eqb a a refl, over m s.2);
  alive = λ other h live p e. let i : p ≡ a = eqb-true p a (sym (is p) ∙ e) in
      let same : at other p ≡ at net a = ap (at other) i ∙ h a (omega arith) (omega arith) in
      let k = live q hq in
      (k.0, x ∷ k.1, over (ap (λ z. moves z x q) same ∙ leaf.moves x q hx hq) k.2);
  lively = λ other h live p to low high y.
      let i : p ≡ a = omega arith in
      elim (subst (λ z. Leads (at net z) to) i y) [
        | inl m ↦ live to (leaf.moved m.0 to m.1).1
        | inr j ↦ absurd (leaf.jumped to j)
      ];
}

-- A part A in front of a row that reads B: its spots lead to the one spot v, which stands for the set where the row
-- begins; in the whole's own set that set stands in place of v.
pub record IsFront (A B : List ℕ → Type 0) (then : List ℕ) (v : ℕ) (mid begin entry : List ℕ) (a m b : ℕ) (net : List Spot) : Type 0 where
  pub first : a ≤ m
  pub second : m ≤ b
  pub below : Below then a
  pub row : Compiled B then mid a m net
  pub stands : IsNamed (v ∷ []) mid a m net
  pub part : Compiled A (v ∷ []) begin m b net
  pub is : (p : ℕ) → has entry p ≡ ((has begin p && not (p == v)) || (has begin v && has mid p))

module _ {A B : List ℕ → Type 0} {then : List ℕ} {v : ℕ} {mid begin entry : List ℕ} {a m b : ℕ} {net : List Spot} (f : IsFront A B then v mid begin entry a m b net) where
  early : (other : List Spot) → Agree net other a b → Agree net other a m
  early other h = let le = f.first in let ge = f.second in agree_part net other a b a m h (omega arith) ge

  late : (other : List Spot) → Agree net other a b → Agree net other m b
  late other h = let le = f.first in agree_part net other a b m b h le (omega arith)

  entry_cases : (p : ℕ) → has entry p ≡ true → ((has begin p ≡ true) × (p == v) ≡ false) ⊎ ((has begin v ≡ true) × (has mid p ≡ true))
  entry_cases p h = elim (either_true (has begin p && not (p == v)) (has begin v && has mid p) (sym (f.is p) ∙ h)) [
    | inl k ↦ (let two = both_true (has begin p) (not (p == v)) k in inl (two.0, not_true (p == v) two.1))
    | inr k ↦ inr (both_true (has begin v) (has mid p) k)
  ]

  from_begin : (p : ℕ) → has begin p ≡ true → (p == v) ≡ false → has entry p ≡ true
  from_begin p h ne = f.is p ∙ left_true (has begin p && not (p == v)) (has begin v && has mid p) (and_true (has begin p) (not (p == v)) h (not_of_false (p == v) ne))

  from_mid : (p : ℕ) → has begin v ≡ true → has mid p ≡ true → has entry p ≡ true
  from_mid p h k = f.is p ∙ right_true (has begin p && not (p == v)) (has begin v && has mid p) (and_true (has begin v) (has mid p) h k)

  -- a spot of the part is one of its own
  own : (p : ℕ) → has begin p ≡ true → (p == v) ≡ false → (m ≤ p) × (p < b) × (is_byte (at net p) ≡ true)
  own p h ne = elim (f.part.spots p h) [ inl k ↦ absurd (not_both (eq-eqb p v (only_one v p k.0)) ne) | inr k ↦ k ]

  -- where the row's begin is among the part's, the part has the empty word
  passed : has begin v ≡ true → A []
  passed h = elim (f.part.spots v h) [
    | inl k ↦ k.1
    | inr k ↦ absurd (let lt = f.stands.below v (only_same v v refl) in let ge = k.0 in omega arith)
  ]

  open_read : (other : List Spot) → Agree net other a b → (g : ℕ) (w : List ℕ) → ReadsSome other g begin w → ReadsSome other g entry w
  open_read other h g w s = elim (true_or_false (s.0 == v)) [
    | inl e ↦ (let is = eqb-true s.0 v e in
        let r = f.stands.forth other (early other h) g w (s.0, only_same v s.0 is, s.2) in
        (r.0, from_mid r.0 (subst (λ z. has begin z ≡ true) is s.1) r.1, r.2))
    | inr ne ↦ (s.0, from_begin s.0 s.1 ne, s.2)
  ]

  close_read : (other : List Spot) → Agree net other a b → (g : ℕ) (w : List ℕ) → ReadsSome other g entry w → ReadsSome other g begin w
  close_read other h g w s = elim (entry_cases s.0 s.1) [
    | inl k ↦ (s.0, k.0, s.2)
    | inr k ↦ (let r = f.stands.back other (early other h) g w (s.0, k.1, s.2) in
        (v, k.0, subst (λ z. Reads other g z w) (only_one v r.0 r.1) r.2))
  ]

  begin_alive : (other : List Spot) → Agree net other a b → Alive other entry → Alive other begin
  begin_alive other h live p k = elim (true_or_false (p == v)) [
    | inl e ↦ (let is = eqb-true p v e in
        f.stands.alive other (early other h) (λ q x. live q (from_mid q (subst (λ z. has begin z ≡ true) is k) x)) p (only_same v p is))
    | inr ne ↦ live p (from_begin p k ne)
  ]

  pub front_named : Below begin b → IsNamed begin entry a b net
  front_named below = record {
    below = below;
    none = λ none p. f.is p ∙ no_entry (has begin p) (not (p == v)) (has begin v) (has mid p) (none p) (none v);
    forth = open_read;
    back = close_read;
    alive = begin_alive;
  }

  pub front_compiled : Compiled (Both A B) then entry a b net
  front_compiled = record {
    spots = λ p h. elim (entry_cases p h) [
      | inl k ↦ (let o = own p k.0 k.1 in let le = f.first in inr (let ge = o.0 in omega arith, o.1, o.2))
      | inr k ↦ elim (f.row.spots p k.1) [
        | inl j ↦ inl (j.0, ([], [], refl, passed k.0, j.1))
        | inr j ↦ inr (j.0, let le = f.second in let lt = j.1 in omega arith, j.2)
      ]
    ];
    reads = λ other h g p w e from r. elim (entry_cases p e) [
      | inl k ↦ (let s = f.part.reads other (late other h) g p w k.0 (own p k.0 k.1).0 r in
          chain_inner A B then mid a m net other (early other h) f.row g s.0 s.1 s.2 w s.3 s.4 f.below (f.stands.forth other (early other h) g s.2 s.5))
      | inr k ↦ elim (f.row.spots p k.1) [
        | inl j ↦ absurd (not_below then a p f.below j.0 from)
        | inr j ↦ (let s = f.row.reads other (early other h) g p w k.1 j.0 r in
            (s.0, s.1, s.2, s.3, ([], s.0 ∷ s.1, refl, passed k.0, s.4), s.5))
      ]
    ];
    is_read = λ other h g u w l s.
        let first = f.row.is_read other (early other h) g l.1 w l.4 s in
        let name = f.stands.back other (early other h) g (l.1 ++ w) first in
        let second = f.part.is_read other (late other h) g l.0 (l.1 ++ w) l.3 name in
        subst (λ z. ReadsSome other g entry z) (sym (append_assoc l.0 l.1 w) ∙ ap (λ z. z ++ w) (sym l.2)) (open_read other h g (l.0 ++ (l.1 ++ w)) second);
    alive = λ other h live p k.
        let behind = f.row.alive other (early other h) live in
        elim (entry_cases p k) [
          | inl x ↦ f.part.alive other (late other h) (f.stands.alive other (early other h) behind) p x.0
          | inr x ↦ behind p x.1
        ];
    lively = λ other h live p q low high x. elim (before_or_not p m) [
      | inl lt ↦ f.row.lively other (early other h) live p q low lt x
      | inr ge ↦ f.part.lively other (late other h) (f.stands.alive other (early other h) (f.row.alive other (early other h) live)) p q ge high x
    ];
  }

-- nothing is read where the row reads nothing
pub compiled_dead : (A B : List ℕ → Type 0) (then mid begin : List ℕ) (a b : ℕ) (net : List Spot) → Compiled B then mid a b net → IsNamed begin mid a b net → HasNone begin → Compiled (Both A B) then mid a b net
compiled_dead A B then mid begin a b net c n none = record {
  spots = λ p h. absurd (not_both h (n.none none p));
  reads = λ other h g p w e le r. absurd (not_both e (n.none none p));
  is_read = λ other h g u v l s. let r = n.back other h g (l.1 ++ v) (c.is_read other h g l.1 v l.4 s) in absurd (not_both r.1 (none r.0));
  alive = λ other h live p e. absurd (not_both e (n.none none p));
  lively = c.lively;
}
