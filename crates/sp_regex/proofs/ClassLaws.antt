-- Classes byte by byte.
use Rattle.std.proofs.Common.{◌≡◌, ℕ, ◌+◌, ◌-◌, ◌*◌, ◌<◌, ◌≤◌, ◌==◌, ◌&&◌, ◌++◌, Bool, true, false, not, List, [], ◌∷◌, Some, refl, sym, ap, ◌∙◌, ◌⊎◌, inl, inr, subst, arith, nat_le, nat_lt, get_or, if◌then◌else◌}
use Rattle.std.proofs.lemmas.Bool.{eqb-true, leb-true, le-leb, cond-true, cond_both, and_parts, and_from, or_parts, or_from, or_right, or_left, not-true, not_from_false, ltb-true, ltb-false, false_from_ne_true, both_ways}
use Rattle.std.proofs.lemmas.Bool.Decides.{nat_tests}
use Rattle.sp_regex.specs.declared.bytes.ByteRange.{ByteRange}
use Rattle.sp_regex.specs.declared.bytes.ClassByteRole.{ClassByteRole}
use Rattle.sp_regex.specs.declared.bytes.ClassByteRole.TheVariants as role
use Rattle.sp_regex.specs.declared.escape.EscapePlace.{EscapePlace}
use Rattle.sp_regex.specs.declared.escape.EscapePlace.TheVariants as at
use Rattle.sp_regex.specs.declared.escape.EscapeStep.{EscapeStep}
use Rattle.sp_regex.specs.declared.escape.EscapeStep.TheVariants as step
use Rattle.sp_regex.specs.declared.class.ClassPlace.{ClassPlace}
use Rattle.sp_regex.specs.declared.class.ClassPlace.TheVariants.{Open, Empty, Items, After, From, Escape, EscapeTo}
use Rattle.sp_regex.specs.declared.class.ClassReader.{ClassReader}
use Rattle.sp_regex.specs.Bytes.{class_role_of, is_within, is_covered, hex_value}
use Rattle.sp_regex.specs.Room.{is_left}
use Rattle.sp_regex.specs.Trees.{range_of}
use Rattle.sp_regex.specs.Escapes.{escape_step}
use Rattle.sp_regex.specs.Class.{Outcome, goes, ends, reader, with_range, leaves, first_step, range_step, item_step, open_step, more_step, after_step, to_step, escaped_step, can_end_with, can_end_digit, can_end, escaped_to_step, place_step}
use Rattle.sp_regex.specs.Syntax.{IsEscape, short, hex, IsClassByte, plain, caret, escaped, IsItem, one, two, MoreItems, no_item, one_item, HasByte, NoCaret, IsClass, positive, negative}
use Rattle.sp_regex.proofs.Covers.{some_below-found, some_below-witness, is_covered-push}
use Rattle.sp_regex.proofs.EscapeLaws.{escape_read, escape_forth, escape_back, escape_ends, two_digits, picks, hex_below, EscapeFit, escape_fits, escape_below, digit_done, NoDigit, escape_to_any, escape_done}

-- what is left behind an item: further items, and the end of the class
pub data ItemsRest : Bool → List ByteRange → List ByteRange → List ℕ → List ℕ → Type 0 where
  items : {n : Bool} {rs ss : List ByteRange} {w u : List ℕ} → MoreItems rs ss w (93 ∷ u) → HasByte n ss → ItemsRest n rs ss w u

-- what is left behind the dash of a range from f
pub data ToRest : Bool → List ByteRange → ℕ → List ByteRange → List ℕ → List ℕ → Type 0 where
  to : {n : Bool} {rs ss : List ByteRange} {f t : ℕ} {w v u : List ℕ} → IsClassByte t w v → f ≤ t → ItemsRest n (rs ++ range_of f t ∷ []) ss v u → ToRest n rs f ss w u

-- what is left behind a byte f that may begin a range
pub data AfterRest : Bool → List ByteRange → ℕ → List ByteRange → List ℕ → List ℕ → Type 0 where
  alone : {n : Bool} {rs ss : List ByteRange} {f : ℕ} {w u : List ℕ} → ItemsRest n (rs ++ range_of f f ∷ []) ss w u → AfterRest n rs f ss w u
  ranged : {n : Bool} {rs ss : List ByteRange} {f : ℕ} {w u : List ℕ} → ToRest n rs f ss w u → AfterRest n rs f ss (45 ∷ w) u

-- what is left before an item
pub data FirstRest : Bool → List ByteRange → List ByteRange → List ℕ → List ℕ → Type 0 where
  first : {n : Bool} {rs ss : List ByteRange} {b : ℕ} {w v u : List ℕ} → IsClassByte b w v → AfterRest n rs b ss v u → FirstRest n rs ss w u

-- what is left behind the opening bracket
pub data OpenRest : Bool → List ByteRange → Bool → List ByteRange → List ℕ → List ℕ → Type 0 where
  negates : {n : Bool} {rs ss : List ByteRange} {w u : List ℕ} → FirstRest true rs ss w u → OpenRest n rs true ss (94 ∷ w) u
  keeps : {n : Bool} {rs ss : List ByteRange} {w u : List ℕ} → NoCaret w → FirstRest n rs ss w u → OpenRest n rs n ss w u

-- what is left in the escape of a byte that may begin a range
pub data EscapeRest : Bool → List ByteRange → EscapePlace → List ByteRange → List ℕ → List ℕ → Type 0 where
  begun : {n : Bool} {rs ss : List ByteRange} {p : EscapePlace} {b : ℕ} {w v u : List ℕ} → IsEscape b (escape_read p w) v → AfterRest n rs b ss v u → EscapeRest n rs p ss w u

-- what is left in the escape that ends a range from f
pub data EscapeToRest : Bool → List ByteRange → ℕ → EscapePlace → List ByteRange → List ℕ → List ℕ → Type 0 where
  begun_to : {n : Bool} {rs ss : List ByteRange} {f t : ℕ} {p : EscapePlace} {w v u : List ℕ} → IsEscape t (escape_read p w) v → f ≤ t → ItemsRest n (rs ++ range_of f t ∷ []) ss v u → EscapeToRest n rs f p ss w u

-- what is left of a class at a place in it
abbrev pub place_rest : ClassPlace → Bool → List ByteRange → Bool → List ByteRange → List ℕ → List ℕ → Type 0
place_rest Open n rs m ss w u = OpenRest n rs m ss w u
place_rest Empty n rs m ss w u = (m ≡ n) × FirstRest n rs ss w u
place_rest Items n rs m ss w u = (m ≡ n) × ItemsRest n rs ss w u
place_rest (After f) n rs m ss w u = (m ≡ n) × AfterRest n rs f ss w u
place_rest (From f) n rs m ss w u = (m ≡ n) × ToRest n rs f ss w u
place_rest (Escape p) n rs m ss w u = (m ≡ n) × EscapeRest n rs p ss w u
place_rest (EscapeTo f p) n rs m ss w u = (m ≡ n) × EscapeToRest n rs f p ss w u

abbrev pub class_rest : ClassReader → Bool → List ByteRange → List ℕ → List ℕ → Type 0
class_rest c m ss w u = place_rest c.place c.negated c.ranges m ss w u

-- an item, and what is left behind it
item_first : {n : Bool} {rs ss : List ByteRange} {r : ByteRange} {w v u : List ℕ} → IsItem r w v → ItemsRest n (rs ++ r ∷ []) ss v u → FirstRest n rs ss w u
item_first (one b) r = first b (alone r)
item_first (two b c le) r = first b (ranged (to c le r))

first_item : {n : Bool} {rs ss : List ByteRange} {w u : List ℕ} → FirstRest n rs ss w u → (r : ByteRange) × (v : List ℕ) × IsItem r w v × ItemsRest n (rs ++ r ∷ []) ss v u
first_item (first b (alone r)) = (_, _, one b, r)
first_item (first b (ranged (to c le r))) = (_, _, two b c le, r)

pub class_open : {n : Bool} {ss : List ByteRange} {w u : List ℕ} → IsClass n ss (91 ∷ w) u → OpenRest false [] n ss w u
class_open (positive free i m h) = keeps free (item_first i (items m h))
class_open (negative i m h) = negates (item_first i (items m h))

positive_class : {ss : List ByteRange} {w u : List ℕ} → NoCaret w → (p : (r : ByteRange) × (v : List ℕ) × IsItem r w v × ItemsRest false (r ∷ []) ss v u) → IsClass false ss (91 ∷ w) u
positive_class free (r, v, i, items m h) = positive free i m h

negative_class : {ss : List ByteRange} {w u : List ℕ} → (p : (r : ByteRange) × (v : List ℕ) × IsItem r w v × ItemsRest true (r ∷ []) ss v u) → IsClass true ss (91 ∷ 94 ∷ w) u
negative_class (r, v, i, items m h) = negative i m h

pub open_class : {n : Bool} {ss : List ByteRange} {w u : List ℕ} → OpenRest false [] n ss w u → IsClass n ss (91 ∷ w) u
open_class (negates r) = negative_class (first_item r)
open_class (keeps free r) = positive_class free (first_item r)

-- further items cover what the items before them do
covered_grows : {rs ss : List ByteRange} {w v : List ℕ} → (k : ℕ) → MoreItems rs ss w v → is_covered rs k ≡ true → is_covered ss k ≡ true
covered_grows k no_item h = h
covered_grows {rs} k (one_item {r = r} i m) h = covered_grows k m (is_covered-push rs r k ∙ or_left (is_covered rs k) (is_within k r) h)

-- a class that can end has room for a part of its next range
room : {ss : List ByteRange} {w u : List ℕ} → (rs : List ByteRange) (n : Bool) (p : ClassPlace) (f t s : ℕ) → s ≤ t → ItemsRest n (rs ++ range_of f t ∷ []) ss w u → leaves (reader n rs p) (range_of f s) ≡ true
room rs false p f t s le r = refl
room {ss} rs true p f t s le (items m (x, lt, h)) =
    let out : is_covered ss x ≡ false = not-true (is_covered ss x) h in
    let before : is_covered (rs ++ range_of f t ∷ []) x ≡ false = false_from_ne_true _ (λ e. both_ways _ out (covered_grows x m e)) in
    let parts = or_parts (is_covered rs x) (is_within x (range_of f t)) (sym (is_covered-push rs (range_of f t) x) ∙ before) in
    let within : is_within x (range_of f s) ≡ false = smaller x f s t le parts.1 in
    some_below-found 256 (is_left rs (range_of f s)) x lt (and_from _ _ (not_from_false _ parts.0) (not_from_false _ within))
  where
    smaller : (x f s t : ℕ) → s ≤ t → is_within x (range_of f t) ≡ false → is_within x (range_of f s) ≡ false
    smaller x f s t le h = grind (arith, nat_tests)

-- the next byte of a class is taken
abbrev pub Taken : ClassReader → ℕ → Bool → List ByteRange → List ℕ → List ℕ → Outcome → Type 0
Taken c b m ss w u o = ((d : ClassReader) × (o ≡ goes d) × class_rest d m ss w u) ⊎ ((d : ClassReader) × (o ≡ ends d) × (d.negated ≡ m) × (d.ranges ≡ ss) × (w ≡ u))

-- the byte may be the first of an item
abbrev IsFirst : ClassByteRole → Type 0
IsFirst role.Plain = Unit {0}
IsFirst role.Caret = Unit {0}
IsFirst role.Backslash = Unit {0}
IsFirst _ = ⊥

more_is_item : (c : ClassReader) (m : ClassByteRole) (b : ℕ) → IsFirst m → more_step c m b ≡ item_step c m b
more_is_item c role.Plain b i = refl
more_is_item c role.Caret b i = refl
more_is_item c role.Backslash b i = refl
more_is_item c role.Close b i = absurd i
more_is_item c role.Dash b i = absurd i
more_is_item c role.Misplaced b i = absurd i

after_is_item : (c : ClassReader) (f : ℕ) (m : ClassByteRole) (b : ℕ) → IsFirst m → after_step c f m b ≡ item_step (with_range c (range_of f f)) m b
after_is_item c f role.Plain b i = refl
after_is_item c f role.Caret b i = refl
after_is_item c f role.Backslash b i = refl
after_is_item c f role.Close b i = absurd i
after_is_item c f role.Dash b i = absurd i
after_is_item c f role.Misplaced b i = absurd i

open_is_item : (c : ClassReader) (m : ClassByteRole) (b : ℕ) → (m ≡ role.Caret → ⊥) → open_step c m b ≡ item_step c m b
open_is_item c role.Caret b i = absurd (i refl)
open_is_item c m b i = refl

caret_is : (b : ℕ) → class_role_of b ≡ role.Caret → b ≡ 94
caret_is b e = elim (picks (b == 94) _ _ _ e) [
  | inl h ↦ eqb-true b 94 h.0
  | inr h ↦
      elim (picks (b == 45) _ _ _ h.1) [
        | inl h ↦ cc
        | inr h ↦
            elim (picks (b == 93) _ _ _ h.1) [
              | inl h ↦ cc
              | inr h ↦
                  elim (picks (b == 92) _ _ _ h.1) [
                    | inl h ↦ cc
                    | inr h ↦
                        elim (picks (b == 47) _ _ _ h.1) [
                          | inl h ↦ cc
                          | inr h ↦
                              elim (picks (nat_le b 127) _ _ _ h.1) [ inl h ↦ cc | inr h ↦ cc ]
                        ]
                  ]
            ]
      ]
]

-- a byte before an item
first_role : {n : Bool} {rs ss : List ByteRange} {b : ℕ} {w u : List ℕ} → FirstRest n rs ss (b ∷ w) u → IsFirst (class_role_of b)
first_role (first (plain e) r) = subst IsFirst (sym e) tt
first_role (first (caret e) r) = subst IsFirst (sym e) tt
first_role (first (escaped (short e)) r) = tt
first_role (first (escaped (hex e)) r) = tt

byte_after : {ss : List ByteRange} {w u : List ℕ} → (n : Bool) (rs : List ByteRange) (p : ClassPlace) (b : ℕ) → AfterRest n rs b ss w u → first_step (reader n rs p) b ≡ goes (reader n rs (After b))
byte_after n rs p b (alone r) = cond-true (leaves (reader n rs p) (range_of b b)) _ _ (room rs n p b b b (omega arith) r)
byte_after n rs p b (ranged (to {t = t} c le r)) = cond-true (leaves (reader n rs p) (range_of b b)) _ _ (room rs n p b t b le r)

item_forth : {n : Bool} {rs ss : List ByteRange} {b : ℕ} {w u : List ℕ} → (p : ClassPlace) → FirstRest n rs ss (b ∷ w) u → Taken (reader n rs p) b n ss w u (item_step (reader n rs p) (class_role_of b) b)
item_forth {n} {rs} {ss} {b} p (first (plain e) r) = inl (reader n rs (After b), ap (λ m. item_step (reader n rs p) m b) e ∙ byte_after n rs p b r, (refl, r))
item_forth {n} {rs} {ss} {b} p (first (caret e) r) = inl (reader n rs (After b), ap (λ m. item_step (reader n rs p) m b) e ∙ byte_after n rs p b r, (refl, r))
item_forth {n} {rs} p (first (escaped (short e)) r) = inl (reader n rs (Escape at.Start), refl, (refl, begun (short e) r))
item_forth {n} {rs} p (first (escaped (hex e)) r) = inl (reader n rs (Escape at.Start), refl, (refl, begun (hex e) r))

range_taken : {ss : List ByteRange} {w u : List ℕ} → (n : Bool) (rs : List ByteRange) (p : ClassPlace) (f t : ℕ) → f ≤ t → ItemsRest n (rs ++ range_of f t ∷ []) ss w u → range_step (reader n rs p) f t ≡ goes (reader n (rs ++ range_of f t ∷ []) Items)
range_taken n rs p f t le r = cond-true (nat_le f t && leaves (reader n rs p) (range_of f t)) _ _ (and_from (nat_le f t) _ (le-leb f t le) (room rs n p f t t (omega arith) r))

to_forth : {n : Bool} {rs ss : List ByteRange} {f b : ℕ} {w u : List ℕ} → (p : ClassPlace) → ToRest n rs f ss (b ∷ w) u → Taken (reader n rs p) b n ss w u (to_step (reader n rs p) f (class_role_of b) b)
to_forth {n} {rs} {ss} {f} {b} p (to (plain e) le r) = inl (reader n (rs ++ range_of f b ∷ []) Items, ap (λ m. to_step (reader n rs p) f m b) e ∙ range_taken n rs p f b le r, (refl, r))
to_forth {n} {rs} {ss} {f} {b} p (to (caret e) le r) = inl (reader n (rs ++ range_of f b ∷ []) Items, ap (λ m. to_step (reader n rs p) f m b) e ∙ range_taken n rs p f b le r, (refl, r))
to_forth {n} {rs} {ss} {f} p (to (escaped (short e)) le r) = inl (reader n rs (EscapeTo f at.Start), refl, (refl, begun_to (short e) le r))
to_forth {n} {rs} {ss} {f} p (to (escaped (hex e)) le r) = inl (reader n rs (EscapeTo f at.Start), refl, (refl, begun_to (hex e) le r))

more_forth : {n : Bool} {rs ss : List ByteRange} {b : ℕ} {w u : List ℕ} → (p : ClassPlace) → ItemsRest n rs ss (b ∷ w) u → Taken (reader n rs p) b n ss w u (more_step (reader n rs p) (class_role_of b) b)
more_forth {n} {rs} p (items no_item h) = inr (reader n rs p, refl, refl, refl, refl)
more_forth {n} {rs} {ss} {b} {w} {u} p (items (one_item i m) h) =
    let r = item_first i (items m h) in
    subst (λ o. Taken (reader n rs p) b n ss w u o) (sym (more_is_item (reader n rs p) (class_role_of b) b (first_role r))) (item_forth p r)

after_forth : {n : Bool} {rs ss : List ByteRange} {f b : ℕ} {w u : List ℕ} → (p : ClassPlace) → AfterRest n rs f ss (b ∷ w) u → Taken (reader n rs p) b n ss w u (after_step (reader n rs p) f (class_role_of b) b)
after_forth {n} {rs} {ss} {f} p (alone (items no_item h)) = inr (reader n (rs ++ range_of f f ∷ []) p, refl, refl, refl, refl)
after_forth {n} {rs} {ss} {f} {b} {w} {u} p (alone (items (one_item i m) h)) =
    let r = item_first i (items m h) in
    subst (λ o. Taken (reader n rs p) b n ss w u o) (sym (after_is_item (reader n rs p) f (class_role_of b) b (first_role r))) (item_forth p r)
after_forth {n} {rs} {ss} {f} p (ranged r) = inl (reader n rs (From f), refl, (refl, r))

open_forth : {n m : Bool} {rs ss : List ByteRange} {b : ℕ} {w u : List ℕ} → (p : ClassPlace) → OpenRest n rs m ss (b ∷ w) u → Taken (reader n rs p) b m ss w u (open_step (reader n rs p) (class_role_of b) b)
open_forth {n} {m} {rs} p (negates r) = inl (reader true rs Empty, refl, (refl, r))
open_forth {n} {m} {rs} {ss} {b} {w} {u} p (keeps free r) =
    subst (λ o. Taken (reader n rs p) b n ss w u o) (sym (open_is_item (reader n rs p) (class_role_of b) b (λ e. free w (ap (λ x. x ∷ w) (caret_is b e))))) (item_forth p r)

escaped_forth : {n : Bool} {rs ss : List ByteRange} {e : EscapePlace} {b : ℕ} {w u : List ℕ} → (p : ClassPlace) → EscapeRest n rs e ss (b ∷ w) u → Taken (reader n rs p) b n ss w u (escaped_step (reader n rs p) (escape_step e b))
escaped_forth {n} {rs} {ss} {e} {b} {w} {u} p (begun {b = c} {v = v} x r) = elim (escape_forth e b c w v x) [
  | inl (q, s, y) ↦ inl (reader n rs (Escape q), ap (escaped_step (reader n rs p)) s, (refl, begun y r))
  | inr (s, g) ↦ inl (reader n rs (After c), ap (escaped_step (reader n rs p)) s ∙ byte_after n rs p c r, (refl, subst (λ v. AfterRest n rs c ss v u) (sym g) r))
]

lowest_end : (f t i j : ℕ) → f ≤ t → t ≡ 16 * i + j → (if nat_lt f (16 * i) then 16 * i else f) ≤ t
lowest_end f t i j le e = cond_both (nat_lt f (16 * i)) (16 * i) f (λ x. x ≤ t) (λ h. omega arith) (λ h. le)

can_end_at : {ss : List ByteRange} {v u : List ℕ} → (w : List ℕ) (n : Bool) (rs : List ByteRange) (p : ClassPlace) (f t : ℕ) (q : EscapePlace) → IsEscape t (escape_read q w) v → f ≤ t → ItemsRest n (rs ++ range_of f t ∷ []) ss v u → can_end (reader n rs p) f q ≡ true
can_end_at w n rs p f t at.Start x le r = refl
can_end_at w n rs p f t at.Hex x le r = refl
can_end_at w n rs p f t (at.Digit h) x le r = digit_end n rs p f t h x le r
  where
    digit_end : {ss : List ByteRange} {w v u : List ℕ} → (n : Bool) (rs : List ByteRange) (p : ClassPlace) (f t h : ℕ) → IsEscape t (92 ∷ 120 ∷ h ∷ w) v → f ≤ t → ItemsRest n (rs ++ range_of f t ∷ []) ss v u → can_end (reader n rs p) f (at.Digit h) ≡ true
    digit_end n rs p f t h (short e) le r = cc
    digit_end n rs p f t h (hex {low = l} e) le r =
        let d = two_digits (hex_value h) (hex_value l) t e in
        let below = hex_below l d.1 d.3 in
        let high : f ≤ 16 * d.0 + 15 = omega (arith, d.4) in
        let both : can_end_with (reader n rs p) f (16 * d.0) ≡ true =
        and_from (nat_le f (16 * d.0 + 15)) _ (le-leb f (16 * d.0 + 15) high) (room rs n p f t (if nat_lt f (16 * d.0) then 16 * d.0 else f) (lowest_end f t d.0 d.1 le d.4) r) in
        ap (can_end_digit (reader n rs p) f) d.2 ∙ both

escaped_to_forth : {n : Bool} {rs ss : List ByteRange} {f : ℕ} {e : EscapePlace} {b : ℕ} {w u : List ℕ} → (p : ClassPlace) → EscapeToRest n rs f e ss (b ∷ w) u → Taken (reader n rs p) b n ss w u (escaped_to_step (reader n rs p) f (escape_step e b))
escaped_to_forth {n} {rs} {ss} {f} {e} {b} {w} {u} p (begun_to {t = t} {v = v} x le r) = elim (escape_forth e b t w v x) [
  | inl (q, s, y) ↦ inl (reader n rs (EscapeTo f q), ap (escaped_to_step (reader n rs p) f) s ∙ cond-true (can_end (reader n rs p) f q) _ _ (can_end_at w n rs p f t q y le r), (refl, begun_to y le r))
  | inr (s, g) ↦ inl (reader n (rs ++ range_of f t ∷ []) Items, ap (escaped_to_step (reader n rs p) f) s ∙ range_taken n rs p f t le r, (refl, subst (λ v. ItemsRest n (rs ++ range_of f t ∷ []) ss v u) (sym g) r))
]

at_sign : (n : Bool) (rs : List ByteRange) (p : ClassPlace) (b : ℕ) (m : Bool) (ss : List ByteRange) (w u : List ℕ) (o : Outcome) → m ≡ n → Taken (reader n rs p) b n ss w u o → Taken (reader n rs p) b m ss w u o
at_sign n rs p b m ss w u o e h = subst (λ k. Taken (reader n rs p) b k ss w u o) (sym e) h

-- the reader says which byte goes on
pub class_forth : (n : Bool) (rs : List ByteRange) (p : ClassPlace) (b : ℕ) (m : Bool) (ss : List ByteRange) (w u : List ℕ) → place_rest p n rs m ss (b ∷ w) u → Taken (reader n rs p) b m ss w u (place_step (reader n rs p) p b)
class_forth n rs Open b m ss w u r = open_forth Open r
class_forth n rs Empty b m ss w u r = at_sign n rs Empty b m ss w u _ r.0 (item_forth Empty r.1)
class_forth n rs Items b m ss w u r = at_sign n rs Items b m ss w u _ r.0 (more_forth Items r.1)
class_forth n rs (After f) b m ss w u r = at_sign n rs (After f) b m ss w u _ r.0 (after_forth (After f) r.1)
class_forth n rs (From f) b m ss w u r = at_sign n rs (From f) b m ss w u _ r.0 (to_forth (From f) r.1)
class_forth n rs (Escape e) b m ss w u r = at_sign n rs (Escape e) b m ss w u _ r.0 (escaped_forth (Escape e) r.1)
class_forth n rs (EscapeTo f e) b m ss w u r = at_sign n rs (EscapeTo f e) b m ss w u _ r.0 (escaped_to_forth (EscapeTo f e) r.1)

-- a byte is in none of the ranges, if the class is of all other bytes
abbrev Room : Bool → List ByteRange → Type 0
Room true rs = (x : ℕ) × (x < 256) × (is_covered rs x ≡ false)
Room false rs = Unit {0}

-- the ranges of a place are such that some class goes on from there
abbrev pub PlaceFit : ClassPlace → Bool → List ByteRange → Type 0
PlaceFit Open n rs = (n ≡ false) × (rs ≡ [])
PlaceFit Empty n rs = (n ≡ true) × (rs ≡ [])
PlaceFit Items n rs = HasByte n rs
PlaceFit (After f) n rs = (f ≤ 255) × HasByte n (rs ++ range_of f f ∷ [])
PlaceFit (From f) n rs = (f ≤ 255) × HasByte n (rs ++ range_of f f ∷ [])
PlaceFit (Escape p) n rs = EscapeFit p × Room n rs
PlaceFit (EscapeTo f p) n rs = (f ≤ 255) × HasByte n (rs ++ range_of f f ∷ []) × EscapeFit p × (can_end (reader n rs Open) f p ≡ true)

abbrev pub ClassFit : ClassReader → Type 0
ClassFit d = PlaceFit d.place d.negated d.ranges

has_room : (n : Bool) (rs : List ByteRange) → HasByte n rs → Room n rs
has_room true rs (x, lt, h) = (x, lt, not-true (is_covered rs x) h)
has_room false rs h = tt

before_room : (n : Bool) (rs : List ByteRange) (r : ByteRange) → Room n (rs ++ r ∷ []) → Room n rs
before_room true rs r (x, lt, h) = (x, lt, (or_parts (is_covered rs x) (is_within x r) (sym (is_covered-push rs r x) ∙ h)).0)
before_room false rs r h = tt

none_room : (n : Bool) (rs : List ByteRange) → rs ≡ [] → Room n rs
none_room true rs e = (0, omega arith, ap (λ l. is_covered l 0) e)
none_room false rs e = tt

within_self : (f t : ℕ) → f ≤ t → is_within f (range_of f t) ≡ true
within_self f t le = and_from (nat_le f f) (nat_le f t) (le-leb f f (omega arith)) (le-leb f t le)

-- a further range that leaves a byte
leaves_has : (n : Bool) (rs : List ByteRange) (p : ClassPlace) (f t : ℕ) → f ≤ t → f ≤ 255 → leaves (reader n rs p) (range_of f t) ≡ true → HasByte n (rs ++ range_of f t ∷ [])
leaves_has false rs p f t le small h = (f, omega arith, is_covered-push rs (range_of f t) f ∙ or_right (is_covered rs f) _ (within_self f t le))
leaves_has true rs p f t le small h =
    let w = some_below-witness 256 (is_left rs (range_of f t)) h in
    let parts = and_parts (not (is_covered rs w.0)) (not (is_within w.0 (range_of f t))) w.2 in
    let out : is_covered (rs ++ range_of f t ∷ []) w.0 ≡ false =
    is_covered-push rs (range_of f t) w.0 ∙ or_from (is_covered rs w.0) _ (not-true _ parts.0) (not-true _ parts.1) in
    (w.0, w.1, not_from_false _ out)

backslash_is : (b : ℕ) → class_role_of b ≡ role.Backslash → b ≡ 92
backslash_is b e = elim (picks (b == 94) _ _ _ e) [
  | inl h ↦ cc
  | inr h ↦
      elim (picks (b == 45) _ _ _ h.1) [
        | inl h ↦ cc
        | inr h ↦
            elim (picks (b == 93) _ _ _ h.1) [
              | inl h ↦ cc
              | inr h ↦
                  elim (picks (b == 92) _ _ _ h.1) [
                    | inl h ↦ eqb-true b 92 h.0
                    | inr h ↦
                        elim (picks (b == 47) _ _ _ h.1) [
                          | inl h ↦ cc
                          | inr h ↦
                              elim (picks (nat_le b 127) _ _ _ h.1) [ inl h ↦ cc | inr h ↦ cc ]
                        ]
                  ]
            ]
      ]
]

dash_is : (b : ℕ) → class_role_of b ≡ role.Dash → b ≡ 45
dash_is b e = elim (picks (b == 94) _ _ _ e) [
  | inl h ↦ cc
  | inr h ↦
      elim (picks (b == 45) _ _ _ h.1) [
        | inl h ↦ eqb-true b 45 h.0
        | inr h ↦
            elim (picks (b == 93) _ _ _ h.1) [
              | inl h ↦ cc
              | inr h ↦
                  elim (picks (b == 92) _ _ _ h.1) [
                    | inl h ↦ cc
                    | inr h ↦
                        elim (picks (b == 47) _ _ _ h.1) [
                          | inl h ↦ cc
                          | inr h ↦
                              elim (picks (nat_le b 127) _ _ _ h.1) [ inl h ↦ cc | inr h ↦ cc ]
                        ]
                  ]
            ]
      ]
]

close_is : (b : ℕ) → class_role_of b ≡ role.Close → b ≡ 93
close_is b e = elim (picks (b == 94) _ _ _ e) [
  | inl h ↦ cc
  | inr h ↦
      elim (picks (b == 45) _ _ _ h.1) [
        | inl h ↦ cc
        | inr h ↦
            elim (picks (b == 93) _ _ _ h.1) [
              | inl h ↦ eqb-true b 93 h.0
              | inr h ↦
                  elim (picks (b == 92) _ _ _ h.1) [
                    | inl h ↦ cc
                    | inr h ↦
                        elim (picks (b == 47) _ _ _ h.1) [
                          | inl h ↦ cc
                          | inr h ↦
                              elim (picks (nat_le b 127) _ _ _ h.1) [ inl h ↦ cc | inr h ↦ cc ]
                        ]
                  ]
            ]
      ]
]

-- a step to a reader, and what is left there, make what was left before, which is P
abbrev Makes : ClassReader → Bool → (List ByteRange → List ℕ → List ℕ → Type 0) → Type 0
Makes d n P = ClassFit d × ((m : Bool) (ss : List ByteRange) (w u : List ℕ) → class_rest d m ss w u → (m ≡ n) × P ss w u)

first_makes : (n : Bool) (rs : List ByteRange) (p : ClassPlace) (b : ℕ) (d : ClassReader) → b ≤ 255 → first_step (reader n rs p) b ≡ goes d → Makes d n (λ ss w u. AfterRest n rs b ss w u)
first_makes n rs p b d le s = elim (picks (leaves (reader n rs p) (range_of b b)) _ _ _ s) [
  | inl h ↦ (let f : reader n rs (After b) ≡ d = cc in
      subst (λ d. Makes d n (λ ss w u. AfterRest n rs b ss w u)) f ((le, leaves_has n rs p b b (omega arith) le h.0), λ m ss w u r. r))
  | inr h ↦ cc
]

range_makes : (n : Bool) (rs : List ByteRange) (p : ClassPlace) (f t : ℕ) (d : ClassReader) → f ≤ 255 → range_step (reader n rs p) f t ≡ goes d → (f ≤ t) × Makes d n (λ ss w u. ItemsRest n (rs ++ range_of f t ∷ []) ss w u)
range_makes n rs p f t d small s = elim (picks (nat_le f t && leaves (reader n rs p) (range_of f t)) _ _ _ s) [
  | inl h ↦ (let parts = and_parts (nat_le f t) _ h.0 in let le = leb-true f t parts.0 in
      let g : reader n (rs ++ range_of f t ∷ []) Items ≡ d = cc in
      (le, subst (λ d. Makes d n (λ ss w u. ItemsRest n (rs ++ range_of f t ∷ []) ss w u)) g (leaves_has n rs p f t le small parts.1, λ m ss w u r. r)))
  | inr h ↦ cc
]

abbrev FirstAt : Bool → List ByteRange → ℕ → List ByteRange → List ℕ → List ℕ → Type 0
FirstAt n rs b ss w u = FirstRest n rs ss (b ∷ w) u

escape_first : {n : Bool} {rs ss : List ByteRange} {w u : List ℕ} → EscapeRest n rs at.Start ss w u → FirstRest n rs ss (92 ∷ w) u
escape_first (begun x r) = first (escaped x) r

item_makes : (n : Bool) (rs : List ByteRange) (p : ClassPlace) (m : ClassByteRole) (b : ℕ) (d : ClassReader) → Room n rs → b ≤ 255 → class_role_of b ≡ m → item_step (reader n rs p) m b ≡ goes d → Makes d n (FirstAt n rs b)
item_makes n rs p role.Plain b d has le e s = let k = first_makes n rs p b d le s in (k.0, λ m ss w u r. let h = k.1 m ss w u r in (h.0, first (plain e) h.1))
item_makes n rs p role.Caret b d has le e s = let k = first_makes n rs p b d le s in (k.0, λ m ss w u r. let h = k.1 m ss w u r in (h.0, first (caret e) h.1))
item_makes n rs p role.Backslash b d has le e s =
    let f : reader n rs (Escape at.Start) ≡ d = cc in
    subst (λ d. Makes d n (FirstAt n rs b)) f ((tt, has), λ m ss w u r. (r.0, subst (λ x. FirstRest n rs ss (x ∷ w) u) (sym (backslash_is b e)) (escape_first r.1)))
item_makes n rs p role.Close b d has le e s = cc
item_makes n rs p role.Dash b d has le e s = cc
item_makes n rs p role.Misplaced b d has le e s = cc

-- a step to a reader, and what is left there, make what was left before
abbrev pub Back : ClassPlace → Bool → List ByteRange → ℕ → ClassReader → Type 0
Back p n rs b d = ClassFit d × ((m : Bool) (ss : List ByteRange) (w u : List ℕ) → class_rest d m ss w u → place_rest p n rs m ss (b ∷ w) u)

first_items : {n : Bool} {rs ss : List ByteRange} {w u : List ℕ} → FirstRest n rs ss w u → ItemsRest n rs ss w u
first_items f = more_items (first_item f)
  where
    more_items : {n : Bool} {rs ss : List ByteRange} {w u : List ℕ} → (p : (r : ByteRange) × (v : List ℕ) × IsItem r w v × ItemsRest n (rs ++ r ∷ []) ss v u) → ItemsRest n rs ss w u
    more_items (r, v, i, items m h) = items (one_item i m) h

open_other : (n : Bool) (rs : List ByteRange) (m : ClassByteRole) (b : ℕ) (d : ClassReader) → PlaceFit Open n rs → b ≤ 255 → class_role_of b ≡ m → (m ≡ role.Caret → ⊥) → item_step (reader n rs Open) m b ≡ goes d → Back Open n rs b d
open_other n rs m b d fit le e ne s =
    let k = item_makes n rs Open m b d (none_room n rs fit.1) le e s in
    let free : (w : List ℕ) → NoCaret (b ∷ w) = λ w v g. ne (sym e ∙ ap class_role_of (let f : b ≡ 94 = cc in f)) in
    (k.0, λ m ss w u r. let h = k.1 m ss w u r in subst (λ j. OpenRest n rs j ss (b ∷ w) u) (sym h.0) (keeps (free w) h.1))

open_back : (n : Bool) (rs : List ByteRange) (m : ClassByteRole) (b : ℕ) (d : ClassReader) → PlaceFit Open n rs → b ≤ 255 → class_role_of b ≡ m → open_step (reader n rs Open) m b ≡ goes d → Back Open n rs b d
open_back n rs role.Caret b d fit le e s =
    let f : reader true rs Empty ≡ d = cc in
    subst (λ d. Back Open n rs b d) f ((refl, fit.1), λ m ss w u r. subst (λ x. OpenRest n rs m ss (x ∷ w) u) (sym (caret_is b e)) (subst (λ k. OpenRest n rs k ss (94 ∷ w) u) (sym r.0) (negates r.1)))
open_back n rs role.Plain b d fit le e s = open_other n rs role.Plain b d fit le e (λ h. cc) s
open_back n rs role.Backslash b d fit le e s = open_other n rs role.Backslash b d fit le e (λ h. cc) s
open_back n rs role.Close b d fit le e s = cc
open_back n rs role.Dash b d fit le e s = cc
open_back n rs role.Misplaced b d fit le e s = cc

-- further items: an item has to come, or the class ends
more_other : (n : Bool) (rs : List ByteRange) (p : ClassPlace) (m : ClassByteRole) (b : ℕ) (d : ClassReader) → Room n rs → b ≤ 255 → class_role_of b ≡ m → item_step (reader n rs p) m b ≡ goes d → Makes d n (λ ss w u. ItemsRest n rs ss (b ∷ w) u)
more_other n rs p m b d has le e s = let k = item_makes n rs p m b d has le e s in (k.0, λ m ss w u r. let h = k.1 m ss w u r in (h.0, first_items h.1))

more_back : (n : Bool) (rs : List ByteRange) (p : ClassPlace) (m : ClassByteRole) (b : ℕ) (d : ClassReader) → Room n rs → b ≤ 255 → class_role_of b ≡ m → more_step (reader n rs p) m b ≡ goes d → Makes d n (λ ss w u. ItemsRest n rs ss (b ∷ w) u)
more_back n rs p role.Plain b d has le e s = more_other n rs p role.Plain b d has le e s
more_back n rs p role.Caret b d has le e s = more_other n rs p role.Caret b d has le e s
more_back n rs p role.Backslash b d has le e s = more_other n rs p role.Backslash b d has le e s
more_back n rs p role.Close b d has le e s = cc
more_back n rs p role.Dash b d has le e s = cc
more_back n rs p role.Misplaced b d has le e s = cc

after_other : (n : Bool) (rs : List ByteRange) (f : ℕ) (m : ClassByteRole) (b : ℕ) (d : ClassReader) → PlaceFit (After f) n rs → b ≤ 255 → class_role_of b ≡ m → more_step (reader n (rs ++ range_of f f ∷ []) (After f)) m b ≡ goes d → Back (After f) n rs b d
after_other n rs f m b d fit le e s =
    let k = more_back n (rs ++ range_of f f ∷ []) (After f) m b d (has_room n _ fit.1) le e s in
    (k.0, λ m ss w u r. let h = k.1 m ss w u r in (h.0, alone h.1))

after_back : (n : Bool) (rs : List ByteRange) (f : ℕ) (m : ClassByteRole) (b : ℕ) (d : ClassReader) → PlaceFit (After f) n rs → b ≤ 255 → class_role_of b ≡ m → after_step (reader n rs (After f)) f m b ≡ goes d → Back (After f) n rs b d
after_back n rs f role.Dash b d fit le e s =
    let g : reader n rs (From f) ≡ d = cc in
    subst (λ d. Back (After f) n rs b d) g (fit, λ m ss w u r. (r.0, subst (λ x. AfterRest n rs f ss (x ∷ w) u) (sym (dash_is b e)) (ranged r.1)))
after_back n rs f role.Plain b d fit le e s = after_other n rs f role.Plain b d fit le e s
after_back n rs f role.Caret b d fit le e s = after_other n rs f role.Caret b d fit le e s
after_back n rs f role.Backslash b d fit le e s = after_other n rs f role.Backslash b d fit le e s
after_back n rs f role.Close b d fit le e s = cc
after_back n rs f role.Misplaced b d fit le e s = cc

escape_to : {n : Bool} {rs ss : List ByteRange} {f : ℕ} {w u : List ℕ} → EscapeToRest n rs f at.Start ss w u → ToRest n rs f ss (92 ∷ w) u
escape_to (begun_to x le r) = to (escaped x) le r

to_back : (n : Bool) (rs : List ByteRange) (f : ℕ) (m : ClassByteRole) (b : ℕ) (d : ClassReader) → PlaceFit (From f) n rs → class_role_of b ≡ m → to_step (reader n rs (From f)) f m b ≡ goes d → Back (From f) n rs b d
to_back n rs f role.Plain b d fit e s = let k = range_makes n rs (From f) f b d fit.0 s in (k.1.0, λ m ss w u r. let h = k.1.1 m ss w u r in (h.0, to (plain e) k.0 h.1))
to_back n rs f role.Caret b d fit e s = let k = range_makes n rs (From f) f b d fit.0 s in (k.1.0, λ m ss w u r. let h = k.1.1 m ss w u r in (h.0, to (caret e) k.0 h.1))
to_back n rs f role.Backslash b d fit e s =
    let g : reader n rs (EscapeTo f at.Start) ≡ d = cc in
    subst (λ d. Back (From f) n rs b d) g ((fit.0, fit.1, tt, refl), λ m ss w u r. (r.0, subst (λ x. ToRest n rs f ss (x ∷ w) u) (sym (backslash_is b e)) (escape_to r.1)))
to_back n rs f role.Close b d fit e s = cc
to_back n rs f role.Dash b d fit e s = cc
to_back n rs f role.Misplaced b d fit e s = cc

escape_more : {n : Bool} {rs ss : List ByteRange} {b : ℕ} {w u : List ℕ} → (p q : EscapePlace) → escape_step p b ≡ step.Goes q → EscapeRest n rs q ss w u → EscapeRest n rs p ss (b ∷ w) u
escape_more {b = b} {w = w} p q e (begun {b = c} {v = v} x r) = begun (escape_back p q b c w v e x) r

escape_to_more : {n : Bool} {rs ss : List ByteRange} {f b : ℕ} {w u : List ℕ} → (p q : EscapePlace) → escape_step p b ≡ step.Goes q → EscapeToRest n rs f q ss w u → EscapeToRest n rs f p ss (b ∷ w) u
escape_to_more {b = b} {w = w} p q e (begun_to {t = t} {v = v} x le r) = begun_to (escape_back p q b t w v e x) le r

escaped_back : (n : Bool) (rs : List ByteRange) (p : EscapePlace) (b : ℕ) (d : ClassReader) → (x : EscapeStep) → PlaceFit (Escape p) n rs → b ≤ 255 → escape_step p b ≡ x → escaped_step (reader n rs (Escape p)) x ≡ goes d → Back (Escape p) n rs b d
escaped_back n rs p b d (step.Goes q) fit le e s =
    let g : reader n rs (Escape q) ≡ d = cc in
    subst (λ d. Back (Escape p) n rs b d) g ((escape_fits p q b e, fit.1), λ m ss w u r. (r.0, escape_more p q e r.1))
escaped_back n rs p b d (step.Ends c) fit le e s =
    let k = first_makes n rs (Escape p) c d (escape_below p b c le e) s in
    (k.0, λ m ss w u r. let h = k.1 m ss w u r in (h.0, begun (escape_ends p b c w e) h.1))
escaped_back n rs p b d step.Refused fit le e s = cc

can_end_any : (n : Bool) (rs : List ByteRange) (p q : ClassPlace) (f : ℕ) (e : EscapePlace) → can_end (reader n rs p) f e ≡ true → can_end (reader n rs q) f e ≡ true
can_end_any n rs p q f at.Start h = refl
can_end_any n rs p q f at.Hex h = refl
can_end_any n rs p q f (at.Digit x) h = h

escaped_to_back : (n : Bool) (rs : List ByteRange) (f : ℕ) (p : EscapePlace) (b : ℕ) (d : ClassReader) → (x : EscapeStep) → PlaceFit (EscapeTo f p) n rs → escape_step p b ≡ x → escaped_to_step (reader n rs (EscapeTo f p)) f x ≡ goes d → Back (EscapeTo f p) n rs b d
escaped_to_back n rs f p b d (step.Goes q) fit e s = elim (picks (can_end (reader n rs (EscapeTo f p)) f q) _ _ _ s) [
  | inl h ↦ (let g : reader n rs (EscapeTo f q) ≡ d = cc in
      subst (λ d. Back (EscapeTo f p) n rs b d) g ((fit.0, fit.1, escape_fits p q b e, can_end_any n rs (EscapeTo f p) Open f q h.0), λ m ss w u r. (r.0, escape_to_more p q e r.1)))
  | inr h ↦ cc
]
escaped_to_back n rs f p b d (step.Ends t) fit e s =
    let k = range_makes n rs (EscapeTo f p) f t d fit.0 s in
    (k.1.0, λ m ss w u r. let h = k.1.1 m ss w u r in (h.0, begun_to (escape_ends p b t w e) k.0 h.1))
escaped_to_back n rs f p b d step.Refused fit e s = cc

pub class_back : (n : Bool) (rs : List ByteRange) (p : ClassPlace) (b : ℕ) (d : ClassReader) → PlaceFit p n rs → b ≤ 255 → place_step (reader n rs p) p b ≡ goes d → Back p n rs b d
class_back n rs Open b d fit le s = open_back n rs (class_role_of b) b d fit le refl s
class_back n rs Empty b d fit le s = item_makes n rs Empty (class_role_of b) b d (none_room n rs fit.1) le refl s
class_back n rs Items b d fit le s = more_back n rs Items (class_role_of b) b d (has_room n rs fit) le refl s
class_back n rs (After f) b d fit le s = after_back n rs f (class_role_of b) b d fit le refl s
class_back n rs (From f) b d fit le s = to_back n rs f (class_role_of b) b d fit refl s
class_back n rs (Escape p) b d fit le s = escaped_back n rs p b d (escape_step p b) fit le refl s
class_back n rs (EscapeTo f p) b d fit le s = escaped_to_back n rs f p b d (escape_step p b) fit refl s

no_first_end : (n : Bool) (rs : List ByteRange) (p : ClassPlace) (b : ℕ) (d : ClassReader) → first_step (reader n rs p) b ≡ ends d → ⊥
no_first_end n rs p b d s = elim (picks (leaves (reader n rs p) (range_of b b)) _ _ _ s) [ inl h ↦ cc | inr h ↦ cc ]

no_range_end : (n : Bool) (rs : List ByteRange) (p : ClassPlace) (f t : ℕ) (d : ClassReader) → range_step (reader n rs p) f t ≡ ends d → ⊥
no_range_end n rs p f t d s = elim (picks (nat_le f t && leaves (reader n rs p) (range_of f t)) _ _ _ s) [ inl h ↦ cc | inr h ↦ cc ]

no_item_end : (n : Bool) (rs : List ByteRange) (p : ClassPlace) (m : ClassByteRole) (b : ℕ) (d : ClassReader) → item_step (reader n rs p) m b ≡ ends d → ⊥
no_item_end n rs p role.Plain b d s = no_first_end n rs p b d s
no_item_end n rs p role.Caret b d s = no_first_end n rs p b d s
no_item_end n rs p role.Backslash b d s = cc
no_item_end n rs p role.Close b d s = cc
no_item_end n rs p role.Dash b d s = cc
no_item_end n rs p role.Misplaced b d s = cc

no_open_end : (n : Bool) (rs : List ByteRange) (p : ClassPlace) (m : ClassByteRole) (b : ℕ) (d : ClassReader) → open_step (reader n rs p) m b ≡ ends d → ⊥
no_open_end n rs p role.Plain b d s = no_first_end n rs p b d s
no_open_end n rs p role.Caret b d s = cc
no_open_end n rs p role.Backslash b d s = cc
no_open_end n rs p role.Close b d s = cc
no_open_end n rs p role.Dash b d s = cc
no_open_end n rs p role.Misplaced b d s = cc

no_to_end : (n : Bool) (rs : List ByteRange) (p : ClassPlace) (f : ℕ) (m : ClassByteRole) (b : ℕ) (d : ClassReader) → to_step (reader n rs p) f m b ≡ ends d → ⊥
no_to_end n rs p f role.Plain b d s = no_range_end n rs p f b d s
no_to_end n rs p f role.Caret b d s = no_range_end n rs p f b d s
no_to_end n rs p f role.Backslash b d s = cc
no_to_end n rs p f role.Close b d s = cc
no_to_end n rs p f role.Dash b d s = cc
no_to_end n rs p f role.Misplaced b d s = cc

no_escaped_end : (n : Bool) (rs : List ByteRange) (p : ClassPlace) (x : EscapeStep) (d : ClassReader) → escaped_step (reader n rs p) x ≡ ends d → ⊥
no_escaped_end n rs p (step.Goes q) d s = cc
no_escaped_end n rs p (step.Ends c) d s = no_first_end n rs p c d s
no_escaped_end n rs p step.Refused d s = cc

no_escaped_to_end : (n : Bool) (rs : List ByteRange) (p : ClassPlace) (f : ℕ) (x : EscapeStep) (d : ClassReader) → escaped_to_step (reader n rs p) f x ≡ ends d → ⊥
no_escaped_to_end n rs p f (step.Goes q) d s = elim (picks (can_end (reader n rs p) f q) _ _ _ s) [ inl h ↦ cc | inr h ↦ cc ]
no_escaped_to_end n rs p f (step.Ends t) d s = no_range_end n rs p f t d s
no_escaped_to_end n rs p f step.Refused d s = cc

more_ends : (n : Bool) (rs : List ByteRange) (p : ClassPlace) (m : ClassByteRole) (b : ℕ) (d : ClassReader) → class_role_of b ≡ m → more_step (reader n rs p) m b ≡ ends d → (b ≡ 93) × (reader n rs p ≡ d)
more_ends n rs p role.Close b d e s = let f : reader n rs p ≡ d = cc in (close_is b e, f)
more_ends n rs p role.Plain b d e s = absurd (no_first_end n rs p b d s)
more_ends n rs p role.Caret b d e s = absurd (no_first_end n rs p b d s)
more_ends n rs p role.Backslash b d e s = cc
more_ends n rs p role.Dash b d e s = cc
more_ends n rs p role.Misplaced b d e s = cc

after_ends : (n : Bool) (rs : List ByteRange) (p : ClassPlace) (f : ℕ) (m : ClassByteRole) (b : ℕ) (d : ClassReader) → class_role_of b ≡ m → after_step (reader n rs p) f m b ≡ ends d → (b ≡ 93) × (reader n (rs ++ range_of f f ∷ []) p ≡ d)
after_ends n rs p f role.Dash b d e s = cc
after_ends n rs p f role.Close b d e s = more_ends n (rs ++ range_of f f ∷ []) p role.Close b d e s
after_ends n rs p f role.Plain b d e s = more_ends n (rs ++ range_of f f ∷ []) p role.Plain b d e s
after_ends n rs p f role.Caret b d e s = more_ends n (rs ++ range_of f f ∷ []) p role.Caret b d e s
after_ends n rs p f role.Backslash b d e s = cc
after_ends n rs p f role.Misplaced b d e s = cc

-- the class that has ended was left
pub class_ends : (n : Bool) (rs : List ByteRange) (p : ClassPlace) (b : ℕ) (d : ClassReader) → PlaceFit p n rs → place_step (reader n rs p) p b ≡ ends d → (w : List ℕ) → place_rest p n rs d.negated d.ranges (b ∷ w) w
class_ends n rs Open b d fit s w = absurd (no_open_end n rs Open (class_role_of b) b d s)
class_ends n rs Empty b d fit s w = absurd (no_item_end n rs Empty (class_role_of b) b d s)
class_ends n rs Items b d fit s w =
    let k = more_ends n rs Items (class_role_of b) b d refl s in
    subst (λ d. place_rest Items n rs d.negated d.ranges (b ∷ w) w) k.1 (refl, subst (λ x. ItemsRest n rs rs (x ∷ w) w) (sym k.0) (items no_item fit))
class_ends n rs (After f) b d fit s w =
    let k = after_ends n rs (After f) f (class_role_of b) b d refl s in
    subst (λ d. place_rest (After f) n rs d.negated d.ranges (b ∷ w) w) k.1 (refl, subst (λ x. AfterRest n rs f (rs ++ range_of f f ∷ []) (x ∷ w) w) (sym k.0) (alone (items no_item fit.1)))
class_ends n rs (From f) b d fit s w = absurd (no_to_end n rs (From f) f (class_role_of b) b d s)
class_ends n rs (Escape p) b d fit s w = absurd (no_escaped_end n rs (Escape p) (escape_step p b) d s)
class_ends n rs (EscapeTo f p) b d fit s w = absurd (no_escaped_to_end n rs (EscapeTo f p) f (escape_step p b) d s)

letter_free : (w : List ℕ) → NoCaret (97 ∷ w)
letter_free w v e = let f : ◌≡◌ {A = ℕ} 97 94 = ap (λ l. get_or l 0 0) e in omega arith

-- some class goes on from a place
abbrev pub Done : ClassPlace → Bool → List ByteRange → List ℕ → Type 0
Done p n rs v = (w : List ℕ) × (m : Bool) × (ss : List ByteRange) × place_rest p n rs m ss w v

not_within : (c x : ℕ) → (c ≡ x → ⊥) → is_within x (range_of c c) ≡ false
not_within c x ne = false_from_ne_true _ (λ h. let p = and_parts (nat_le c x) (nat_le x c) h in let a = leb-true c x p.0 in let b = leb-true x c p.1 in ne (omega arith))

one_more : (n : Bool) (rs : List ByteRange) → Room n rs → (p : EscapePlace) → EscapeFit p → (v : List ℕ) → (c : ℕ) × (w : List ℕ) × IsEscape c (escape_read p w) v × HasByte n (rs ++ range_of c c ∷ [])
one_more false rs has p fit v = let d = escape_done p fit 0 v in (d.0, d.1, d.2, leaves_has false rs Open d.0 d.0 (omega arith) d.4 refl)
one_more true rs (x, lt, h) p fit v =
    let d = escape_done p fit x v in
    let out : is_covered (rs ++ range_of d.0 d.0 ∷ []) x ≡ false = is_covered-push rs (range_of d.0 d.0) x ∙ or_from (is_covered rs x) _ h (not_within d.0 x d.3) in
    (d.0, d.1, d.2, (x, lt, not_from_false _ out))

digit_to : (n : Bool) (rs : List ByteRange) (f h i : ℕ) → f ≤ 255 → hex_value h ≡ Some i → can_end_with (reader n rs Open) f (16 * i) ≡ true → (v : List ℕ) → Done (EscapeTo f (at.Digit h)) n rs v
digit_to n rs f h i small e can v =
    let t = (if nat_lt f (16 * i) then 16 * i else f) in
    let parts = and_parts (nat_le f (16 * i + 15)) (leaves (reader n rs Open) (range_of f t)) can in
    let high = leb-true f (16 * i + 15) parts.0 in
    let low : f ≤ t = cond_both (nat_lt f (16 * i)) (16 * i) f (λ x. f ≤ x) (λ h. let k = ltb-true f (16 * i) h in omega arith) (λ h. omega arith) in
    let above : 16 * i ≤ t = cond_both (nat_lt f (16 * i)) (16 * i) f (λ x. 16 * i ≤ x) (λ h. omega arith) (λ h. let k = ltb-false f (16 * i) h in omega arith) in
    let below : t ≤ 16 * i + 15 = cond_both (nat_lt f (16 * i)) (16 * i) f (λ x. x ≤ 16 * i + 15) (λ h. omega arith) (λ h. high) in
    let d = digit_done h i (t - 16 * i) e (omega arith) (93 ∷ v) in
    let same : 16 * i + (t - 16 * i) ≡ t = omega arith in
    (d.0, n, rs ++ range_of f t ∷ [], (refl, begun_to (subst (λ x. IsEscape x (92 ∷ 120 ∷ h ∷ d.0) (93 ∷ v)) same d.1) low (items no_item (leaves_has n rs Open f t low small parts.1))))

escape_to_done : (n : Bool) (rs : List ByteRange) (f : ℕ) (p : EscapePlace) → NoDigit p → f ≤ 255 → HasByte n (rs ++ range_of f f ∷ []) → (v : List ℕ) → Done (EscapeTo f p) n rs v
escape_to_done n rs f p free small h v = let d = escape_to_any p free f small (93 ∷ v) in (d.0, n, rs ++ range_of f f ∷ [], (refl, begun_to d.1 (omega arith) (items no_item h)))

pub class_done : (p : ClassPlace) (n : Bool) (rs : List ByteRange) → PlaceFit p n rs → (v : List ℕ) → Done p n rs v
class_done Open n rs fit v =
    let h : HasByte n (rs ++ range_of 97 97 ∷ []) = subst (λ k. HasByte k (rs ++ range_of 97 97 ∷ [])) (sym fit.0) (leaves_has false rs Open 97 97 (omega arith) (omega arith) refl) in
    (97 ∷ 93 ∷ v, n, rs ++ range_of 97 97 ∷ [], keeps (letter_free (93 ∷ v)) (first (plain refl) (alone (items no_item h))))
class_done Empty n rs fit v =
    let g : HasByte true (range_of 97 97 ∷ []) = (0, omega arith, refl) in
    let h : HasByte n (rs ++ range_of 97 97 ∷ []) = subst (λ k. HasByte k (rs ++ range_of 97 97 ∷ [])) (sym fit.0) (subst (λ l. HasByte true (l ++ range_of 97 97 ∷ [])) (sym fit.1) g) in
    (97 ∷ 93 ∷ v, n, rs ++ range_of 97 97 ∷ [], (refl, first (plain refl) (alone (items no_item h))))
class_done Items n rs fit v = (93 ∷ v, n, rs, (refl, items no_item fit))
class_done (After f) n rs fit v = (93 ∷ v, n, rs ++ range_of f f ∷ [], (refl, alone (items no_item fit.1)))
class_done (From f) n rs fit v = let d = escape_to_any at.Start tt f fit.0 (93 ∷ v) in (92 ∷ d.0, n, rs ++ range_of f f ∷ [], (refl, to (escaped d.1) (omega arith) (items no_item fit.1)))
class_done (Escape p) n rs fit v = let d = one_more n rs fit.1 p fit.0 (93 ∷ v) in (d.1, n, rs ++ range_of d.0 d.0 ∷ [], (refl, begun d.2 (alone (items no_item d.3))))
class_done (EscapeTo f at.Start) n rs fit v = escape_to_done n rs f at.Start tt fit.0 fit.1 v
class_done (EscapeTo f at.Hex) n rs fit v = escape_to_done n rs f at.Hex tt fit.0 fit.1 v
class_done (EscapeTo f (at.Digit h)) n rs fit v = digit_to n rs f h fit.2.0 fit.0 fit.2.1 (sym (ap (can_end_digit (reader n rs Open) f) fit.2.1) ∙ fit.3) v
