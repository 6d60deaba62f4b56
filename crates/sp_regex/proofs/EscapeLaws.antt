-- Escapes byte by byte.
use Rattle.std.proofs.Common.{◌≡◌, ℕ, ◌+◌, ◌-◌, ◌*◌, ◌/◌, ◌%◌, ◌<◌, ◌≤◌, ◌&&◌, nat_le, ◌==◌, Bool, true, false, List, ◌∷◌, Option, Some, None, refl, sym, ap, ◌∙◌, ◌⊎◌, inl, inr, subst, arith, if◌then◌else◌}
use Rattle.std.proofs.lemmas.Bool.{cases_Bool, cases_eq, eqb-true, leb-true, leb-false, le-leb, lt-leb, and_parts, and_from, and_right, cond-true, cond-false}
use Rattle.sp_regex.specs.declared.bytes.ByteRole.{ByteRole}
use Rattle.sp_regex.specs.declared.bytes.ByteRole.TheVariants as role
use Rattle.sp_regex.specs.declared.bytes.Escaped.{Escaped}
use Rattle.sp_regex.specs.declared.bytes.Escaped.TheVariants.{Byte, Hex as IsHex, Misplaced}
use Rattle.sp_regex.specs.declared.escape.EscapePlace.{EscapePlace}
use Rattle.sp_regex.specs.declared.escape.EscapePlace.TheVariants.{Start, Hex, Digit}
use Rattle.sp_regex.specs.declared.escape.EscapeStep.TheVariants.{Goes, Ends}
use Rattle.sp_regex.specs.Bytes.{escaped_of, role_of, role_escaped, hex_value, hex_value_of_two, hex_sum}
use Rattle.sp_regex.specs.Escapes.{escape_step, start_step, high_step, low_step}
use Rattle.sp_regex.specs.Syntax.{IsEscape, short, hex}

-- what stands from the start of an escape, where w stands at this place in it
abbrev pub escape_read : EscapePlace → List ℕ → List ℕ
escape_read Start w = 92 ∷ w
escape_read Hex w = 92 ∷ 120 ∷ w
escape_read (Digit h) w = 92 ∷ 120 ∷ h ∷ w

pub two_digits : (x y : Option ℕ) (c : ℕ) → hex_sum x y ≡ Some c → (i : ℕ) × (j : ℕ) × (x ≡ Some i) × (y ≡ Some j) × (c ≡ 16 * i + j)
two_digits (Some i) (Some j) c e = (i, j, refl, refl, cc)
two_digits (Some i) None c e = cc
two_digits None y c e = cc

-- the next byte of an escape is taken
abbrev pub Taken : EscapePlace → ℕ → List ℕ → ℕ → List ℕ → Type 0
Taken p b w c u = ((q : EscapePlace) × (escape_step p b ≡ Goes q) × IsEscape c (escape_read q w) u) ⊎ ((escape_step p b ≡ Ends c) × (w ≡ u))

start_forth : {b c : ℕ} {w u : List ℕ} → IsEscape c (92 ∷ b ∷ w) u → Taken Start b w c u
start_forth (short e) = inr (ap start_step e, refl)
start_forth (hex e) = inl (Hex, refl, hex e)

hex_forth : {b c : ℕ} {w u : List ℕ} → IsEscape c (92 ∷ 120 ∷ b ∷ w) u → Taken Hex b w c u
hex_forth (short e) = cc
hex_forth {b} {c} (hex {low = l} e) = let t = two_digits (hex_value b) (hex_value l) c e in inl (Digit b, ap (λ x. high_step x b) t.2, hex e)

digit_forth : {h b c : ℕ} {w u : List ℕ} → IsEscape c (92 ∷ 120 ∷ h ∷ b ∷ w) u → Taken (Digit h) b w c u
digit_forth (short e) = cc
digit_forth (hex e) = inr (ap low_step e, refl)

pub escape_forth : (p : EscapePlace) (b c : ℕ) (w u : List ℕ) → IsEscape c (escape_read p (b ∷ w)) u → Taken p b w c u
escape_forth Start b c w u r = start_forth r
escape_forth Hex b c w u r = hex_forth r
escape_forth (Digit h) b c w u r = digit_forth r

-- a test picks one of two values
pub picks : {A : Type 0} (t : Bool) (x y z : A) → (if t then x else y) ≡ z → ((t ≡ true) × (x ≡ z)) ⊎ ((t ≡ false) × (y ≡ z))
picks true x y z e = inl (refl, e)
picks false x y z e = inr (refl, e)

not_hex : (m : ByteRole) (b : ℕ) → role_escaped m b ≡ IsHex → ⊥
not_hex role.Plain b e = cc
not_hex m b e = cc

escaped_hex : (b : ℕ) → escaped_of b ≡ IsHex → b ≡ 120
escaped_hex b e = elim (picks (b == 110) _ _ _ e) [
  | inl h ↦ cc
  | inr h ↦
      elim (picks (b == 114) _ _ _ h.1) [
        | inl h ↦ cc
        | inr h ↦
            elim (picks (b == 116) _ _ _ h.1) [
              | inl h ↦ cc
              | inr h ↦
                  elim (picks (b == 120) _ _ _ h.1) [
                    | inl h ↦ eqb-true b 120 h.0
                    | inr h ↦
                        elim (picks (b == 34) _ _ _ h.1) [
                          | inl h ↦ cc
                          | inr h ↦
                              elim (picks (b == 45) _ _ _ h.1) [ inl h ↦ cc | inr h ↦ absurd (not_hex (role_of b) b h.1) ]
                        ]
                  ]
            ]
      ]
]

start_goes : (x : Escaped) (q : EscapePlace) → start_step x ≡ Goes q → (x ≡ IsHex) × (Hex ≡ q)
start_goes IsHex q e = (refl, cc)
start_goes (Byte c) q e = cc
start_goes Misplaced q e = cc

start_ends : (x : Escaped) (c : ℕ) → start_step x ≡ Ends c → x ≡ Byte c
start_ends (Byte d) c e = let f : d ≡ c = cc in ap Byte f
start_ends IsHex c e = cc
start_ends Misplaced c e = cc

high_goes : (x : Option ℕ) (b : ℕ) (q : EscapePlace) → high_step x b ≡ Goes q → Digit b ≡ q
high_goes (Some i) b q e = cc
high_goes None b q e = cc

high_ends : (x : Option ℕ) (b c : ℕ) → high_step x b ≡ Ends c → ⊥
high_ends (Some i) b c e = cc
high_ends None b c e = cc

low_goes : (x : Option ℕ) (q : EscapePlace) → low_step x ≡ Goes q → ⊥
low_goes (Some i) q e = cc
low_goes None q e = cc

low_ends : (x : Option ℕ) (c : ℕ) → low_step x ≡ Ends c → x ≡ Some c
low_ends (Some i) c e = let f : i ≡ c = cc in ap Some f
low_ends None c e = cc

-- what is left behind a byte of an escape makes what is left before it
pub escape_back : (p q : EscapePlace) (b c : ℕ) (w u : List ℕ) → escape_step p b ≡ Goes q → IsEscape c (escape_read q w) u → IsEscape c (escape_read p (b ∷ w)) u
escape_back Start q b c w u e r =
    let h = start_goes (escaped_of b) q e in let g = escaped_hex b h.0 in
    let f : escape_read q w ≡ 92 ∷ b ∷ w = ap (λ p. escape_read p w) (sym h.1) ∙ ap (λ x. 92 ∷ x ∷ w) (sym g) in
    subst (λ v. IsEscape c v u) f r
escape_back Hex q b c w u e r = subst (λ p. IsEscape c (escape_read p w) u) (sym (high_goes (hex_value b) b q e)) r
escape_back (Digit h) q b c w u e r = absurd (low_goes (hex_value_of_two h b) q e)

pub escape_ends : (p : EscapePlace) (b c : ℕ) (w : List ℕ) → escape_step p b ≡ Ends c → IsEscape c (escape_read p (b ∷ w)) w
escape_ends Start b c w e = short (start_ends (escaped_of b) c e)
escape_ends Hex b c w e = absurd (high_ends (hex_value b) b c e)
escape_ends (Digit h) b c w e = hex (low_ends (hex_value_of_two h b) c e)

-- the first digit is one
abbrev pub EscapeFit : EscapePlace → Type 0
EscapeFit (Digit h) = (i : ℕ) × (hex_value h ≡ Some i)
EscapeFit _ = Unit {0}

high_fits : (x : Option ℕ) (b : ℕ) (q : EscapePlace) → hex_value b ≡ x → high_step x b ≡ Goes q → EscapeFit q
high_fits (Some i) b q h e = let f : Digit b ≡ q = cc in subst EscapeFit f (i, h)
high_fits None b q h e = cc

pub escape_fits : (p q : EscapePlace) (b : ℕ) → escape_step p b ≡ Goes q → EscapeFit q
escape_fits Start q b e = subst EscapeFit (start_goes (escaped_of b) q e).1 tt
escape_fits Hex q b e = high_fits (hex_value b) b q refl e
escape_fits (Digit h) q b e = absurd (low_goes (hex_value_of_two h b) q e)

pub hex_below : (b i : ℕ) → hex_value b ≡ Some i → i ≤ 15
hex_below b i e = elim (picks (nat_le 48 b && nat_le b 57) _ _ _ e) [
  | inl h ↦ (let p = and_parts (nat_le 48 b) (nat_le b 57) h.0 in let high = leb-true b 57 p.1 in let f : b - 48 ≡ i = cc in omega arith)
  | inr h ↦ elim (picks (nat_le 97 b && nat_le b 102) _ _ _ h.1) [
    | inl h ↦ (let p = and_parts (nat_le 97 b) (nat_le b 102) h.0 in let high = leb-true b 102 p.1 in let f : b - 97 + 10 ≡ i = cc in omega arith)
    | inr h ↦ elim (picks (nat_le 65 b && nat_le b 70) _ _ _ h.1) [
      | inl h ↦ (let p = and_parts (nat_le 65 b) (nat_le b 70) h.0 in let high = leb-true b 70 p.1 in let f : b - 65 + 10 ≡ i = cc in omega arith)
      | inr h ↦ cc
    ]
  ]
]

marked : (m : ByteRole) (b c : ℕ) → role_escaped m b ≡ Byte c → b ≡ c
marked role.Plain b c e = cc
marked m b c e = cc

escaped_below : (b c : ℕ) → b ≤ 255 → escaped_of b ≡ Byte c → c ≤ 255
escaped_below b c le e = elim (picks (b == 110) _ _ _ e) [
  | inl h ↦ (let f : 10 ≡ c = cc in omega arith)
  | inr h ↦
      elim (picks (b == 114) _ _ _ h.1) [
        | inl h ↦ (let f : 13 ≡ c = cc in omega arith)
        | inr h ↦
            elim (picks (b == 116) _ _ _ h.1) [
              | inl h ↦ (let f : 9 ≡ c = cc in omega arith)
              | inr h ↦
                  elim (picks (b == 120) _ _ _ h.1) [
                    | inl h ↦ cc
                    | inr h ↦
                        elim (picks (b == 34) _ _ _ h.1) [
                          | inl h ↦ (let f : b ≡ c = cc in omega arith)
                          | inr h ↦
                              elim (picks (b == 45) _ _ _ h.1) [
                                | inl h ↦ (let f : b ≡ c = cc in omega arith)
                                | inr h ↦
                                    (let f = marked (role_of b) b c h.1 in omega arith)
                              ]
                        ]
                  ]
            ]
      ]
]

pub escape_below : (p : EscapePlace) (b c : ℕ) → b ≤ 255 → escape_step p b ≡ Ends c → c ≤ 255
escape_below Start b c le e = escaped_below b c le (start_ends (escaped_of b) c e)
escape_below Hex b c le e = absurd (high_ends (hex_value b) b c e)
escape_below (Digit h) b c le e =
    let d = two_digits (hex_value h) (hex_value b) c (low_ends (hex_value_of_two h b) c e) in
    let i = hex_below h d.0 d.2 in let j = hex_below b d.1 d.3 in omega (arith, d.4)

-- the digit of a number
pub hex_digit : (i : ℕ) → i ≤ 15 → (h : ℕ) × (hex_value h ≡ Some i)
hex_digit i le = elim (cases_Bool (nat_le i 9)) [
  | inl h ↦ (48 + i, digit_low i (leb-true i 9 h))
  | inr h ↦ (87 + i, digit_high i (leb-false i 9 h) le)
]
  where
    digit_low : (i : ℕ) → i ≤ 9 → hex_value (48 + i) ≡ Some i
    digit_low i le =
        let e : 48 + i - 48 ≡ i = omega arith in
        let low : nat_le 48 (48 + i) ≡ true = le-leb 48 (48 + i) (omega arith) in
        let high : nat_le (48 + i) 57 ≡ true = le-leb (48 + i) 57 (omega arith) in
        cond-true (nat_le 48 (48 + i) && nat_le (48 + i) 57) _ _ (and_from _ _ low high) ∙ ap Some e

    digit_high : (i : ℕ) → 9 < i → i ≤ 15 → hex_value (87 + i) ≡ Some i
    digit_high i above le =
        let e : 87 + i - 97 + 10 ≡ i = omega arith in
        let out : nat_le (87 + i) 57 ≡ false = lt-leb (87 + i) 57 (omega arith) in
        let low : nat_le 97 (87 + i) ≡ true = le-leb 97 (87 + i) (omega arith) in
        let high : nat_le (87 + i) 102 ≡ true = le-leb (87 + i) 102 (omega arith) in
        cond-false (nat_le 48 (87 + i) && nat_le (87 + i) 57) _ _ (and_right _ _ out)
        ∙ cond-true (nat_le 97 (87 + i) && nat_le (87 + i) 102) _ _ (and_from _ _ low high) ∙ ap Some e

two_of : (h l i j : ℕ) → hex_value h ≡ Some i → hex_value l ≡ Some j → hex_value_of_two h l ≡ Some (16 * i + j)
two_of h l i j e f = ap (λ x. hex_sum x (hex_value l)) e ∙ ap (hex_sum (Some i)) f

-- an escape goes on from its second digit's place to each byte that its first digit begins
pub digit_done : (h i j : ℕ) → hex_value h ≡ Some i → j ≤ 15 → (v : List ℕ) → (w : List ℕ) × IsEscape (16 * i + j) (92 ∷ 120 ∷ h ∷ w) v
digit_done h i j e le v = let l = hex_digit j le in (l.0 ∷ v, hex (two_of h l.0 i j e l.1))

hex_done : (c : ℕ) → c ≤ 255 → (v : List ℕ) → (w : List ℕ) × IsEscape c (92 ∷ 120 ∷ w) v
hex_done c le v =
    let h = hex_digit (c / 16) (omega arith) in let d = digit_done h.0 (c / 16) (c % 16) h.1 (omega arith) v in
    let e : 16 * (c / 16) + c % 16 ≡ c = omega arith in
    (h.0 ∷ d.0, subst (λ x. IsEscape x (92 ∷ 120 ∷ h.0 ∷ d.0) v) e d.1)

-- an escape goes on to any byte where no digit is read
abbrev pub NoDigit : EscapePlace → Type 0
NoDigit (Digit h) = ⊥
NoDigit _ = Unit {0}

pub escape_to_any : (p : EscapePlace) → NoDigit p → (c : ℕ) → c ≤ 255 → (v : List ℕ) → (w : List ℕ) × IsEscape c (escape_read p w) v
escape_to_any Start fit c le v = let d = hex_done c le v in (120 ∷ d.0, d.1)
escape_to_any Hex fit c le v = hex_done c le v
escape_to_any (Digit h) fit c le v = absurd fit

-- an escape goes on to some byte other than x
pub escape_done : (p : EscapePlace) → EscapeFit p → (x : ℕ) (v : List ℕ) → (c : ℕ) × (w : List ℕ) × IsEscape c (escape_read p w) v × (c ≡ x → ⊥) × (c ≤ 255)
escape_done Start fit x v = elim (cases_eq x 0) [
  | inl e ↦ (let d = escape_to_any Start tt 1 (omega arith) v in (1, d.0, d.1, (λ f. omega arith), omega arith))
  | inr ne ↦ (let d = escape_to_any Start tt 0 (omega arith) v in (0, d.0, d.1, (λ f. ne (sym f)), omega arith))
]
escape_done Hex fit x v = elim (cases_eq x 0) [
  | inl e ↦ (let d = escape_to_any Hex tt 1 (omega arith) v in (1, d.0, d.1, (λ f. omega arith), omega arith))
  | inr ne ↦ (let d = escape_to_any Hex tt 0 (omega arith) v in (0, d.0, d.1, (λ f. ne (sym f)), omega arith))
]
escape_done (Digit h) (i, e) x v =
    let le = hex_below h i e in
    elim (cases_eq x (16 * i + 0)) [
      | inl g ↦ (let d = digit_done h i 1 e (omega arith) v in (16 * i + 1, d.0, d.1, (λ f. omega arith), omega arith))
      | inr ne ↦ (let d = digit_done h i 0 e (omega arith) v in (16 * i + 0, d.0, d.1, (λ f. ne (sym f)), omega arith))
    ]
