-- The definition of the verdict, run on small sets.
use Rattle.std.proofs.Common.{◌≡◌, ℕ, zero, suc, ◌<◌, ◌≤◌, ◌++◌, ◌&&◌, Bool, true, false, List, [], ◌∷◌, Some, None, length, take, get_or, refl, ap, ◌∙◌, inl, inr, arith}
use Rattle.sp_regex.specs.Trees.{Syntax, byte, class, empty, followed, never, either, repeat, literal, range_of}
use Rattle.sp_regex.specs.Syntax.{belongs}
use Rattle.sp_regex.specs.Language.{InL, Times}
use Rattle.sp_match.specs.Matching.{HasWord, Before, IsVerdict}
use Rattle.sp_match.specs.declared.verdict.Verdict.TheVariants as verdict
use Rattle.sp_match.proofs.Compiling.{and_true, not_both}

-- a set of one member
only_member : (r : Syntax) (j : ℕ) (w : List ℕ) → HasWord (r ∷ []) j w → InL r w
only_member r zero w h = h.1
only_member r (suc j) w h = absurd (let lt = h.0 in omega arith)

is_first : (r : Syntax) (j : ℕ) → j < 1 → Before (r ∷ []) 0 j
is_first r zero lt = inr (refl, omega arith)
is_first r (suc j) lt = absurd (omega arith)

-- a|ab
abbrev a : Syntax
a = followed empty (byte 97)

abbrev ab : Syntax
ab = followed a (byte 98)

abbrev a_or_ab : Syntax
a_or_ab = either (either never a) ab

has_a : InL a (97 ∷ [])
has_a = ([], 97 ∷ [], refl, refl, refl)

has_ab : InL ab (97 ∷ 98 ∷ [])
has_ab = (97 ∷ [], 98 ∷ [], refl, has_a, refl)

-- on a there is a match, but ab would be a longer one
waits_for_ab : IsVerdict (a_or_ab ∷ []) (97 ∷ []) false verdict.Need
waits_for_ab = (refl, (0, 98, [], (omega arith, inr has_ab)))

-- where the input has ended it is a
ends_with_a : IsVerdict (a_or_ab ∷ []) (97 ∷ []) true (verdict.Match 0 1)
ends_with_a = (
  inl refl,
  record {
    within = omega arith;
    matches = (omega arith, inl (inr has_a));
    longest = λ j m le _. le;
    first = λ j h. is_first a_or_ab j h.0;
  },
)

-- and on ab it is ab
takes_ab : IsVerdict (a_or_ab ∷ []) (97 ∷ 98 ∷ []) true (verdict.Match 0 2)
takes_ab = (
  inl refl,
  record {
    within = omega arith;
    matches = (omega arith, inr has_ab);
    longest = λ j m le _. le;
    first = λ j h. is_first a_or_ab j h.0;
  },
)

-- [0-9]+
abbrev digit : Syntax
digit = class false (range_of 48 57 ∷ [])

abbrev number : Syntax
number = repeat 1 None digit

abbrev all_digits : List ℕ → Bool
all_digits [] = true
all_digits (b ∷ w) = belongs false (range_of 48 57 ∷ []) b && all_digits w

only_digits : (n : ℕ) (w : List ℕ) → Times n (InL digit) w → all_digits w ≡ true
only_digits zero w e = ap all_digits e
only_digits (suc n) w h =
    let b = h.3.0 in
    ap all_digits (h.2 ∙ ap (λ z. z ++ h.1) h.3.3) ∙ and_true (belongs false (range_of 48 57 ∷ []) b) (all_digits h.1) h.3.2 (only_digits n h.1 h.4)

no_number : (w : List ℕ) → all_digits w ≡ false → InL number w → ⊥
no_number w e h = not_both (only_digits h.0 w h.3) e

has_12 : InL number (49 ∷ 50 ∷ [])
has_12 = (2, omega arith, tt, (49 ∷ [], 50 ∷ [], refl, (49, omega arith, refl, refl), (50 ∷ [], [], refl, (50, omega arith, refl, refl), refl)))

has_123 : InL number (49 ∷ 50 ∷ 51 ∷ [])
has_123 = (3, omega arith, tt, (49 ∷ [], 50 ∷ 51 ∷ [], refl, (49, omega arith, refl, refl), (50 ∷ [], 51 ∷ [], refl, (50, omega arith, refl, refl), (51 ∷ [], [], refl, (51, omega arith, refl, refl), refl))))

-- on 12 another digit may come
waits_for_digits : IsVerdict (number ∷ []) (49 ∷ 50 ∷ []) false verdict.Need
waits_for_digits = (refl, (0, 51, [], (omega arith, has_123)))

no_longer : (m : ℕ) → m ≤ 3 → InL number (take m (49 ∷ 50 ∷ 59 ∷ [])) → m ≤ 2
no_longer zero le h = omega arith
no_longer (suc zero) le h = omega arith
no_longer (suc (suc zero)) le h = omega arith
no_longer (suc (suc (suc zero))) le h = absurd (no_number (49 ∷ 50 ∷ 59 ∷ []) refl h)
no_longer (suc (suc (suc (suc m)))) le h = absurd (omega arith)

-- a semicolon behind it settles that it is 12
takes_12 : IsVerdict (number ∷ []) (49 ∷ 50 ∷ 59 ∷ []) false (verdict.Match 0 2)
takes_12 = (
  inr (λ g. no_number (49 ∷ 50 ∷ 59 ∷ g.1 ∷ g.2) refl (only_member number g.0 (49 ∷ 50 ∷ 59 ∷ g.1 ∷ g.2) g.3)),
  record {
    within = omega arith;
    matches = (omega arith, has_12);
    longest = λ j m le h. no_longer m le (only_member number j (take m (49 ∷ 50 ∷ 59 ∷ [])) h);
    first = λ j h. is_first number j h.0;
  },
)

-- the literal AB, and A[0-9]
abbrev a_digit : Syntax
a_digit = followed (followed empty (byte 65)) digit

abbrev two : List Syntax
two = literal (65 ∷ 66 ∷ []) ∷ a_digit ∷ []

has_a7 : InL a_digit (65 ∷ 55 ∷ [])
has_a7 = (65 ∷ [], 55 ∷ [], refl, ([], 65 ∷ [], refl, refl, refl), (55, omega arith, refl, refl))

two_long : (w : List ℕ) → InL a_digit w → length w ≡ 2
two_long w h = ap length (h.2 ∙ ap (λ z. z ++ h.1) (h.3.2 ∙ ap (λ z. z ++ h.3.1) h.3.3 ∙ h.3.4) ∙ ap (λ z. (65 ∷ []) ++ z) h.4.3)

-- on A each of them may come
waits_for_second : IsVerdict two (65 ∷ []) false verdict.Need
waits_for_second = (refl, (0, 66, [], (omega arith, refl)))

is_full : (j b : ℕ) (t : List ℕ) → HasWord two j (65 ∷ 55 ∷ b ∷ t) → ⊥
is_full zero b t h = absurd (let e = ap length h.1 in omega arith)
is_full (suc zero) b t h = absurd (let e = two_long (65 ∷ 55 ∷ b ∷ t) h.1 in omega arith)
is_full (suc (suc j)) b t h = absurd (let lt = h.0 in omega arith)

second_first : (j : ℕ) → HasWord two j (65 ∷ 55 ∷ []) → Before two 1 j
second_first zero h = absurd (let e = ap (λ z. get_or z 1 0) h.1 in omega arith)
second_first (suc zero) h = inr (refl, omega arith)
second_first (suc (suc j)) h = absurd (let lt = h.0 in omega arith)

-- on A7 it is the second, and nothing longer can come
takes_second : IsVerdict two (65 ∷ 55 ∷ []) false (verdict.Match 1 2)
takes_second = (
  inr (λ g. is_full g.0 g.1 g.2 g.3),
  record {
    within = omega arith;
    matches = (omega arith, has_a7);
    longest = λ j m le _. le;
    first = λ j h. second_first j h;
  },
)

-- a literal goes before a regular expression of the same word, though that is the earlier member
abbrev tie : List Syntax
tie = ab ∷ literal (97 ∷ 98 ∷ []) ∷ []

literal_first : (j : ℕ) → HasWord tie j (97 ∷ 98 ∷ []) → Before tie 1 j
literal_first zero h = inl (refl, refl)
literal_first (suc zero) h = inr (refl, omega arith)
literal_first (suc (suc j)) h = absurd (let lt = h.0 in omega arith)

takes_literal : IsVerdict tie (97 ∷ 98 ∷ []) true (verdict.Match 1 2)
takes_literal = (
  inl refl,
  record {
    within = omega arith;
    matches = (omega arith, refl);
    longest = λ j m le _. le;
    first = λ j h. literal_first j h;
  },
)

-- a{2,3} on aa waits for a third
waits_for_third : IsVerdict (repeat 2 (Some 3) (byte 97) ∷ []) (97 ∷ 97 ∷ []) false verdict.Need
waits_for_third = (refl, (0, 97, [], (omega arith, (3, omega arith, omega arith, (97 ∷ [], 97 ∷ 97 ∷ [], refl, refl, (97 ∷ [], 97 ∷ [], refl, refl, (97 ∷ [], [], refl, refl, refl)))))))

no_front : (m : ℕ) → m ≤ 1 → take {A = ℕ} m (120 ∷ []) ≡ 97 ∷ 98 ∷ [] → ⊥
no_front zero le e = absurd (let k = ap length e in omega arith)
no_front (suc zero) le e = absurd (let k = ap length e in omega arith)
no_front (suc (suc m)) le e = absurd (omega arith)

-- on x there is nothing
takes_nothing : IsVerdict (literal (97 ∷ 98 ∷ []) ∷ []) (120 ∷ []) true verdict.None
takes_nothing = (inl refl, λ j m le h. no_front m le (only_member (literal (97 ∷ 98 ∷ [])) j (take m (120 ∷ [])) h))
