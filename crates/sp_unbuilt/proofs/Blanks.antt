-- White space and comments, byte by byte.
use Rattle.std.specs.Prelude.{if◌then◌else◌}
use Rattle.std.proofs.Common.{ℕ, zero, suc, ◌≡◌, ◌+◌, ◌<◌, ◌≤◌, Bool, true, false, List, [], ◌∷◌, length, get_or, drop, refl, ap, ◌∙◌, arith}
use Rattle.std.proofs.lemmas.List.{at_drop_more}
use Rattle.sp_unbuilt.specs.Next.{is_blank, goes_on, next_in}

-- what follows where a byte belongs to white space or to a comment, or not
after : (comment blank : Bool) (place byte : ℕ) (text : List ℕ) → is_blank comment byte ≡ blank → next_in comment place (byte ∷ text) ≡ (if blank then next_in (goes_on comment byte) (place + 1) text else place)
after comment blank place byte text e = ap (λ b. if b then next_in (goes_on comment byte) (place + 1) text else place) e

pub pass_blank : (text : List ℕ) (place : ℕ) (comment : Bool) → place < length text → is_blank comment (get_or text place 0) ≡ true → next_in comment place (drop place text) ≡ next_in (goes_on comment (get_or text place 0)) (place + 1) (drop (place + 1) text)
pass_blank text place comment lt e = at_drop_more (next_in comment place) text place 0 lt ∙ after comment true place (get_or text place 0) (drop (place + 1) text) e

pub stop_here : (text : List ℕ) (place : ℕ) (comment : Bool) → place < length text → is_blank comment (get_or text place 0) ≡ false → next_in comment place (drop place text) ≡ place
stop_here text place comment lt e = at_drop_more (next_in comment place) text place 0 lt ∙ after comment false place (get_or text place 0) (drop (place + 1) text) e

pub at_text_end : (text : List ℕ) (place : ℕ) (comment : Bool) → length text ≤ place → next_in comment place (drop place text) ≡ place
at_text_end text place comment le = ap (next_in comment place) (none_left text place le)
  where
    none_left : (xs : List ℕ) (n : ℕ) → length xs ≤ n → drop n xs ≡ []
    none_left [] zero h = refl
    none_left [] (suc n) h = refl
    none_left (x ∷ xs) zero h = absurd (let z : ⊥ = omega (arith, h) in z)
    none_left (x ∷ xs) (suc n) h = none_left xs n (omega (arith, h))
