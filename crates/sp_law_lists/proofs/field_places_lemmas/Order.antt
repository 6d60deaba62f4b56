-- The places of tokens that stand in order.
use Rattle.std.proofs.Common.{ℕ, zero, suc, ◌≡◌, ◌≤◌, ◌<◌, refl, sym, subst, arith, List, [], ◌∷◌, length, inl, inr}
use Rattle.std.proofs.lemmas.Bool.{cases_lt}
use Rattle.sp_lex.specs.Readings.{InOrder}
use Rattle.sp_lex.specs.declared.tokens.Token.{Token}
use Rattle.sp_build.specs.Building.{token_of, end_before}

-- where the token before a place ends, or where the first one may begin
abbrev end_from : ℕ → List Token → ℕ → ℕ
end_from at tokens zero = at
end_from at tokens (suc n) = (token_of tokens n).span.to

next_end : (at : ℕ) (t : Token) (ts : List Token) (n : ℕ) → end_from at (t ∷ ts) (suc n) ≡ end_from t.span.to ts n
next_end at t ts zero = refl
next_end at t ts (suc n) = refl

-- a token has bytes, and begins behind the one before it
token_from : (at : ℕ) (tokens : List Token) (end n : ℕ) → InOrder at tokens end → n < length tokens → (end_from at tokens n ≤ (token_of tokens n).span.from) × ((token_of tokens n).span.from < (token_of tokens n).span.to)
token_from at [] end n order lt = absurd (let z : ⊥ = omega (arith, lt) in z)
token_from at (t ∷ ts) end zero order lt = (order.0, order.1)
token_from at (t ∷ ts) end (suc n) order lt =
    let rest = token_from t.span.to ts end n order.2 (omega (arith, lt)) in
    (subst (λ k. k ≤ (token_of ts n).span.from) (sym (next_end at t ts n)) rest.0, rest.1)

same_end : (tokens : List Token) (n : ℕ) → end_from 0 tokens n ≡ end_before tokens n
same_end tokens zero = refl
same_end tokens (suc n) = refl

-- where a token stands
pub record IsPlaced (tokens : List Token) (n : ℕ) : Type 0 where
  pub behind : end_before tokens n ≤ (token_of tokens n).span.from
  pub before : (token_of tokens n).span.from < end_before tokens (suc n)

pub token_placed : (tokens : List Token) (end n : ℕ) → InOrder 0 tokens end → n < length tokens → IsPlaced tokens n
token_placed tokens end n order lt =
    let p = token_from 0 tokens end n order lt in
    record { behind = subst (λ k. k ≤ (token_of tokens n).span.from) (same_end tokens n) p.0; before = p.1 }

pub next_later : (tokens : List Token) (n : ℕ) → IsPlaced tokens n → end_before tokens n ≤ end_before tokens (suc n)
next_later tokens n p = (let a = p.behind in let b = p.before in omega (arith, a, b))

-- what ends before a token ends before a later one
pub ends_later : (tokens : List Token) (end : ℕ) → InOrder 0 tokens end → (n m : ℕ) → n ≤ m → m ≤ length tokens → end_before tokens n ≤ end_before tokens m
ends_later tokens end order n zero le in_list = (let z : n ≡ 0 = omega (arith, le) in subst (λ k. end_before tokens k ≤ 0) (sym z) (let y : 0 ≤ 0 = omega arith in y))
ends_later tokens end order n (suc m) le in_list = by (ends_later tokens end order n m)
  where
    placed : IsPlaced tokens m
    placed = token_placed tokens end m order (omega (arith, in_list))

    by : (n ≤ m → m ≤ length tokens → end_before tokens n ≤ end_before tokens m) → end_before tokens n ≤ end_before tokens (suc m)
    by earlier = elim (cases_lt n (suc m)) [
      | inl low ↦ (let a = earlier (omega (arith, low)) (omega (arith, in_list)) in let b = next_later tokens m placed in omega (arith, a, b))
      | inr high ↦ (let z : n ≡ suc m = omega (arith, high, le) in subst (λ j. end_before tokens n ≤ end_before tokens j) z (let y : end_before tokens n ≤ end_before tokens n = omega arith in y))
    ]
