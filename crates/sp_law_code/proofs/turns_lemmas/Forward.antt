-- Code that leads only further on, how such code is put together, and that its heights fall.
use Rattle.std.proofs.Common.{◌≡◌, ℕ, zero, suc, ◌+◌, ◌<◌, ◌≤◌, List, [], ◌∷◌, ◌++◌, length, refl, sym, subst, arith, length-append, eq-or-lt_of_le, inl, inr}
use Rattle.std.specs.Prelude.{◌⊎◌}
use Rattle.sp_code.specs.Turns.{AreLower}
use Rattle.sp_code_programs.specs.exprs.Marked.{Marked}
use Rattle.sp_law_code.specs.turns.Falling.{leads_to, HaveHeights, AllFall}
use Rattle.sp_law_code.specs.turns.Heights.{falling}

-- each of these addresses is past one, and no further than another
abbrev pub AreAhead : ℕ → ℕ → List ℕ → Type 0
AreAhead pc end [] = Unit {0}
AreAhead pc end (to ∷ tos) = (pc < to) × (to ≤ end) × AreAhead pc end tos

-- each instruction of code leads only further on, and no more than so many addresses past its end
abbrev pub IsForward : ℕ → ℕ → List Marked → Type 0
IsForward past pc [] = Unit {0}
IsForward past pc (m ∷ ms) = AreAhead pc (pc + 1 + length ms + past) (leads_to m.wanted pc) × IsForward past (pc + 1) ms

-- an instruction that leads to the next one
pub to_next : (pc n past : ℕ) → AreAhead pc (pc + 1 + n + past) ((pc + 1) ∷ [])
to_next pc n past = (omega arith, omega arith, tt)

further : (tos : List ℕ) (pc end more : ℕ) → end ≤ more → AreAhead pc end tos → AreAhead pc more tos
further [] pc end more l h = tt
further (to ∷ tos) pc end more l h = (h.0, omega (arith, l, h.1), further tos pc end more l h.2)

pub forward_at : (at pc past : ℕ) (ms : List Marked) → at ≡ pc → IsForward past at ms → IsForward past pc ms
forward_at at pc past ms e h = subst (λ n. IsForward past n ms) e h

-- one piece behind another, of which the first has this size
pub then_forward : (past pc n : ℕ) (a b : List Marked) → length a ≡ n → IsForward 0 pc a → IsForward past (pc + n) b → IsForward past pc (a ++ b)
then_forward past pc n [] b e f g = forward_at (pc + n) pc past b (omega (arith, e)) g
then_forward past pc n (m ∷ a) b e f g = (
  further (leads_to m.wanted pc) pc (pc + 1 + length a + 0) (pc + 1 + length (a ++ b) + past) (omega (arith, length-append {A = Marked})) f.0,
  then_forward past (pc + 1) (length a) a b refl f.1 (forward_at (pc + n) (pc + 1 + length a) past b (omega (arith, e)) g),
)

-- a piece of code falls where each of its instructions does
pub fall_both : (height : ℕ → ℕ) (pc n : ℕ) (a b : List Marked) → length a ≡ n → AllFall height pc a → AllFall height (pc + n) b → AllFall height pc (a ++ b)
fall_both height pc n [] b e f g = let q : pc + n ≡ pc = omega (arith, e) in subst (λ i. AllFall height i b) q g
fall_both height pc n (m ∷ a) b e f g =
    let q : pc + n ≡ pc + 1 + length a = omega (arith, e) in
    (f.0, fall_both height (pc + 1) (length a) a b refl f.1 (subst (λ i. AllFall height i b) q g))

pub heights_front : (height : ℕ → ℕ) (pc : ℕ) (hs gs : List ℕ) → HaveHeights height pc (hs ++ gs) → HaveHeights height pc hs
heights_front height pc [] gs h = tt
heights_front height pc (k ∷ hs) gs h = (h.0, heights_front height (pc + 1) hs gs h.1)

pub heights_back : (height : ℕ → ℕ) (pc n : ℕ) (hs gs : List ℕ) → length hs ≡ n → HaveHeights height pc (hs ++ gs) → HaveHeights height (pc + n) gs
heights_back height pc n [] gs e h = let q : pc ≡ pc + n = omega (arith, e) in subst (λ i. HaveHeights height i gs) q h
heights_back height pc n (k ∷ hs) gs e h =
    let q : pc + 1 + length hs ≡ pc + n = omega (arith, e) in
    subst (λ i. HaveHeights height i gs) q (heights_back height (pc + 1) (length hs) hs gs refl h.1)

pub falling_counted : (base n : ℕ) → length (falling base n) ≡ n
falling_counted base zero = refl
falling_counted base (suc n) = omega (arith, falling_counted base n)

module _ (height : ℕ → ℕ) where
  -- what is ahead in such code, or past it, is low
  low_ahead : (n past pc base : ℕ) → HaveHeights height pc (falling base n) → ((to : ℕ) → pc + n ≤ to → to ≤ pc + n + past → height to ≤ base) → (to : ℕ) → pc ≤ to → to ≤ pc + n + past
      → height to ≤ base + n
  low_ahead zero past pc base h low to l m = let k = low to (omega (arith, l)) (omega (arith, m)) in omega (arith, k)
  low_ahead (suc n) past pc base h low to l m =
      by_place (eq-or-lt_of_le l) (λ b. low_ahead n past (pc + 1) base h.1 (λ to l m. low to (omega (arith, l)) (omega (arith, m))) to (omega (arith, b)) (omega (arith, m)))
    where
      by_place : (pc ≡ to) ⊎ (pc < to) → (pc < to → height to ≤ base + n) → height to ≤ base + suc n
      by_place (inl e) rest = subst (λ q. height q ≤ base + suc n) e (omega (arith, h.0))
      by_place (inr b) rest = let k = rest b in omega (arith, k)

  are_lower : (tos : List ℕ) (pc end h k : ℕ) → k < h → ((to : ℕ) → pc < to → to ≤ end → height to ≤ k) → AreAhead pc end tos → AreLower height h tos
  are_lower [] pc end h k l low f = tt
  are_lower (to ∷ tos) pc end h k l low f = (omega (arith, low to f.0 f.1), are_lower tos pc end h k l low f.2)

  forward_falls : (ms : List Marked) (past pc base : ℕ) → IsForward past pc ms → ((to : ℕ) → pc + length ms ≤ to → to ≤ pc + length ms + past → height to ≤ base) → HaveHeights height pc (falling base (length ms))
      → AllFall height pc ms
  forward_falls [] past pc base f low h = tt
  forward_falls (m ∷ ms) past pc base f low h =
      let behind : (to : ℕ) → pc + 1 + length ms ≤ to → to ≤ pc + 1 + length ms + past → height to ≤ base = λ to l m. low to (omega (arith, l)) (omega (arith, m)) in (
        are_lower (leads_to m.wanted pc) pc (pc + 1 + length ms + past) (height pc) (base + length ms) (omega (arith, h.0))
            (λ to l m. low_ahead (length ms) past (pc + 1) base h.1 behind to (omega (arith, l)) (omega (arith, m)))
            f.0,
        forward_falls ms past (pc + 1) base f.1 behind h.1,
      )

  -- Code that leads only further on falls, where all behind it to which it may lead is low. This is of a size, and begins no higher than
  -- that.
  pub past_falls : (past pc base n : ℕ) (ms : List Marked) → length ms ≡ n → IsForward past pc ms → ((to : ℕ) → pc + n ≤ to → to ≤ pc + n + past → height to ≤ base)
      → HaveHeights height pc (falling base n) → AllFall height pc ms × (height pc ≤ base + n)
  past_falls past pc base n ms e f low h = (
    forward_falls ms past pc base f (λ to l m. low to (omega (arith, l, e)) (omega (arith, m, e))) (subst (λ n. HaveHeights height pc (falling base n)) (sym e) h),
    low_ahead n past pc base h low pc (omega arith) (omega arith),
  )

  -- where it leads no further than to its end, the address behind it alone
  pub straight_falls : (pc base n : ℕ) (ms : List Marked) → length ms ≡ n → IsForward 0 pc ms → height (pc + n) ≤ base → HaveHeights height pc (falling base n)
      → AllFall height pc ms × (height pc ≤ base + n)
  straight_falls pc base n ms e f low h = past_falls 0 pc base n ms e f (λ to l m. let q : pc + n ≡ to = omega (arith, l, m) in subst (λ i. height i ≤ base) q low) h
