-- Sets of spots by bits, in words of 64.
use Rattle.std.specs.Prelude.{◌≡◌, ℕ, zero, suc, ◌+◌, ◌*◌, ◌/◌, ◌%◌, ◌<◌, ◌==◌, ◌⊎◌, Bool, true, List, [], ◌∷◌}
use Rattle.std.proofs.Common.{get_or}
use Rattle.std.specs.Int.{bit_at}
use Rattle.std.specs.Global.{Vec}

-- whether a spot is in the set: its bit is that of its place in its word
abbrev pub holds : List ℕ → ℕ → Bool
holds words p = bit_at (get_or words (p / 64) 0) (p % 64) == 1

-- the set of this number
abbrev pub row : List (Vec ℕ) → ℕ → List ℕ
row [] i = []
row (x ∷ xs) zero = x.items
row (x ∷ xs) (suc i) = row xs i

-- the spot to which a spot leads by a byte
abbrev pub led : List ℕ → ℕ → ℕ
led nexts p = get_or nexts p 0

-- every spot that is led to is in one of so many words
abbrev pub LeadsWithin : List ℕ → ℕ → Type 0
LeadsWithin nexts words = (p : ℕ) → led nexts p < 64 * words

-- `next` has exactly what the spots lead to that are live and read the byte
pub record IsStep (live readers : ℕ → Bool) (nexts : List ℕ) (next : ℕ → Bool) : Type 0 where
  pub came : (q : ℕ) → next q ≡ true → (p : ℕ) × (live p ≡ true) × (readers p ≡ true) × (led nexts p ≡ q)
  pub goes : (p : ℕ) → live p ≡ true → readers p ≡ true → next (led nexts p) ≡ true

-- the same for the spots of the first n words
pub record IsStepTo (n : ℕ) (live readers : ℕ → Bool) (nexts : List ℕ) (next : ℕ → Bool) : Type 0 where
  pub came : (q : ℕ) → next q ≡ true → (p : ℕ) × (live p ≡ true) × (readers p ≡ true) × (led nexts p ≡ q)
  pub goes : (p : ℕ) → p / 64 < n → live p ≡ true → readers p ≡ true → next (led nexts p) ≡ true

-- `new` has, besides what `old` has, exactly what the spots of this word lead to
pub record IsWordStep (nexts : List ℕ) (word spots : ℕ) (old new : ℕ → Bool) : Type 0 where
  pub keeps : (q : ℕ) → old q ≡ true → new q ≡ true
  pub came : (q : ℕ) → new q ≡ true → (old q ≡ true) ⊎ ((bit : ℕ) × (bit_at spots bit ≡ 1) × (led nexts (word * 64 + bit) ≡ q))
  pub goes : (bit : ℕ) → bit_at spots bit ≡ 1 → new (led nexts (word * 64 + bit)) ≡ true

-- the same, where the bits of `rest` are still to come
pub record IsWordTurn (nexts : List ℕ) (word spots rest : ℕ) (old new : ℕ → Bool) : Type 0 where
  pub keeps : (q : ℕ) → old q ≡ true → new q ≡ true
  pub came : (q : ℕ) → new q ≡ true → (old q ≡ true) ⊎ ((bit : ℕ) × (bit_at spots bit ≡ 1) × (led nexts (word * 64 + bit) ≡ q))
  pub goes : (bit : ℕ) → bit_at spots bit ≡ 1 → bit_at rest bit ≡ 0 → new (led nexts (word * 64 + bit)) ≡ true
  pub within : (bit : ℕ) → bit_at rest bit ≡ 1 → bit_at spots bit ≡ 1
