-- The jumps of an automaton by words. For private functions.
use Rattle.std.specs.Prelude.{◌≡◌, ℕ, zero, suc, ◌+◌, ◌*◌, ◌/◌, ◌%◌, ◌<◌, ◌≤◌, ◌==◌, ◌||◌, ◌&&◌, Bool, false, List, [], ◌∷◌, length}
use Rattle.std.proofs.Common.{get_or}
use Rattle.std.specs.Int.{bit_at}
use Rattle.std.specs.Global.{Vec}
use Rattle.sp_match.specs.declared.spot.Spot.{Spot}
use Rattle.sp_match.specs.declared.word_jumps.WordJump.{WordJump}
use Rattle.sp_match.specs.Nets.{at, jumps}

-- the spot q is that of this place in this word
abbrev pub in_word : ℕ → ℕ → ℕ → Bool
in_word q word place = (q / 64 == word) && (q % 64 == place)

-- the spot q is among those of a jump
abbrev pub is_target : WordJump → ℕ → Bool
is_target x q = (q / 64 == x.word) && (bit_at x.spots (q % 64) == 1)

-- some jump leads from the spot of this place to the spot q
abbrev pub lead : List WordJump → ℕ → ℕ → Bool
lead [] bit q = false
lead (x ∷ xs) bit q = (is_target x q && (bit == x.bit)) || lead xs bit q

-- the jump of this number
abbrev pub jump_of : List WordJump → ℕ → WordJump
jump_of list j = get_or list j (record { bit = 0; word = 0; spots = 0 })

-- the place from which it jumps
abbrev pub bit_of : List WordJump → ℕ → ℕ
bit_of list j = (jump_of list j).bit

-- The jumps stand in the order of their places, none of which is behind `most`.
pub record IsRising (list : List WordJump) (most : ℕ) : Type 0 where
  pub rises : (i j : ℕ) → i ≤ j → j < length list → bit_of list i ≤ bit_of list j
  pub within : (j : ℕ) → bit_of list j ≤ most

-- These are the jumps of the spots of one word.
pub record AreWordJumps (net : List Spot) (word : ℕ) (list : List WordJump) : Type 0 where
  pub are : (bit q : ℕ) → bit < 64 → lead list bit q ≡ jumps (at net (word * 64 + bit)) q
  pub rising : IsRising list 63

-- the jumps of this word
abbrev pub of_word : List (Vec WordJump) → ℕ → List WordJump
of_word [] word = []
of_word (x ∷ xs) zero = x.items
of_word (x ∷ xs) (suc word) = of_word xs word

-- for each word the jumps of its spots
abbrev pub AreJumps : List Spot → List (Vec WordJump) → Type 0
AreJumps net all = (word : ℕ) → AreWordJumps net word (of_word all word)
