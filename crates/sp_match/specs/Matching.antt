-- What the bytes so far tell of a token set: the verdict.
use Rattle.std.specs.Prelude.{◌≡◌, ℕ, ◌<◌, ◌≤◌, ◌++◌, ◌⊎◌, Bool, true, false, List, [], ◌∷◌, length, take, Option, Some, None}
use Rattle.std.proofs.Common.{get_or}
use Rattle.sp_regex.specs.Trees.{Syntax, literal, empty}
use Rattle.sp_regex.specs.Language.{InL}
use Rattle.sp_match.specs.declared.verdict.Verdict.{Verdict}
use Rattle.sp_match.specs.declared.verdict.Verdict.TheVariants as verdict

-- the member of this number has the word
abbrev pub HasWord : List Syntax → ℕ → List ℕ → Type 0
HasWord tokens i w = (i < length tokens) × InL (get_or tokens i empty) w

-- a literal, and no regular expression that was read from a text
abbrev pub is_literal : Syntax → Bool
is_literal (literal bytes) = true
is_literal _ = false

abbrev pub kind : List Syntax → ℕ → Bool
kind tokens i = is_literal (get_or tokens i empty)

-- Of two matches of one length, that of the member i is taken before that of the member j: a literal before a
-- regular expression, and of two of a kind the earlier one.
abbrev pub Before : List Syntax → ℕ → ℕ → Type 0
Before tokens i j = ((kind tokens i ≡ true) × (kind tokens j ≡ false)) ⊎ ((kind tokens i ≡ kind tokens j) × (i ≤ j))

-- some longer word that begins with these bytes is in a member
abbrev pub CanGrow : List Syntax → List ℕ → Type 0
CanGrow tokens w = (i : ℕ) × (b : ℕ) × (t : List ℕ) × HasWord tokens i (w ++ b ∷ t)

-- The member i has the first n bytes, no member has more of them, and of those that have these n it is the first
-- by the rule above.
pub record IsBest (tokens : List Syntax) (w : List ℕ) (i n : ℕ) : Type 0 where
  pub within : n ≤ length w
  pub matches : HasWord tokens i (take n w)
  pub longest : (j m : ℕ) → m ≤ length w → HasWord tokens j (take m w) → m ≤ n
  pub first : (j : ℕ) → HasWord tokens j (take n w) → Before tokens i j

-- no member has bytes from the front
abbrev pub NoMatch : List Syntax → List ℕ → Type 0
NoMatch tokens w = (j m : ℕ) → m ≤ length w → HasWord tokens j (take m w) → ⊥

-- nothing more can come, or nothing that comes can make a longer match
abbrev pub Settled : List Syntax → List ℕ → Bool → Type 0
Settled tokens w ended = (ended ≡ true) ⊎ (CanGrow tokens w → ⊥)

-- The verdict on the bytes w: to wait exactly where more may come and some longer word could match; else the
-- longest match, or that there is none.
abbrev pub IsVerdict : List Syntax → List ℕ → Bool → Verdict → Type 0
IsVerdict tokens w ended verdict.Need = (ended ≡ false) × CanGrow tokens w
IsVerdict tokens w ended (verdict.Match i n) = Settled tokens w ended × IsBest tokens w i n
IsVerdict tokens w ended verdict.None = Settled tokens w ended × NoMatch tokens w

-- no member has the empty word
abbrev pub NoneEmpty : List Syntax → Type 0
NoneEmpty tokens = (i : ℕ) → HasWord tokens i [] → ⊥

-- the best match, if there is one
abbrev pub BestSoFar : List Syntax → List ℕ → Option (ℕ × ℕ) → Type 0
BestSoFar tokens w (Some best) = IsBest tokens w best.0 best.1
BestSoFar tokens w None = NoMatch tokens w

-- a verdict that doesn't wait
abbrev pub IsTaken : Verdict → Type 0
IsTaken verdict.Need = ⊥
IsTaken _ = Unit {0}
