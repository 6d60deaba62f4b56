-- What a search was told, and where it stands.
use Rattle.std.specs.Prelude.{◌≡◌, ℕ, ◌+◌, ◌<◌, ◌≤◌, ◌⊎◌, Bool, true, false, List, [], length, take, drop}
use Rattle.sp_regex.specs.Trees.{Syntax}
use Rattle.sp_match.specs.declared.matcher.Matcher.{Matcher}
use Rattle.sp_match.specs.Matching.{CanGrow, NoMatch}
use Rattle.sp_match.specs.Sizes.{HasRead}
use Rattle.sp_sync.specs.declared.found.Found.{Found}
use Rattle.sp_sync.specs.declared.found.Found.TheVariants as found
use Rattle.sp_sync.specs.declared.search.Search.{Search}
use Rattle.sp_sync.specs.Places.{HasToken, FailBefore, IsPlace}

-- the place that is asked
abbrev pub start_of : Search → ℕ
start_of s = s.attempt.start

-- the place of the byte that is needed next
abbrev pub wants_of : Search → ℕ
wants_of s = s.attempt.wants

abbrev pub found_of : Search → Found
found_of s = s.found

-- What is found so far, by the bytes w that were given from the present start on: the start, where a token begins
-- with them; nothing, where none does yet, and one may; or that the start is the end of the ended view.
abbrev pub Stands : List Syntax → List ℕ → Bool → ℕ → List ℕ → ℕ → Found → Type 0
Stands tokens d ended passed w start (found.At k) = (k ≡ start) × (passed < length d) × HasToken tokens w
Stands tokens d ended passed w start found.Need = NoMatch tokens w × (CanGrow tokens w ⊎ (w ≡ []))
Stands tokens d ended passed w start found.Nowhere = (ended ≡ true) × (passed ≡ length d)

-- Of a search for these members from the place `from` on, all that it was told is of the data `d`: each byte that was
-- given is theirs at its place, and if an end was told the view has ended behind them. The places before the present
-- start have failed by them, and the bytes from there up to the wanted place were given since.
pub record PartsTold (m : Matcher) (start wants : ℕ) (now : Found) (tokens : List Syntax) (from : ℕ) (d : List ℕ) (ended : Bool) : Type 0 where
  pub passed : ℕ
  pub read : ℕ
  pub starts : start ≡ from + passed
  pub wanted : wants ≡ start + read
  pub within : passed + read ≤ length d
  pub failed : FailBefore tokens d ended passed
  pub given : HasRead m tokens (take read (drop passed d))
  pub stands : Stands tokens d ended passed (take read (drop passed d)) start now

-- all that the search was told is of these data
abbrev pub HasTold : Search → List Syntax → ℕ → List ℕ → Bool → Type 0
HasTold s tokens from d ended = PartsTold s.attempt.matcher s.attempt.start s.attempt.wants s.found tokens from d ended

-- the bytes w are those that were given from the present start on
abbrev pub HasGiven : Search → List Syntax → List ℕ → Type 0
HasGiven s tokens w = HasRead s.attempt.matcher tokens w

-- What a byte does, where w are all bytes given from the present start on: a token begins there; or more bytes are
-- wanted; or it fails, and the next place is asked from its own byte on.
abbrev pub IsStep : List Syntax → List ℕ → ℕ → ℕ → ℕ → ℕ → Found → Type 0
IsStep tokens w start wants start' wants' (found.At k) = HasToken tokens w × (k ≡ start) × (start' ≡ start) × (wants' ≡ wants + 1)
IsStep tokens w start wants start' wants' found.Need = NoMatch tokens w × ((CanGrow tokens w × (start' ≡ start) × (wants' ≡ wants + 1)) ⊎ ((CanGrow tokens w → ⊥) × (start' ≡ start + 1) × (wants' ≡ start + 1)))
IsStep tokens w start wants start' wants' found.Nowhere = ⊥

-- What the end does: the present start fails if it has bytes, and the next place is asked; else no place is left.
abbrev pub IsEnd : ℕ → ℕ → ℕ → ℕ → Found → Type 0
IsEnd start wants start' wants' (found.At k) = ⊥
IsEnd start wants start' wants' found.Need = (start < wants) × (start' ≡ start + 1) × (wants' ≡ start + 1)
IsEnd start wants start' wants' found.Nowhere = (start ≡ wants) × (start' ≡ start) × (wants' ≡ wants)

-- What is found in the data, where it is known: at once when it is found, and at their end while they are open.
abbrev pub IsAnswer : List Syntax → ℕ → List ℕ → Bool → ℕ → Found → Type 0
IsAnswer tokens from d ended wants (found.At k) = IsPlace tokens from d ended (found.At k)
IsAnswer tokens from d ended wants found.Need = ended ≡ false → wants ≡ from + length d → IsPlace tokens from d ended found.Need
IsAnswer tokens from d ended wants found.Nowhere = IsPlace tokens from d ended found.Nowhere
