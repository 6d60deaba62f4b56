-- The place that a search finds: the least one at which a token of the set begins.
use Rattle.std.specs.Prelude.{◌≡◌, ℕ, ◌+◌, ◌<◌, ◌≤◌, ◌⊎◌, Bool, true, false, List, length, take, drop}
use Rattle.std.proofs.Common.{get_or}
use Rattle.sp_regex.specs.Trees.{Syntax}
use Rattle.sp_match.specs.Matching.{HasWord, CanGrow, NoMatch, Settled}
use Rattle.sp_sync.specs.declared.found.Found.{Found}
use Rattle.sp_sync.specs.declared.found.Found.TheVariants as found
use Rattle.sp_sync.specs.declared.outcome.Outcome.{Outcome}
use Rattle.sp_sync.specs.declared.outcome.Outcome.TheVariants as outcome

-- some of the bytes, from the front, are a word of a member
abbrev pub HasToken : List Syntax → List ℕ → Type 0
HasToken tokens w = (i : ℕ) × (n : ℕ) × (n ≤ length w) × HasWord tokens i (take n w)

-- No token begins with the bytes, and none will: nothing more can come, or no word of a member begins so.
abbrev pub Fails : List Syntax → List ℕ → Bool → Type 0
Fails tokens w ended = NoMatch tokens w × Settled tokens w ended

-- The next definitions are of the data `d` of a view from the place on where the search begins. Their places are
-- counted from there: the bytes from the place j on are `drop j d`. `ended` says whether the view has ended.

-- at each place before n no token begins, and none will
abbrev pub FailBefore : List Syntax → List ℕ → Bool → ℕ → Type 0
FailBefore tokens d ended n = (j : ℕ) → j < n → Fails tokens (drop j d) ended

-- No token begins at the place yet, and one may: some word of a member begins with the bytes from there on, or the
-- place is the end of the data.
abbrev pub IsUndecided : List Syntax → List ℕ → ℕ → Type 0
IsUndecided tokens d j = (j ≤ length d) × NoMatch tokens (drop j d) × (CanGrow tokens (drop j d) ⊎ (j ≡ length d))

-- the least place k that is undecided, where the search begins at the place `from`; at all before it no token begins
abbrev pub IsLeastUndecided : List Syntax → ℕ → List ℕ → ℕ → Type 0
IsLeastUndecided tokens from d k = (j : ℕ) × (k ≡ from + j) × IsUndecided tokens d j × FailBefore tokens d false j

-- What a search from the place `from` finds in the data: the least place at which a token begins; while the view is
-- open and an earlier place is undecided, that it must wait; or, when the view has ended, that no token begins in it.
abbrev pub IsPlace : List Syntax → ℕ → List ℕ → Bool → Found → Type 0
IsPlace tokens from d ended (found.At k) = (j : ℕ) × (k ≡ from + j) × (j < length d) × HasToken tokens (drop j d) × FailBefore tokens d ended j
IsPlace tokens from d ended found.Need = (ended ≡ false) × ((k : ℕ) × IsLeastUndecided tokens from d k)
IsPlace tokens from d ended found.Nowhere = (ended ≡ true) × ((j : ℕ) → NoMatch tokens (drop j d))

-- the byte stands in the data at this place
abbrev pub IsByteAt : ℕ → List ℕ → ℕ → ℕ → Type 0
IsByteAt from d place b = (j : ℕ) × (place ≡ from + j) × (j < length d) × (get_or d j 0 ≡ b)

-- what the bytes from one place on tell of it, where more may come
abbrev pub Comes : List Syntax → List ℕ → Outcome → Type 0
Comes tokens w outcome.Begins = HasToken tokens w
Comes tokens w outcome.Waits = NoMatch tokens w × CanGrow tokens w
Comes tokens w outcome.Fails = NoMatch tokens w × (CanGrow tokens w → ⊥)
