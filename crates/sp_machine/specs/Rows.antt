-- Where a key is in a container, and what a change there makes of it.
use Rattle.std.specs.Prelude.{◌≡◌, ◌<◌, ◌≤◌, ℕ, length, Result, Ok, Err, MatchResult}
use Rattle.sp_base.specs.declared.kinds.PKind.{PKind}
use Rattle.sp_value.specs.Val.{Val, uint, vector, map, list_of}
use Rattle.sp_meaning_states.specs.Values.{with_at}
use Rattle.sp_machine.specs.declared.rows.Spot.{Spot}
use Rattle.sp_machine.specs.declared.rows.Spot.TheVariants.{Within, Past, Keyed}

abbrev pub IsSpot : Val → Val → Spot → Type 0
IsSpot (vector vs) (uint w n) (Within i) = (i ≡ n) × (n < length (list_of vs))
IsSpot (vector vs) (uint w n) Past = length (list_of vs) ≤ n
IsSpot (map es) k Keyed = Unit {0}
IsSpot v k spot = ⊥

-- the container behind a change, or the error in place of one
abbrev pub Changes : Val → Val → Val → Val → Result (Unit {0}) PKind → Type 0
Changes before key x after r = MatchResult r (λ _. with_at before key x ≡ Ok after) (λ k. with_at before key x ≡ Err k)

-- the number that a value is
abbrev pub number_of : Val → ℕ
number_of (uint w n) = n
number_of v = 0
