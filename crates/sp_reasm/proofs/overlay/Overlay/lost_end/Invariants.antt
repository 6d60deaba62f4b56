use Rattle.std.proofs.Common.{◌≡◌, ℕ, ◌-◌, ◌<◌, ◌≤◌, ◌^◌, max, Some}
use Rattle.sp_reasm.specs.Owners.{Lost}
use Rattle.sp_reasm.specs.inside.Overlays.{owner_in}
use Rattle.sp_reasm.proofs.overlay.Overlay.lost_end.Given as goal

abbrev pub invariant-loop-len : goal.invariant-loop-len
invariant-loop-len l = (l.from ≤ l.at) × (l.at ≤ max l.from (2 ^ 62)) × ((q : ℕ) → l.from ≤ q → q < l.at → owner_in l.self q ≡ Some Lost)

abbrev pub decreases-loop-len : goal.decreases-loop-len
decreases-loop-len l = 2 ^ 62 - l.at
