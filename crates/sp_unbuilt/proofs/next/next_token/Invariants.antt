use Rattle.std.proofs.Common.{◌≡◌, ◌≤◌, ◌+◌, ◌-◌, length, drop}
use Rattle.sp_unbuilt.specs.Next.{next_in, next_token}
use Rattle.sp_unbuilt.proofs.next.next_token.Given as goal

abbrev pub invariant-loop-place : goal.invariant-loop-place
invariant-loop-place l =
    (next_in l.comment l.place (drop l.place l.text) ≡ next_token l.text l.from) × (l.place ≤ l.from + (length l.text - l.from))

abbrev pub decreases-loop-place : goal.decreases-loop-place
decreases-loop-place l = length l.text - l.place
