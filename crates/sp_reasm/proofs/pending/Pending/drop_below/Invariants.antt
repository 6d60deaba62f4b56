use Rattle.std.proofs.Common.{◌≡◌, ℕ, ◌≤◌, length}
use Rattle.sp_reasm.specs.Pieces.{owner_of}
use Rattle.sp_reasm.proofs.pending.Pending.drop_below.Given as goal

abbrev pub invariant-loop-self : goal.invariant-loop-self
invariant-loop-self l = (q : ℕ) → l.fn.to ≤ q → owner_of l.self q ≡ owner_of l.initial.self q

abbrev pub decreases-loop-self : goal.decreases-loop-self
decreases-loop-self l = length l.self
