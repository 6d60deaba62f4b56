use Rattle.std.proofs.Common.{ℕ, ◌<◌, []}
use Rattle.sp_match.specs.Matching.{HasWord}
use Rattle.sp_match.proofs.token_set.first_empty.Given as goal

abbrev pub invariant-loop-i : goal.invariant-loop-i
invariant-loop-i l = (j : ℕ) → j < l.i → HasWord l.tokens j [] → ⊥
