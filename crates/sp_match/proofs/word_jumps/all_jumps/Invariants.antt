use Rattle.std.proofs.Common.{◌≡◌, ◌<◌, ℕ, length}
use Rattle.sp_match.specs.Jumps.{of_word, AreWordJumps}
use Rattle.sp_match.proofs.word_jumps.all_jumps.Given as goal

abbrev pub invariant-loop-word : goal.invariant-loop-word
invariant-loop-word l = record {
  done : (w : ℕ) → w < l.word → AreWordJumps l.net w (of_word l.all.items w);
  len : length l.all.items ≡ l.word;
}
