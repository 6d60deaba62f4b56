use Rattle.std.proofs.Common.{◌≤◌, [], ◌∷◌, length, drop}
use Rattle.sp_regex.specs.Trees.{literal}
use Rattle.sp_regex.specs.Language.{InL}
use Rattle.sp_match.specs.Parts.{IsCompiled}
use Rattle.sp_match.proofs.compile.word.Given as goal

abbrev pub invariant-loop-i : goal.invariant-loop-i
invariant-loop-i l = record {
  within : l.i ≤ length l.bytes;
  so_far : IsCompiled (InL (literal (drop l.i l.bytes))) (l.then ∷ []) (l.spot ∷ []) l.initial.net.items l.net.items;
}

abbrev pub decreases-loop-i : goal.decreases-loop-i
decreases-loop-i l = l.i
