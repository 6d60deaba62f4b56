use Rattle.std.proofs.Common.{length, ◌-◌}
use Rattle.sp_lex.specs.inside.Scanning.{Scanned}
use Rattle.sp_lex.proofs.scanner.scan.Given as goal

abbrev pub invariant-loop-progress : goal.invariant-loop-progress
invariant-loop-progress l = Scanned l.text l.progress.at l.progress.divides l.progress.nesting l.progress.tokens

abbrev pub decreases-loop-progress : goal.decreases-loop-progress
decreases-loop-progress l = length l.text - l.progress.at
