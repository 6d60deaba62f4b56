use Rattle.std.proofs.Common.{◌≡◌, ◌≤◌, length, drop, None}
use Rattle.std.specs.Prelude.{IfSome}
use Rattle.sp_lex.specs.Signs.{longest_of}
use Rattle.sp_lex.specs.Spellings.{spelling}
use Rattle.sp_lex.proofs.signs.longest_of.Given as goal

abbrev pub invariant-loop-n : goal.invariant-loop-n
invariant-loop-n l = record {
  value : longest_of l.text l.found (drop l.n l.kinds) ≡ longest_of l.text None l.kinds;
  within : IfSome l.found (λ kind. length (spelling kind) ≤ length l.text);
}
