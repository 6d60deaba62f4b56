use Rattle.std.proofs.Common.{◌≡◌, drop}
use Rattle.std.specs.List.{find}
use Rattle.sp_lex.specs.Signs.{is_spelled}
use Rattle.sp_lex.proofs.signs.word_among.Given as goal

abbrev pub invariant-loop-n : goal.invariant-loop-n
invariant-loop-n l = find (is_spelled l.word) (drop l.n l.kinds) ≡ find (is_spelled l.word) l.kinds
