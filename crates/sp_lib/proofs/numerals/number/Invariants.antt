use Rattle.sp_lib.proofs.DigitsRead.{IsRead}
use Rattle.sp_lib.proofs.numerals.number.Given as goal

abbrev pub invariant-loop-c : goal.invariant-loop-c
invariant-loop-c l = IsRead l.base l.digits l.number l.c-index
