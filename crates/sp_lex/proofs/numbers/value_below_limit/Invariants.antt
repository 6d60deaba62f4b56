use Rattle.std.proofs.Common.{◌≡◌, ◌^◌, min, take}
use Rattle.sp_lex.specs.Literals.{digits_value}
use Rattle.sp_lex.proofs.numbers.value_below_limit.Given as goal

abbrev pub invariant-loop-digit : goal.invariant-loop-digit
invariant-loop-digit l = l.value ≡ min (digits_value l.base (take l.digit-index l.digits)) (2 ^ 64)
