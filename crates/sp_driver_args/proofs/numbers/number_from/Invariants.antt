use Rattle.std.proofs.Common.{◌≡◌, ◌≤◌, drop}
use Rattle.sp_driver_args.specs.Words.{number_from}
use Rattle.sp_driver_args.proofs.numbers.number_from.Given as goal

abbrev pub invariant-loop-digit : goal.invariant-loop-digit
invariant-loop-digit l = record {
  bound : l.number ≤ l.most;
  value : number_from l.most l.number (drop l.digit-index l.digits) ≡ number_from l.most 0 l.digits;
}
