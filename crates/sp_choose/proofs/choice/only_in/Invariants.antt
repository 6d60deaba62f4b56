use Rattle.std.proofs.Common.{◌≡◌, drop}
use Rattle.sp_choose.specs.Choices.{only_from}
use Rattle.sp_choose.proofs.choice.only_in.Given as goal

abbrev pub invariant-loop-n : goal.invariant-loop-n
invariant-loop-n l = only_from l.n (drop l.n l.units) ≡ only_from 0 l.units
