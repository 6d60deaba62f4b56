use Rattle.std.proofs.Common.{◌≡◌, drop}
use Rattle.std.specs.Prelude.{option_map}
use Rattle.sp_choose.specs.Choices.{first_asked}
use Rattle.sp_choose.proofs.choice.first_from.Given as goal

abbrev pub invariant-loop-n : goal.invariant-loop-n
invariant-loop-n l =
    first_asked (option_map (λ x. x.now) l.name) l.n (drop l.n l.units) ≡ first_asked (option_map (λ x. x.now) l.name) l.fn.from (drop l.fn.from l.units)
