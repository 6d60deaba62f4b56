use Rattle.std.specs.Prelude.{option_map}
use Rattle.std.proofs.Common.{sym, subst}
use Rattle.sp_choose.specs.Laws.{IsChoice}
use Rattle.sp_choose.proofs.Choosing.{choice_is}
use Rattle.sp_choose.proofs.choice.chosen.Goals as goal

pub returns-clause-choice : goal.returns-clause-choice
returns-clause-choice c =
    let name = option_map (λ x. x.now) c.args.name in
    subst (λ n. IsChoice name c.args.units.now n) (sym c.number_of.ensures.exact) (choice_is name c.args.units.now)
