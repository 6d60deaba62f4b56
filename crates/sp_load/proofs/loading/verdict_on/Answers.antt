use Rattle.std.proofs.Common.{◌≡◌, sym, subst}
use Rattle.sp_type_answers.specs.NameRules.{IsTyped}
use Rattle.sp_load.proofs.loading.verdict_on.Goals as goal

pub returns-in-Ok : goal.returns-in-Ok
returns-in-Ok c =
    let e = c.in-Ok.ensures.checked in
    (subst (λ t. IsTyped c.args.modules.now t) (sym c.into_typed.ensures) e.1, e.2)
