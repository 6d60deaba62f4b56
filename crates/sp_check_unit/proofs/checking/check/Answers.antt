use Rattle.std.proofs.Common.{◌≡◌, subst, sym}
use Rattle.sp_typed_units.specs.declared.declarations.Typed.{Typed}
use Rattle.sp_type_answers.specs.NameRules.{IsTyped}
use Rattle.sp_check_unit.proofs.checking.check.Goals as goal

pub numbered-requires-clause-typed : goal.numbered-requires-clause-typed
numbered-requires-clause-typed c =
    subst (λ (t : Typed). IsTyped c.args.list.now t) (sym c.into_typed.ensures) c.in_ok-scopes.ensures.typed
