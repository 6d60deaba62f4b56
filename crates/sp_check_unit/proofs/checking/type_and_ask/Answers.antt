use Rattle.std.proofs.lemmas.Result.{IfOk-weaker}
use Rattle.sp_rules.specs.Least.{IsLeast}
use Rattle.sp_type_answers.specs.NameRules.{IsTyped}
use Rattle.sp_type_answers.specs.Rules.{Breaks, IsAsked}
use Rattle.sp_check_unit.proofs.Asked.{typed_of_asked, least_of_asked}
use Rattle.sp_check_unit.proofs.checking.type_and_ask.Goals as goal

pub returns-clause-typed : goal.returns-clause-typed
returns-clause-typed c =
    IfOk-weaker c.ask_all.result (λ r. IsAsked c.args.list.now r.0.typed r.1) (λ r. IsTyped c.args.list.now r.0.typed) (λ r is. typed_of_asked c.args.list.now r.0.typed r.1 is) c.ask_all.ensures

pub returns-clause-least : goal.returns-clause-least
returns-clause-least c =
    IfOk-weaker c.ask_all.result (λ r. IsAsked c.args.list.now r.0.typed r.1) (λ r. IsLeast (Breaks c.args.list.now) r.1) (λ r is. least_of_asked c.answers_are_one.ensures.types c.answers_are_one.ensures.values c.answers_are_one.ensures.stored c.least_of_checked.ensures c.args.list.now r.0.typed r.1 is) c.ask_all.ensures
