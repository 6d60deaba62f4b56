use Rattle.std.proofs.Common.{Option}
use Rattle.std.proofs.lemmas.Result.{IfOk-weaker}
use Rattle.sp_rules.specs.Least.{IsLeast}
use Rattle.sp_type_answers.specs.NameRules.{IsTyped, IsAnswered, BreaksName}
use Rattle.sp_scope.proofs.Least.{typed_of_answered, least_of_answered}
use Rattle.sp_scope.proofs.resolving.type_and_ask.Goals as goal

pub returns-clause-typed : goal.returns-clause-typed
returns-clause-typed c =
    IfOk-weaker c.type_list.result (λ r. IsAnswered c.args.list.now r.0.typed r.1) (λ r. IsTyped c.args.list.now r.0.typed) (λ r is. typed_of_answered c.args.list.now r.0.typed r.1 is) c.type_list.ensures

pub returns-clause-least : goal.returns-clause-least
returns-clause-least c =
    IfOk-weaker c.type_list.result (λ r. IsAnswered c.args.list.now r.0.typed r.1) (λ r. IsLeast (BreaksName c.args.list.now) r.1) (λ r is. least_of_answered c.answers_are_one.ensures.types c.answers_are_one.ensures.values c.answers_are_one.ensures.stored c.least_of_checked.ensures c.args.list.now r.0.typed r.1 is) c.type_list.ensures
