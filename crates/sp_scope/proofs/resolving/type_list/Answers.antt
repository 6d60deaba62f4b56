use Rattle.std.proofs.Common.{IfOk, subst, List}
use Rattle.sp_ast.specs.Trees.{Tree}
use Rattle.sp_type_answers.specs.NameRules.{IsAnswered}
use Rattle.sp_scope.proofs.resolving.type_list.Goals as goal

pub returns : goal.returns
returns c =
    subst (λ (l : List Tree). IfOk c.type_resolved.result (λ r. IsAnswered l r.0.typed r.1)) c.in_ok-names.ensures c.type_resolved.ensures
