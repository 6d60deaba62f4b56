use Rattle.std.proofs.Common.{IfOk, ap, subst, ◌∙◌, List, Option}
use Rattle.sp_ast.specs.Trees.{Tree}
use Rattle.sp_types.specs.Types.{Ty}
use Rattle.sp_type_answers.specs.NameRules.{IsAnswered}
use Rattle.sp_scope.proofs.resolving.type_resolved.Goals as goal

pub returns : goal.returns
returns c =
    subst (λ (l : List Tree). IfOk c.type_known.result (λ r. IsAnswered l r.0.typed r.1)) (ap (λ (t : List Tree × List (Option Ty)). t.0) (c.in_ok-row.ensures ∙ c.in_ok-tables.ensures)) c.type_known.ensures
