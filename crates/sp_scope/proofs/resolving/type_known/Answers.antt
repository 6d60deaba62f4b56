use Rattle.std.proofs.Common.{ap, ◌∙◌, List, Option, None}
use Rattle.sp_types.specs.Types.{Ty}
use Rattle.sp_solver.specs.Told.{told}
use Rattle.sp_rules.specs.Least.{checked}
use Rattle.sp_type_answers.specs.Lists.{typed_list}
use Rattle.sp_type_answers.specs.NameRules.{tests_of}
use Rattle.sp_scope.proofs.Answered.{answered}
use Rattle.sp_scope.proofs.resolving.type_known.Goals as goal

pub returns : goal.returns
returns c =
    let list = c.args.known.now.row.now.0 in
    let types = c.args.known.now.row.now.1 in
    let values = c.args.known.now.answers.now in
    answered list types values c.in_ok-stored.stored.items c.requires.resolved c.requires.valued c.in_ok-stored.ensures c.new.result.typed c.in_ok-typed.least
    (c.new.ensures ∙ c.in_ok-typed.ensures.typed ∙ ap (λ (s : List (Option Ty)). typed_list list (told types) (told values) s) c.deref.ensures.value)
    (c.in_ok-typed.ensures.least ∙ ap (λ (s : List (Option Ty)). checked None (tests_of list (told types) (told values) s)) c.deref.ensures.value)
