-- What is typed and asked where hooks have these rows, which are those of the list.
use Rattle.std.specs.Prelude.{Result, Ok, Err, IfOk}
use Rattle.std.proofs.Common.{◌≡◌, ℕ, Bool, List, Option, None, ◌∙◌, ap}
use Rattle.std.proofs.lemmas.Result.{IfOk-weaker}
use Rattle.sp_ast.specs.Trees.{Tree}
use Rattle.sp_types.specs.Types.{Ty}
use Rattle.sp_rules.specs.declared.fault.Fault.{Fault}
use Rattle.sp_rules.specs.Least.{checked}
use Rattle.sp_typed_units.specs.declared.declarations.Typed.{Typed}
use Rattle.sp_type_values.specs.declared.answer.Answer.{Answer}
use Rattle.sp_type_hook_rows.specs.declared.sites.Site.{Site}
use Rattle.sp_type_hook_rows.specs.declared.rows.HookRow.{HookRow}
use Rattle.sp_type_hook_rows.specs.Sites.{sites}
use Rattle.sp_type_hook_rows.specs.HookRows.{rows_of, hook_rows}
use Rattle.sp_type_answers.specs.Lists.{list_in, typed_list}
use Rattle.sp_type_answers.specs.NameRules.{tests_at, tests_of}

module _ (list : List Tree) (f : ℕ → Option Ty) (known : ℕ → Option Answer) (stored : List (Option Ty)) where
  list_same : (ss : List Site) (rs : List HookRow) → ss ≡ sites list → rs ≡ rows_of list f ss → list_in list f known stored ss rs ≡ typed_list list f known stored
  list_same ss rs s r =
      let rows : rs ≡ hook_rows list f = r ∙ ap (λ (xs : List Site). rows_of list f xs) s in
      ap (λ (xs : List Site). list_in list f known stored xs rs) s ∙ ap (λ (xs : List HookRow). list_in list f known stored (sites list) xs) rows

  tests_same : (ss : List Site) (rs : List HookRow) → ss ≡ sites list → rs ≡ rows_of list f ss → (t : Typed) → t ≡ list_in list f known stored ss rs → tests_at list f ss rs t ≡ tests_of list f known stored
  tests_same ss rs s r t is =
      let rows : rs ≡ hook_rows list f = r ∙ ap (λ (xs : List Site). rows_of list f xs) s in
      ap (λ (xs : List Site). tests_at list f xs rs t) s ∙ ap (λ (xs : List HookRow). tests_at list f (sites list) xs t) rows ∙ ap (λ (u : Typed). tests_at list f (sites list) (hook_rows list f) u) (is ∙ list_same ss rs s r)

  pub typed_rows : {E : Type 0} (ss : List Site) (rs : List HookRow) → ss ≡ sites list → rs ≡ rows_of list f ss → (result : Result (Typed × Option Fault) E) → IfOk result (λ p. p.0 ≡ list_in list f known stored ss rs) → IfOk result (λ p. p.0 ≡ typed_list list f known stored)
  typed_rows ss rs s r result is =
      IfOk-weaker result (λ p. p.0 ≡ list_in list f known stored ss rs) (λ p. p.0 ≡ typed_list list f known stored) (λ p e. e ∙ list_same ss rs s r) is

  pub least_rows : {E : Type 0} (ss : List Site) (rs : List HookRow) → ss ≡ sites list → rs ≡ rows_of list f ss → (result : Result (Typed × Option Fault) E) → IfOk result (λ p. p.0 ≡ list_in list f known stored ss rs) → IfOk result (λ p. p.1 ≡ checked None (tests_at list f ss rs p.0)) → IfOk result (λ p. p.1 ≡ checked None (tests_of list f known stored))
  least_rows ss rs s r (Ok p) is noted = noted ∙ ap (λ (ts : List (Bool × Fault)). checked None ts) (tests_same ss rs s r p.0 is)
  least_rows ss rs s r (Err e) is noted = tt
