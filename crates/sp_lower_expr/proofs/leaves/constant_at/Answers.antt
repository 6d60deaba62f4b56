use Rattle.std.proofs.Common.{◌≡◌, ◌∙◌, ap, sym, subst, IfOk}
use Rattle.std.specs.Prelude.{slice_get, unwrap_or}
use Rattle.sp_value.specs.Val.{Val, void}
use Rattle.sp_meaning.specs.Globals.{constant_value, constant_values}
use Rattle.sp_lower_expr.specs.Around.{known_value}
use Rattle.sp_lower_expr.proofs.Lookups.{constant_there, no_constant}
use Rattle.sp_lower_expr.proofs.leaves.constant_at.Goals as goal

pub returns-then-c-constants : goal.returns-then-c-constants
returns-then-c-constants c =
    let here = c.index-constants-c.is in
    subst (λ (w : Val). IfOk c.known_value.result (λ v. v ≡ w))
    (ap (λ x. unwrap_or (constant_value x.value) void) (sym here)
    ∙ constant_there c.as_slice-constants.result.now c.args.c c.index-constants-c.result c.if-c-constants.true here
    ∙ ap (λ l. known_value (slice_get (constant_values l) c.args.c)) c.as_slice-constants.ensures) c.known_value.ensures

pub returns-else-c-constants : goal.returns-else-c-constants
returns-else-c-constants c =
    c.void.ensures ∙ no_constant c.as_slice-constants.result.now c.args.c c.if-c-constants.false ∙ ap (λ l. known_value (slice_get (constant_values l) c.args.c)) c.as_slice-constants.ensures
