use Rattle.std.proofs.Common.{[], ◌∙◌, ap, sym}
use Rattle.std.specs.Prelude.{slice_get, unwrap_or}
use Rattle.sp_value.specs.Val.{enum}
use Rattle.sp_meaning.specs.Globals.{label_numbers, enum_labels}
use Rattle.sp_lower_expr.proofs.Lookups.{enum_there, no_enum}
use Rattle.sp_lower_expr.proofs.leaves.label_value.Goals as goal

pub returns-then-place-enums : goal.returns-then-place-enums
returns-then-place-enums c =
    let here = c.index-enums-place.is in
    let k = c.args.k in
    let l = c.args.l in
    c.label.ensures
    ∙ ap (λ n. enum k n)
    (c.label_number.ensures
    ∙ ap (λ ls. unwrap_or (slice_get (label_numbers ls) l) 0) (c.as_slice.ensures ∙ ap (λ x. x.labels) (sym here))
    ∙ ap (λ ns. unwrap_or (slice_get ns l) 0) (enum_there c.as_slice-enums.result.now k c.index-enums-place.result c.if-place-enums.true here)
    ∙ ap (λ es. unwrap_or (slice_get (unwrap_or (slice_get (enum_labels es) k) []) l) 0) c.as_slice-enums.ensures)

pub returns-else-place-enums : goal.returns-else-place-enums
returns-else-place-enums c =
    let k = c.args.k in
    let l = c.args.l in
    c.label-else-place-enums.ensures
    ∙ ap (λ n. enum k n)
    (no_enum c.as_slice-enums.result.now k l c.if-place-enums.false ∙ ap (λ es. unwrap_or (slice_get (unwrap_or (slice_get (enum_labels es) k) []) l) 0) c.as_slice-enums.ensures)
