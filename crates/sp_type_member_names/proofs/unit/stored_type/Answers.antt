use Rattle.std.proofs.Common.{◌∙◌, ap}
use Rattle.sp_ast.specs.Trees.{trees}
use Rattle.sp_type_fields.specs.Attributes.{conversion, converted}
use Rattle.sp_type_fields.specs.Fields.{field_type}
use Rattle.sp_type_member_names.proofs.unit.stored_type.Goals as goal

pub returns : goal.returns
returns g c =
    let around = g.C.Context.around c.args.context.now in
    let values = g.V.Constants.values c.args.constants.now in
    c.in_ok-stored.ensures
    ∙ ap (λ r. converted around r (conversion (trees c.view-view.result.attributes))) c.in_ok-read.ensures
    ∙ ap (field_type around values) c.view-view.ensures
