use Rattle.std.proofs.Common.{◌≡◌, ◌∙◌, ap}
use Rattle.sp_type_member_names.specs.FieldTables.{unit_of}
use Rattle.sp_type_modules.specs.Taken.{taken_places}
use Rattle.sp_type_fields.specs.Fields.{field_type}
use Rattle.sp_type_units.proofs.Bodies.{taken_is}
use Rattle.sp_type_units.proofs.fields.places_of.Goals as goal

pub returns : goal.returns
returns g c =
    let names = c.new-naming.result in
    let is = c.new-naming.ensures in
    let tree = c.args.tree.now in
    let numbered : unit_of names.tables.now.0 names.unit ≡ tree = rw (is.tables, is.unit) c.requires in
    c.in_ok-places.ensures
    ∙ c.in_ok-taken.ensures
    ∙ taken_is (field_type (g.C.Context.around names.context.now) (g.V.Constants.values names.constants.now)) (unit_of names.tables.now.0 names.unit) tree numbered
    ∙ ap (λ x. taken_places (field_type (g.C.Context.around x) (g.V.Constants.values names.constants.now)) tree) is.context
    ∙ ap (λ x. taken_places (field_type (g.C.Context.around c.args.context.now) (g.V.Constants.values x)) tree) is.constants
