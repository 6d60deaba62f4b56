use Rattle.std.proofs.Common.{◌≡◌, ◌∙◌}
use Rattle.std.proofs.lemmas.Result.{IfOk-weaker}
use Rattle.sp_ast.specs.Trees.{span_of}
use Rattle.sp_solver.specs.Told.{told}
use Rattle.sp_types.specs.Types.{Ty}
use Rattle.sp_type_context.specs.declared.places.Place.TheVariants.{Value}
use Rattle.sp_type_modules.specs.Heads.{type_or_void}
use Rattle.sp_type_modules.specs.Written.{type_at}
use Rattle.sp_type_modules.proofs.Steps.{written_is}
use Rattle.sp_type_modules.proofs.tables.written_type.Goals as goal

pub returns : goal.returns
returns c =
    let list = c.args.names.now in
    let f = told c.args.known.now in
    let m = c.args.owner in
    let tree = c.args.tree.now in
    IfOk-weaker c.type_at.result (λ (t : Ty). t ≡ type_at list f m Value tree) (λ (t : Ty). t ≡ type_or_void list f m tree) (λ t is. is ∙ written_is list f m (span_of tree) c.view.result tree c.view.ensures) c.type_at.ensures
