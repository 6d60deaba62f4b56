use Rattle.std.proofs.Common.{ℕ, ◌≡◌, ap, ◌∙◌, List}
use Rattle.std.proofs.lemmas.Result.{IfOk-weaker}
use Rattle.sp_names.specs.Declarations.{module_name, module_at}
use Rattle.sp_type_functions.specs.Functions.{function_of}
use Rattle.sp_type_declarations.proofs.function_rows.function_in.Goals as goal

pub returns : goal.returns
returns g c =
    let around = g.C.Context.around c.args.context.now in
    let m = c.args.found.now.«module» in
    let t = c.args.found.now.tree in
    let named = module_name (module_at c.args.known.now.row.now.0 m) in
    IfOk-weaker c.tree_function.result (λ f. f ≡ function_of around c.owner_name-owner.result.now m t) (λ f. f ≡ function_of around named m t)
    (λ f is. is ∙ ap (λ (o : List ℕ). function_of around o m t) c.owner_name-owner.ensures) c.tree_function.ensures
