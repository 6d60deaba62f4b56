use Rattle.std.proofs.Common.{subst, List, Option}
use Rattle.std.specs.Prelude.{◌≡◌, IfOk}
use Rattle.sp_ast.specs.Trees.{Tree}
use Rattle.sp_types.specs.Types.{Ty}
use Rattle.sp_solver.specs.Told.{told}
use Rattle.sp_names.specs.Declarations.{module_name, module_at}
use Rattle.sp_type_modules.specs.Arounds.{Facts, stored_by, around}
use Rattle.sp_type_values.specs.Answers.{constant_type, number_of}
use Rattle.sp_type_functions.specs.Functions.{function_of}
use Rattle.sp_type_declarations.proofs.function_rows.function_at.Goals as goal

pub returns : goal.returns
returns c =
    let list = c.args.known.now.row.now.0 in
    let types = told c.args.known.now.row.now.1 in
    let known = told c.args.known.now.answers.now in
    let m = c.args.found.now.«module» in
    let facts : List Tree × List (Option Ty) → Facts = λ t. record { answers = told t.1; constant = constant_type list types known; stored = stored_by t.0 (told c.args.stored.now); number = number_of list types known } in
    subst (λ (t : List Tree × List (Option Ty)). IfOk c.function_in.result (λ g. g ≡ function_of (around t.0 (facts t) m) (module_name (module_at list m)) m c.args.found.now.tree)) c.tables.ensures c.function_in.ensures
