use Rattle.std.proofs.Common.{◌≡◌, ap, sym, ◌∙◌}
use Rattle.std.proofs.lemmas.Result.{IfOk-weaker}
use Rattle.sp_ast.specs.Trees.{span_of}
use Rattle.sp_ast.specs.Views.{optional_tree}
use Rattle.sp_solver.specs.Told.{told}
use Rattle.sp_names.specs.Names.{names_of, path_names}
use Rattle.sp_typed_units.specs.declared.declarations.HookOf.{HookOf}
use Rattle.sp_type_hook_rows.specs.HookRows.{names_hook, declared_of}
use Rattle.sp_type_hook_rows.proofs.UnitPaths.{path_is}
use Rattle.sp_type_hook_rows.proofs.named.declared_of.Goals as goal

pub returns-in-None : goal.returns-in-None
returns-in-None c =
    let list = c.args.tables.now.0 in
    let f = told c.args.tables.now.1 in
    let path = c.args.path.now in
    let names = c.names-in-None.result in
    IfOk-weaker c.names_hook.result (λ (h : HookOf). h ≡ names_hook list f c.args.owner c.args.each (names_of names))
    (λ (h : HookOf). h ≡ declared_of list f c.args.owner c.args.each (path_names path) (optional_tree c.args.name.now))
    (λ h is. is
    ∙ ap (names_hook list f c.args.owner c.args.each) (sym (path_is (span_of path) names path c.names-in-None.ensures))
    ∙ ap (λ n. declared_of list f c.args.owner c.args.each (path_names path) (optional_tree n)) (sym c.in-None.is))
    c.names_hook.ensures
