use Rattle.std.proofs.Common.{◌++◌, ◌∷◌, [], ap, sym, ◌∙◌}
use Rattle.sp_ast.specs.Trees.{span_of}
use Rattle.sp_ast.specs.Views.{optional_tree}
use Rattle.sp_type_hook_rows.specs.declared.sites.Holder.TheVariants as holder_is
use Rattle.sp_type_hook_rows.specs.Sites.{site}
use Rattle.sp_type_hook_rows.proofs.Steps.{on_site}
use Rattle.sp_type_hook_rows.proofs.sites.add_declaration.Goals as goal

pub returns-in_ok-push-in-Declared-On : goal.returns-in_ok-push-in-Declared-On
returns-in_ok-push-in-Declared-On c =
    let t = c.args.tree.now in
    let old = c.args.sites.now.items in
    let is = rw c.in-Declared-On.field-0-is at c.in-Declared-On.ensures in
    c.in_ok-push-in-Declared-On.ensures.items
    ∙ ap (λ x. old ++ site c.args.«module» 0 (holder_is.Declaration x)) (c.new.ensures ∙ c.lend.ensures)
    ∙ ap (λ l. old ++ l) (sym (on_site c.args.«module» c.args.unit (span_of t) (c.in-Declared-On.field-0-0 ∷ optional_tree c.in-Declared-On.field-0-1 ∷ c.in-Declared-On.field-0-2 ∷ []) t is))
