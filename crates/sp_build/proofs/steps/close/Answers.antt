use Rattle.std.proofs.Common.{◌∷◌, ◌∙◌, ap, drop, suc}
use Rattle.sp_ast.specs.Trees.{tree}
use Rattle.sp_build.specs.Items.{begun, built}
use Rattle.sp_build.specs.Building.{Stack}
use Rattle.sp_build.specs.Stacks.{last_trees}
use Rattle.sp_build.proofs.Found.{open_there}
use Rattle.sp_build.proofs.OnStack.{next_item}
use Rattle.sp_build.proofs.steps.close.Goals as goal

pub returns : goal.returns
returns c =
    let s = c.args.stack.now in
    let o = open_there (drop c.args.count s) c.requires.opens in
    let n = next_item c.args.count s o.1 (begun o.0) o.2 in
    let t = tree c.args.form c.args.span (last_trees c.args.count s) in
    c.end.ensures t o.0 (drop (suc c.args.count) s) (c.in_ok-join.ensures ∙ ap (λ (z : Stack). built t ∷ z) n)
