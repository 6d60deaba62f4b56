use Rattle.sp_read_expr.proofs.Trees.{tree_read}
use Rattle.sp_read_expr.proofs.read.read_tree.Goals as goal

pub returns-clause-read : goal.returns-clause-read
returns-clause-read c =
    let r = c.in_ok-to.ensures.read in
    tree_read c.args.start c.args.tokens.now c.args.at r.0 c.in_ok-to.to c.new-builder.result c.read_from.new.sink c.into_tree.result c.every_phrase_is_built.ensures c.new-builder.ensures r.1 r.2 c.into_tree.ensures
