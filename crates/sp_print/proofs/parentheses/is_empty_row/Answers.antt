use Rattle.std.proofs.Common.{◌≡◌, ap, ◌∙◌}
use Rattle.sp_ast.specs.Trees.{in_row}
use Rattle.sp_print.specs.Canonical.{is_empty_row}
use Rattle.sp_print.proofs.Parts.{empty_row}
use Rattle.sp_print.proofs.parentheses.is_empty_row.Goals as goal

pub returns-in-Row : goal.returns-in-Row
returns-in-Row c =
    let same : in_row c.in-Row.parts ≡ c.args.tree.now = rw c.in-Row.is at c.level.ensures in
    empty_row c.in-Row.parts c.is_empty.result c.is_empty.ensures ∙ ap is_empty_row same
