use Rattle.std.proofs.Common.{◌≡◌, false, sym, ◌∙◌, refl}
use Rattle.sp_ast.specs.Trees.{in_row}
use Rattle.sp_print.specs.Canonical.{is_empty_row}
use Rattle.sp_print.proofs.Parts.{empty_row}
use Rattle.sp_print.proofs.parentheses.new_level.Goals as goal

pub returns-else-is_empty : goal.returns-else-is_empty
returns-else-is_empty c =
    let some : is_empty_row (in_row c.args.arguments.now) ≡ false = sym (empty_row c.args.arguments.now c.is_empty.result c.is_empty.ensures) ∙ c.if-is_empty.false in
    rw some refl
