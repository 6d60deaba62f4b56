use Rattle.std.proofs.Common.{sym, ap, ◌∙◌}
use Rattle.sp_ast.specs.Trees.{span_of}
use Rattle.sp_ast.specs.TypeViews.{type_tree}
use Rattle.sp_type_declarations.proofs.Written.{bitfield_is}
use Rattle.sp_type_declarations.proofs.bitfield_rows.typed_bitfield.Goals as goal

pub returns-in_ok-bit_ranges-in-Bitfield : goal.returns-in_ok-bit_ranges-in-Bitfield
returns-in_ok-bit_ranges-in-Bitfield c =
    let row = c.args.row.now in
    let seen = ap (type_tree (span_of row.tree)) (sym c.in-Bitfield.is) ∙ c.view.ensures in
    bitfield_is row (span_of row.tree) c.span.result c.in-Bitfield.width c.in-Bitfield.ranges c.written_number.result c.from_vec.result seen c.written_number.ensures c.span.ensures (c.from_vec.ensures ∙ c.in_ok-bit_ranges-in-Bitfield.ensures)
