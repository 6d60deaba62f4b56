use Rattle.std.proofs.Common.{◌∙◌, ap, sym, subst}
use Rattle.sp_ast.specs.Trees.{span_of}
use Rattle.sp_ast.specs.TypeViews.{type_tree}
use Rattle.sp_names.specs.Tables.{IsTable}
use Rattle.sp_names.proofs.Lists.{list_of_trees}
use Rattle.sp_type_modules.specs.Members.{range_name, bitfield_ranges}
use Rattle.sp_name_tables.specs.Tables.{told_by}
use Rattle.sp_type_modules.proofs.tables.bit_table.Goals as goal

pub returns-in_ok-range_table-in-Bitfield-clause-ranges : goal.returns-in_ok-range_table-in-Bitfield-clause-ranges
returns-in_ok-range_table-in-Bitfield-clause-ranges c =
    let ranges =
    ap bitfield_ranges (sym c.view.ensures)
    ∙ ap (λ v. bitfield_ranges (type_tree (span_of c.args.tree.now) v)) c.in-Bitfield.is
    ∙ list_of_trees c.in-Bitfield.ranges in
    subst (λ l. IsTable range_name 0 l (told_by c.in_ok-range_table-in-Bitfield.field-0)) (sym ranges) c.in_ok-range_table-in-Bitfield.ensures
