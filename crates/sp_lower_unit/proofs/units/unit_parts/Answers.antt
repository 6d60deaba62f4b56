use Rattle.std.proofs.Common.{◌∙◌}
use Rattle.std.proofs.lemmas.Result.{on_ok_weaker}
use Rattle.sp_code.specs.Shapes.{OfUnit}
use Rattle.sp_lower_unit.proofs.Begun.{parts_added}
use Rattle.sp_lower_unit.proofs.units.unit_parts.Goals as goal

pub returns : goal.returns
returns c =
    let begins = c.in_ok-begin_all.ensures in
    let values = c.in_ok-variables.ensures in
    let init = c.in_ok-unit_hook.ensures OfUnit (values.now ∙ begins.now ∙ c.requires.shape) in
    let reads = c.in_ok-parts.ensures OfUnit init.now in
    on_ok_weaker c.unit_hook-2.result
    (parts_added c.args.tables.now.list.now c.args.out.now _ _ _ _ _ c.args.number c.args.unit.now _ _ _ _ _ c.as_slice.ensures c.as_slice-2.ensures c.as_slice-3.ensures c.as_slice-4.ensures c.unit_order-order.ensures c.requires.shape begins values init reads)
    (c.unit_hook-2.ensures OfUnit reads.now)
