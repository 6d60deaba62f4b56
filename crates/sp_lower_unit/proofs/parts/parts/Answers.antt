use Rattle.std.proofs.Common.{refl, arith}
use Rattle.sp_typed_units.specs.Parts.{parts}
use Rattle.sp_code_programs.specs.units.Units.{unit_shape, parts_code}
use Rattle.sp_lower_unit.proofs.Joined.{row_begins, row_next, row_ends}
use Rattle.sp_lower_unit.proofs.parts.parts.Goals as goal

pub loop-next-init : goal.loop-next-init
loop-next-init c = λ r begin.
    let s = unit_shape c.args.unit r in
    row_begins (λ ps. parts_code c.args.list.now c.args.unit s c.args.order (parts ps)) s c.args.out.now c.args.all.now begin

pub loop-next-preserved : goal.loop-next-preserved
loop-next-preserved c = λ r begin.
    let s = unit_shape c.args.unit r in
    let row = c.loop-next.invariant r begin in
    row_next (λ ps. parts_code c.args.list.now c.args.unit s c.args.order (parts ps)) s c.args.out.now c.loop-next.out _ c.args.all.now c.loop-next.next-index c.next-item.result c.next-item.result _ (λ rest. refl) c.loop-next-test.true c.next-item.is
    row (c.in_ok-part.ensures r row.here)

pub returns : goal.returns
returns c = λ r begin.
    let s = unit_shape c.args.unit r in
    row_ends (λ ps. parts_code c.args.list.now c.args.unit s c.args.order (parts ps)) s c.args.out.now c.loop-next.out c.args.all.now c.loop-next.next-index refl (omega arith) (c.loop-next.invariant r begin)
