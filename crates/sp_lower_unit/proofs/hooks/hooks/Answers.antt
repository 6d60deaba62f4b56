use Rattle.std.proofs.Common.{length, refl, arith}
use Rattle.sp_code_programs.specs.units.Bodies.{hooks_code}
use Rattle.sp_code_programs.specs.units.Units.{unit_shape}
use Rattle.sp_lower_unit.specs.Handed.{handed_locals}
use Rattle.sp_lower_unit.proofs.Joined.{row_begins, row_next, row_ends}
use Rattle.sp_lower_unit.proofs.Loaded.{hooks_split}
use Rattle.sp_lower_unit.proofs.hooks.hooks.Goals as goal

pub loop-body-init : goal.loop-body-init
loop-body-init c = λ u r begin.
    row_begins (hooks_code (unit_shape u r) (length c.args.list.now.functions) (handed_locals c.args.handed)) (unit_shape u r) c.args.out.now c.args.bodies.now begin

pub loop-body-preserved : goal.loop-body-preserved
loop-body-preserved c = λ u r begin.
    let functions = length c.args.list.now.functions in
    let locals = handed_locals c.args.handed in
    let row = c.loop-body.invariant u r begin in
    row_next (hooks_code (unit_shape u r) functions locals) (unit_shape u r) c.args.out.now c.loop-body.out _ c.args.bodies.now c.loop-body.body-index _ _ _
    (λ rest. hooks_split (unit_shape u r) functions locals _ rest) c.loop-body-test.true refl row (c.in_ok-hook.ensures u r row.here)

pub returns : goal.returns
returns c = λ u r begin.
    row_ends (hooks_code (unit_shape u r) (length c.args.list.now.functions) (handed_locals c.args.handed)) (unit_shape u r) c.args.out.now c.loop-body.out c.args.bodies.now c.loop-body.body-index refl (omega arith) (c.loop-body.invariant u r begin)
