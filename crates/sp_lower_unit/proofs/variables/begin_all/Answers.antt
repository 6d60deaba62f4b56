use Rattle.std.proofs.Common.{[], ◌∷◌, refl, subst, arith}
use Rattle.sp_code.specs.Shapes.{Shape}
use Rattle.sp_code_programs.specs.units.Units.{begin_code}
use Rattle.sp_emit.specs.Emitted.{Adds}
use Rattle.sp_lower_unit.proofs.Joined.{row_begins, row_next, row_ends}
use Rattle.sp_lower_unit.proofs.variables.begin_all.Goals as goal

pub loop-variable-init : goal.loop-variable-init
loop-variable-init c =
    let s = c.args.out.now.now in
    row_begins (begin_code c.args.list.now c.args.unit s c.args.members.now) s c.args.out.now c.args.variables.now refl

pub loop-variable-preserved : goal.loop-variable-preserved
loop-variable-preserved c =
    let s = c.args.out.now.now in
    let ms = c.args.members.now in
    let v = c.variable-item.result in
    let row = c.loop-variable.invariant in
    let h =
    subst (λ (t : Shape). Adds c.loop-variable.out c.begin.new.out (begin_code c.args.list.now c.args.unit t ms (v ∷ [])) t) row.here c.in_ok-begin.ensures in
    row_next (begin_code c.args.list.now c.args.unit s ms) s c.args.out.now c.loop-variable.out _ c.args.variables.now c.loop-variable.variable-index v v _ (λ rest. refl) c.loop-variable-test.true c.variable-item.is row h

pub returns : goal.returns
returns c =
    let s = c.args.out.now.now in
    row_ends (begin_code c.args.list.now c.args.unit s c.args.members.now) s c.args.out.now c.loop-variable.out c.args.variables.now c.loop-variable.variable-index refl (omega arith) c.loop-variable.invariant
