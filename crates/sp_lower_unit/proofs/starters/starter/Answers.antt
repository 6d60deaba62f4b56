use Rattle.std.proofs.Common.{List, subst}
use Rattle.std.proofs.lemmas.Result.{on_ok_weaker}
use Rattle.sp_typed_units.specs.declared.declarations.Parameter.{Parameter}
use Rattle.sp_meaning.specs.Globals.{globals_of}
use Rattle.sp_code.specs.Shapes.{with_operands}
use Rattle.sp_code_programs.specs.units.Units.{kinds_over}
use Rattle.sp_emit.specs.Emitted.{TurnsTo}
use Rattle.sp_lower_unit.proofs.Begun.{starter_added}
use Rattle.sp_lower_unit.proofs.starters.starter.Goals as goal

pub returns : goal.returns
returns c =
    let first = c.begin.new.out in
    let given =
    subst (λ (ps : List Parameter). TurnsTo first c.operands.new.out (with_operands first.now (kinds_over (globals_of c.args.list.now).ranges ps first.now.operands))) c.as_slice.ensures c.in_ok-operands.ensures in
    on_ok_weaker c.emit-2.result
    (starter_added c.args.list.now c.args.out.now _ _ _ _ _ _ c.args.number c.args.unit.now c.in_ok-begin.ensures given c.in_ok-emit.ensures c.lower.ensures c.in_ok-push_row.ensures) c.emit-2.ensures
