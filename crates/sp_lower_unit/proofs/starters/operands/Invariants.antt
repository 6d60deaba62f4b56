use Rattle.std.proofs.Common.{drop}
use Rattle.sp_meaning.specs.Globals.{globals_of}
use Rattle.sp_code.specs.Shapes.{with_operands}
use Rattle.sp_code_programs.specs.units.Units.{kinds_over}
use Rattle.sp_emit.specs.Emitted.{Emitted, TurnsTo}
use Rattle.sp_lower_unit.proofs.starters.operands.Given as goal

abbrev pub invariant-loop-parameter : goal.invariant-loop-parameter
invariant-loop-parameter l =
    (x : Emitted) → TurnsTo l.out x (with_operands l.out.now (kinds_over (globals_of l.list).ranges (drop l.parameter-index l.parameters) l.out.now.operands))
    → TurnsTo l.fn.out x (with_operands l.fn.out.now (kinds_over (globals_of l.list).ranges l.parameters l.fn.out.now.operands))
