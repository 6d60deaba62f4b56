use Rattle.std.proofs.Common.{◌≡◌, drop}
use Rattle.sp_types.specs.Types.{Ty}
use Rattle.sp_code_programs.specs.programs.Currents.{converted_by}
use Rattle.sp_lower_tables.proofs.currents.converted.Given as goal

abbrev pub invariant-loop-attribute : goal.invariant-loop-attribute
invariant-loop-attribute l = (t : Ty) → converted_by l.attributes t ≡ converted_by (drop l.attribute-index l.attributes) t
