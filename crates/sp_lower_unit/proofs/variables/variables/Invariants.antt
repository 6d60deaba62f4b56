use Rattle.std.proofs.Common.{◌≡◌, length, drop}
use Rattle.sp_code_programs.specs.units.Units.{variables_code}
use Rattle.sp_emit.specs.Emitted.{Emitted, Adds}
use Rattle.sp_lower_unit.specs.Values.{ValuesFit}
use Rattle.sp_lower_unit.proofs.variables.variables.Given as goal

abbrev pub invariant-loop-next : goal.invariant-loop-next
invariant-loop-next l = record {
  fits : ValuesFit (drop l.next-index l.all);
  here : l.out.now ≡ l.fn.out.now;
  code :
      (x : Emitted) → Adds l.out x (variables_code l.list l.unit l.fn.out.now (length l.out.marks) (drop l.next-index l.all)) l.fn.out.now
      → Adds l.fn.out x (variables_code l.list l.unit l.fn.out.now (length l.fn.out.marks) l.all) l.fn.out.now;
}
