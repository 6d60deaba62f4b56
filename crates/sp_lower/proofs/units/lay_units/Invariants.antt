use Rattle.std.proofs.Common.{◌≡◌, drop}
use Rattle.std.specs.List.{AllByRecursion}
use Rattle.sp_lower.specs.Literals.{UnitFits}
use Rattle.sp_lower.proofs.Counted.{Leads}
use Rattle.sp_lower.proofs.units.lay_units.Given as goal

abbrev pub invariant-loop-i : goal.invariant-loop-i
invariant-loop-i l = record {
  number : l.u ≡ l.i;
  fits : AllByRecursion UnitFits (drop l.i l.all);
  laid : Leads l.tables.list.now l.fn.out l.fn.entries.items l.out l.entries.items l.all l.i (drop l.i l.all);
}
