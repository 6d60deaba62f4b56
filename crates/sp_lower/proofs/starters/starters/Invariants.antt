use Rattle.std.proofs.Common.{◌≡◌, drop}
use Rattle.sp_lower.proofs.Counted.{StartersLead}
use Rattle.sp_lower.proofs.starters.starters.Given as goal

abbrev pub invariant-loop-i : goal.invariant-loop-i
invariant-loop-i l = record {
  number : l.u ≡ l.i;
  added : StartersLead l.list l.fn.out l.out l.all l.i (drop l.i l.all);
}
