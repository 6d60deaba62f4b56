use Rattle.std.proofs.Common.{◌≡◌, [], drop}
use Rattle.std.specs.Prelude.{replicate}
use Rattle.sp_lower_hooks.specs.inside.Rows.{turns_in, all_noted}
use Rattle.sp_lower_hooks.proofs.rows.gathered.Given as goal

abbrev pub invariant-loop-i : goal.invariant-loop-i
invariant-loop-i l = (all_noted l.name l.i (drop l.i l.hooks) (turns_in l.rows.items) ≡ all_noted l.name 0 l.hooks (replicate l.units [])) × (l.number ≡ l.i)
