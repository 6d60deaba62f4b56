use Rattle.std.proofs.Common.{◌≡◌, ◌++◌, drop}
use Rattle.sp_solver.specs.Told.{told}
use Rattle.sp_type_hook_rows.specs.HookRows.{rows_of}
use Rattle.sp_type_hook_rows.proofs.rows.hook_rows.Given as goal

abbrev pub invariant-loop-i : goal.invariant-loop-i
invariant-loop-i l =
    l.rows.items ++ rows_of l.tables.0 (told l.tables.1) (drop l.i l.sites) ≡ rows_of l.tables.0 (told l.tables.1) l.sites
