use Rattle.std.proofs.Common.{◌≡◌, ◌++◌, drop}
use Rattle.sp_solver.specs.Told.{told}
use Rattle.sp_type_modules.specs.Members.{unit_members}
use Rattle.sp_type_modules.specs.Arounds.{stored_by}
use Rattle.sp_type_units.specs.inside.Shown.{shown}
use Rattle.sp_type_units.specs.inside.Joins.{rows_by}
use Rattle.sp_type_units.proofs.members.rows_by.Given as goal

abbrev pub invariant-loop-named : goal.invariant-loop-named
invariant-loop-named l =
    let stored = stored_by l.tables.0 (told l.stored) l.unit in
    let ms = unit_members l.tables.0 l.unit in
    l.all.items ++ rows_by stored ms (shown (drop l.named-index l.rows)) ≡ rows_by stored ms (shown l.rows)
