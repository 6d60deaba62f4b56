use Rattle.std.proofs.Common.{◌≡◌, ◌++◌, drop, map}
use Rattle.sp_solver.specs.Told.{told}
use Rattle.sp_type_values.specs.Answers.{values}
use Rattle.sp_type_list_context.specs.Holds.{here_told}
use Rattle.sp_type_list.specs.inside.Units.{units_by}
use Rattle.sp_type_list.proofs.typed.units_with.Given as goal

abbrev pub invariant-loop-i : goal.invariant-loop-i
invariant-loop-i l =
    l.all.items ++ units_by l.units.tables.now.0 (told l.units.stored.now) l.units.sites.now l.units.hooks.now (values l.known.row.now.0 (told l.known.row.now.1) (told l.known.answers.now)) l.calls.input l.calls.connect_filter l.i (map here_told (drop l.i l.homes)) ≡ units_by l.units.tables.now.0 (told l.units.stored.now) l.units.sites.now l.units.hooks.now (values l.known.row.now.0 (told l.known.row.now.1) (told l.known.answers.now)) l.calls.input l.calls.connect_filter 0 (map here_told l.homes)
