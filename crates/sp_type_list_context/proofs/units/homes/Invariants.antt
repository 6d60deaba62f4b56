use Rattle.std.proofs.Common.{◌≡◌, ◌++◌, drop, map}
use Rattle.sp_solver.specs.Told.{told}
use Rattle.sp_type_list_context.specs.Contexts.{homes_of, homes}
use Rattle.sp_type_list_context.specs.Holds.{here_told}
use Rattle.sp_type_list_context.proofs.units.homes.Given as goal

abbrev pub invariant-loop-i : goal.invariant-loop-i
invariant-loop-i l =
    map here_told l.all.items ++ homes_of l.known.row.now.0 (told l.known.row.now.1) (told l.known.answers.now) (told l.stored) (drop l.i l.units) ≡ homes l.known.row.now.0 (told l.known.row.now.1) (told l.known.answers.now) (told l.stored)
