use Rattle.std.proofs.Common.{◌≡◌, ◌++◌, drop, map}
use Rattle.sp_solver.specs.Told.{told}
use Rattle.sp_type_list_context.specs.Contexts.{modules_from, in_modules}
use Rattle.sp_type_list_context.specs.Holds.{here_told}
use Rattle.sp_type_list_context.proofs.modules.in_modules.Given as goal

abbrev pub invariant-loop-module : goal.invariant-loop-module
invariant-loop-module l =
    map here_told l.all.items ++ modules_from l.known.row.now.0 (told l.known.row.now.1) (told l.known.answers.now) (told l.stored) l.owner (drop l._module-index l._module-items) ≡ in_modules l.known.row.now.0 (told l.known.row.now.1) (told l.known.answers.now) (told l.stored)
