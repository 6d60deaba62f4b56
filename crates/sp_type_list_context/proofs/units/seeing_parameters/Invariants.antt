use Rattle.std.proofs.Common.{◌≡◌, ◌++◌, drop, map}
use Rattle.sp_type_list_context.specs.Contexts.{seeing}
use Rattle.sp_type_list_context.specs.Holds.{here_told, seeing_told}
use Rattle.sp_type_list_context.proofs.units.seeing_parameters.Given as goal

abbrev pub invariant-loop-i : goal.invariant-loop-i
invariant-loop-i l =
    map seeing_told l.all.items ++ seeing (map here_told (drop l.i l.homes)) (drop l.i l.tables) ≡ seeing (map here_told l.homes) l.tables
