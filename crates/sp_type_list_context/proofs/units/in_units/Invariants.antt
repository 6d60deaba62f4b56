use Rattle.std.proofs.Common.{◌≡◌, ◌++◌, drop, map}
use Rattle.sp_type_list_context.specs.Contexts.{being}
use Rattle.sp_type_list_context.specs.Holds.{seeing_told, unit_told}
use Rattle.sp_type_list_context.proofs.units.in_units.Given as goal

abbrev pub invariant-loop-i : goal.invariant-loop-i
invariant-loop-i l =
    map unit_told l.all.items ++ being (drop l.i l.types) (map seeing_told (drop l.i l.contexts)) ≡ being l.types (map seeing_told l.contexts)
