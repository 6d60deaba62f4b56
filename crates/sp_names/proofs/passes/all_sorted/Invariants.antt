use Rattle.std.proofs.Common.{◌≡◌, length, take}
use Rattle.sp_names.specs.Tables.{Each, IsNumber, AreSorted}
use Rattle.sp_names.proofs.passes.all_sorted.Given as goal

abbrev pub invariant-loop-g : goal.invariant-loop-g
invariant-loop-g l =
    AreSorted (take l.g l.rows) l.sorted.units.items l.sorted.enums.items l.sorted.constants.items l.sorted.functions.items
    × (length l.numbers.items ≡ l.g) × Each (IsNumber l.rows) l.numbers.items
