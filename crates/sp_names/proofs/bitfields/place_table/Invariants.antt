use Rattle.std.proofs.Common.{drop}
use Rattle.sp_names.specs.Tables.{PlacesLeadTo, trees_of, placed_by}
use Rattle.sp_names.proofs.bitfields.place_table.Given as goal

abbrev pub invariant-loop-j : goal.invariant-loop-j
invariant-loop-j l = PlacesLeadTo l.first (trees_of (drop l.first l.list)) l.j (trees_of (drop l.j l.list)) (placed_by l.table)
