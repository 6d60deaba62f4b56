use Rattle.std.proofs.Common.{◌≡◌, length}
use Rattle.sp_names.specs.Tables.{Each}
use Rattle.sp_solver.specs.Told.{told}
use Rattle.sp_type_values.specs.inside.Places.{AreNeeds}
use Rattle.sp_type_values.proofs.row.ValueRow.all_needs.Given as goal

abbrev pub invariant-loop-place : goal.invariant-loop-place
invariant-loop-place l = (length l.all.items ≡ l.place) × Each (AreNeeds l.self.0 (told l.self.1)) l.all.items
