use Rattle.std.proofs.Common.{◌≡◌, ◌-◌, length, take, None}
use Rattle.sp_names.specs.Aliases.{first_open}
use Rattle.sp_solver.specs.Told.{told}
use Rattle.sp_name_answers.proofs.aliases.next_open.Given as goal

abbrev pub invariant-loop-cursor : goal.invariant-loop-cursor
invariant-loop-cursor l = first_open (told l.known) (take l.cursor l.list) ≡ None

abbrev pub decreases-loop-cursor : goal.decreases-loop-cursor
decreases-loop-cursor l = length l.list - l.cursor
