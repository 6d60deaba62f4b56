use Rattle.std.proofs.Common.{◌+◌, length}
use Rattle.sp_solver.specs.Rows.{fresh_in}
use Rattle.sp_solver.proofs.Steps.{Visiting}
use Rattle.sp_solver.proofs.search.visit.Given as goal

abbrev pub invariant-loop-row : goal.invariant-loop-row
invariant-loop-row g l = Visiting (g.Q.Questions.tries l.q) (g.Q.Questions.ready l.q) (g.Q.Questions.amount l.q) l.known.items l.begun.items l.cursors.items l.row.items l.here l.fn.begun.items l.fn.root

abbrev pub decreases-loop-row : goal.decreases-loop-row
decreases-loop-row g l = fresh_in l.begun.items + fresh_in l.begun.items + length l.row.items
