use Rattle.sp_solver.proofs.Steps.{IsFirst, Visited}
use Rattle.sp_solver.proofs.search.answers.Given as goal

abbrev pub invariant-loop : goal.invariant-loop
invariant-loop g l = IsFirst l.counter l.known.items l.begun.items l.cursors.items

abbrev pub invariant-loop-i : goal.invariant-loop-i
invariant-loop-i g l = Visited (g.Q.Questions.tries l.q) (g.Q.Questions.ready l.q) (g.Q.Questions.amount l.q) l.i l.known.items l.begun.items l.cursors.items
