use Rattle.sp_reasm.proofs.PlaceLemmas.{first_begins}
use Rattle.sp_reasm.proofs.pending.Pending.begins_below.Goals as goal

pub returns-in-Some : goal.returns-in-Some
returns-in-Some c = rw (← c.self.view_is) (first_begins c.self.inside.list c.self.inside.index.entries c.in-Some.start.now _ c.args.to c.self.invariant c.in-Some.ensures.first)
