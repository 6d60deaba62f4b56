use Rattle.sp_ast.proofs.Growth.{entry_read, no_height_at}
use Rattle.sp_ast.proofs.arena.Arena.levels.Goals as goal

pub returns-in-Some : goal.returns-in-Some
returns-in-Some c =
    let a = c.self.inside in
    rw (← c.self.view_is) ((entry_read a.heads a.places.items a.entries.items c.deref.result.now c.args.at c.in-Some.entry.now c.self.invariant c.deref.ensures.value c.in-Some.ensures.lookup.0 c.in-Some.ensures.lookup.1).levels)

pub returns-in-None : goal.returns-in-None
returns-in-None c =
    let a = c.self.inside in
    rw (← c.self.view_is) (no_height_at a.heads a.places.items a.entries.items c.deref.result.now c.args.at c.deref.ensures.value c.in-None.ensures.lookup.0)
