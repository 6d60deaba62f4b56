use Rattle.sp_solver.specs.Told.{told}
use Rattle.sp_type_values.proofs.Steps.{needs_at}
use Rattle.sp_type_values.proofs.system.SystemDependent.needs.Goals as goal

pub returns : goal.returns
returns c =
    let s = c.args.self.now in
    needs_at s.row.now.0 (told s.row.now.1) s.needs.items c.args.i c.index.result.now c.deref.result.now c.requires s.all s.each c.index.ensures c.deref.ensures.value
