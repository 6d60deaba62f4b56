use Rattle.sp_meaning.specs.Globals.{globals_of}
use Rattle.sp_lower.proofs.Counted.{gives_kinds}
use Rattle.sp_lower.proofs.units.kinds_of_unit.Goals as goal

pub returns : goal.returns
returns c = gives_kinds (globals_of c.args.list.now).ranges _ _ _ _ c.args.x.now _ c.in_ok-parameters.ensures c.in_ok-members.ensures c.in_ok-locals.ensures
