use Rattle.sp_frames.proofs.Tops.{top_lent}
use Rattle.sp_frames.proofs.operands.Operands.on_top.Goals as goal

pub returns : goal.returns
returns c = top_lent c.args.n c.self.inside.height c.self.inside.slots.items c.deref.result.now c.args.self.now c.deref.ensures.value c.self.view_is c.self.invariant c.requires
