use Rattle.sp_build.proofs.Held.{left_out_holds}
use Rattle.sp_build.proofs.stack.TreeStack.leave_out.Goals as goal

pub invariant_of-self-2 : goal.invariant_of-self-2
invariant_of-self-2 c = rw c.in_ok-push.ensures.items (left_out_holds _ _ _ c.self.invariant c.are_sound.ensures.few).0

pub returns : goal.returns
returns c = rw (c.in_ok-push.ensures.items, ← c.self.view_is) (left_out_holds _ _ _ c.self.invariant c.are_sound.ensures.few).1
