use Rattle.std.proofs.Common.{◌-◌, ◌∙◌, ap, take, reverse}
use Rattle.std.proofs.lemmas.List.{with_items_is}
use borrow.Rule.Slice.PartMut.{put_mid}
use Rattle.sp_frames.proofs.Tops.{part_put, put_under}
use Rattle.sp_frames.proofs.operands.Operands.put_under.Goals as goal

pub returns : goal.returns
returns c =
    let h = c.self.inside.height in
    let slots = c.self.inside.slots in
    let lent = c.deref_mut.result.now in
    let part = c.rotate_right.new.self in
    let a = h - 1 - c.args.n - 1 in
    let k = h - 1 - a in
    ap (λ l. reverse (take h l)) (with_items_is slots (put_mid a k lent part) (part_put a k lent part c.rotate_right.ensures.len ∙ c.deref_mut.ensures.len))
    ∙ put_under c.args.n h slots.items part lent c.args.self.now c.deref_mut.ensures.value c.self.view_is c.self.invariant c.requires c.rotate_right.ensures.after
