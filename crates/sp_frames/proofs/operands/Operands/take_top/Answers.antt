use Rattle.std.proofs.Common.{◌∙◌, ◌-◌, ap, take, drop}
use Rattle.sp_frames.proofs.Tops.{first_slots, top_taken, top_left}
use Rattle.sp_frames.proofs.operands.Operands.take_top.Goals as goal

pub returns-clause-taken : goal.returns-clause-taken
returns-clause-taken c =
    let h = c.self.inside.height in
    let xs = c.self.inside.slots.items in
    top_taken c.args.n h (take h xs) c.args.self.now c.in_ok-values.values.items c.self.view_is (first_slots h xs c.self.invariant) c.requires
    (c.in_ok-values.ensures.tail ∙ ap (drop (h - c.args.n)) c.truncate.ensures.items)

pub returns-clause-left : goal.returns-clause-left
returns-clause-left c =
    let h = c.self.inside.height in
    let xs = c.self.inside.slots.items in
    top_left c.args.n h (take h xs) c.args.self.now c.split_off.new.self.items c.self.view_is (first_slots h xs c.self.invariant) c.requires
    (c.in_ok-values.ensures.items ∙ ap (take (h - c.args.n)) c.truncate.ensures.items)
