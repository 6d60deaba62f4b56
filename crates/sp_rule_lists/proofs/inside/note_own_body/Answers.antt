use Rattle.sp_rule_lists.proofs.inside.note_own_body.Goals as goal

pub returns : goal.returns
returns g c = rw c.in_ok-slots.ensures at c.note_body_in.ensures
