use Rattle.std.proofs.Common.{length, ◌∙◌, arith}
use Rattle.sp_match.proofs.Tabling.{zero_row}
use Rattle.sp_match.proofs.table.Table.of_machine.Goals as goal

pub loop-state-init : goal.loop-state-init
loop-state-init c = λ net m room. let e = c.in_ok-table.ensures net m room in (e.0, e.2, e.3, e.1 ∙ zero_row (length c.args.machine.now.classes.firsts.items))

pub loop-state-preserved : goal.loop-state-preserved
loop-state-preserved c = λ net m room.
    let v = c.loop-state.invariant net m room in
    let e = c.in_ok-add_moves.ensures.table net m v.3 v.0 in
    let kept = e.1 in
    let more = kept.0 in
    let some = v.1 in
    (e.0, omega arith, kept.1 0 some ∙ v.2, e.2)
