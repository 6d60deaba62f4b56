use Rattle.std.proofs.Common.{sym, refl, arith}
use Rattle.sp_lower_hooks.specs.inside.Turns.{turn_of}
use Rattle.sp_lower_hooks.specs.inside.Rows.{turns_in}
use Rattle.sp_lower_hooks.proofs.Gathering.{noted_by, none_noted, rows_long}
use Rattle.sp_lower_hooks.proofs.rows.note.Goals as goal

pub returns-in_ok-push : goal.returns-in_ok-push
returns-in_ok-push c =
    noted_by c.args.rows.now.items _ c.args.unit c.args.key _ c.push.new.self _ (omega arith) c.index_mut.ensures.value c.in_ok-push.ensures.items refl

pub returns-else-at-len : goal.returns-else-at-len
returns-else-at-len c =
    let rows = c.args.rows.now.items in
    sym (none_noted (turns_in rows) c.args.unit (turn_of c.args.key) (omega (arith, rows_long rows)))
