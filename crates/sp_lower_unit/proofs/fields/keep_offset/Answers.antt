use Rattle.std.proofs.lemmas.Result.{on_ok_weaker}
use Rattle.sp_lower_unit.proofs.Stored.{offset_added}
use Rattle.sp_lower_unit.proofs.fields.keep_offset.Goals as goal

pub returns : goal.returns
returns c =
    on_ok_weaker c.emit_last-2.result
    (offset_added c.args.out.now _ _ _ _ _ c.args.unit c.in_ok-emit.ensures c.in_ok-push_row.ensures c.in_ok-emit_last.ensures c.in_ok-push_row-2.ensures) c.emit_last-2.ensures
