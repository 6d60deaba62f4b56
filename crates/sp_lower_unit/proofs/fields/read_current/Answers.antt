use Rattle.std.proofs.lemmas.Result.{on_ok_weaker}
use Rattle.sp_lower_unit.proofs.Stored.{current_read}
use Rattle.sp_lower_unit.proofs.fields.read_current.Goals as goal

pub returns : goal.returns
returns c = on_ok_weaker c.emit_last.result (current_read c.args.out.now _ _ c.args.form _ c.value_slot.ensures c.in_ok-read.ensures) c.emit_last.ensures
