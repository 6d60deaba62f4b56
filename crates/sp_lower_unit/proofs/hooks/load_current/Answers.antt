use Rattle.std.proofs.lemmas.Result.{on_ok_weaker}
use Rattle.sp_methods.specs.Kinds.{Unsigned}
use Rattle.sp_code.specs.Shapes.{push}
use Rattle.sp_emit.proofs.Adding.{adds_turn}
use Rattle.sp_lower_unit.proofs.Loaded.{current_loaded}
use Rattle.sp_lower_unit.proofs.hooks.load_current.Goals as goal

pub returns : goal.returns
returns c =
    on_ok_weaker c.push_row.result
    (adds_turn (push Unsigned) (current_loaded c.args.out.now _ _ _ c.args.signed _ c.value_slot.ensures c.in_ok-emit.ensures c.in_ok-push_read.ensures c.in_ok-emit-2.ensures)) c.push_row.ensures
