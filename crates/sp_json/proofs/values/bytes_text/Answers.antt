use Rattle.std.proofs.Common.{arith}
use Rattle.sp_json.proofs.Texts.{bytes_step}
use Rattle.sp_json.proofs.values.bytes_text.Goals as goal

pub loop-byte-preserved : goal.loop-byte-preserved
loop-byte-preserved c =
    bytes_step c.args.bytes.now c.loop-byte.byte-index c.from.result _ _ (omega arith) c.from.ensures c.loop-byte.invariant c.in_ok-push.ensures.bytes
