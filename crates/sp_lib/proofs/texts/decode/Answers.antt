use Rattle.sp_lib.proofs.TextsDecoded.{decoded_refused}
use Rattle.sp_lib.proofs.texts.decode.Goals as goal

pub returns-then-strategy-eq2 : goal.returns-then-strategy-eq2
returns-then-strategy-eq2 c =
    decoded_refused c.args.x.now c.args.charset c.args.strategy c.front-whole.result.now c.if-strategy-eq2.true c.front-whole.ensures c.if-whole-x.false
