use Rattle.sp_type_exprs.proofs.Lists.{in_turn_step}
use Rattle.sp_type_exprs.proofs.rows.in_turn.Goals as goal

pub loop-pair-preserved : goal.loop-pair-preserved
loop-pair-preserved c =
    in_turn_step c.args.key.now c.args.value.now c.loop-pair.yielded c.in-Some.pair c.loop-pair.all.items c.put_both.new.all.items c.loop-pair.invariant c.in_ok-put_both.ensures
