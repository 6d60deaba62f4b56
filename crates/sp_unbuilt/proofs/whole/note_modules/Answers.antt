use Rattle.sp_unbuilt.proofs.Steps.{one_module}
use Rattle.sp_unbuilt.proofs.whole.note_modules.Goals as goal

pub loop-m-preserved : goal.loop-m-preserved
loop-m-preserved g c =
    one_module (g.T.Texts.texts c.args.texts.now) c.args.modules.now c.loop-m.m c.saturated-number.result c.index-modules-m.result c.lend.result c.text.result.now c.loop-m.first c.note_tree.new.first _ c.loop-m-test.true c.index-modules-m.is c.lend.ensures c.saturated-number.ensures c.text.ensures c.note_tree.ensures c.loop-m.invariant
