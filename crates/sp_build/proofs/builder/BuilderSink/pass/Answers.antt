use Rattle.sp_build.proofs.Going.{passed}
use Rattle.sp_build.proofs.builder.BuilderSink.pass.Goals as goal

pub returns : goal.returns
returns c = passed c.args.self.now c.act.new.self c.args.action c.args.at c.act.result c.act.ensures
