use Rattle.std.proofs.Common.{◌∙◌}
use Rattle.sp_lib.proofs.BytesBegun.{starts_begins}
use Rattle.sp_lib.proofs.slices.starts_with.Goals as goal

pub returns : goal.returns
returns c = c.starts_with.ensures.value ∙ starts_begins c.args.x.now c.args.y.now
