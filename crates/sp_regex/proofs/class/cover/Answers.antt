use Rattle.std.proofs.Common.{ap, ◌∙◌, ◌||◌, arith, false, slice_index_or}
use Rattle.sp_regex.proofs.Covers.{within_end}
use Rattle.sp_regex.proofs.class.cover.Goals as goal

pub returns : goal.returns
returns c k lt = c.loop-b.invariant k lt ∙ ap (λ b. slice_index_or c.args.covered.now k false || b) (within_end c.args.range k c.loop-b.b (omega arith))
