use Rattle.std.proofs.Common.{◌∙◌, ap, not, ◌&&◌}
use Rattle.sp_regex.specs.Bytes.{is_within}
use Rattle.sp_regex.specs.Room.{leaves_byte}
use Rattle.sp_regex.proofs.Covers.{some_below-same}
use Rattle.sp_regex.proofs.class.Ranges.leaves.Goals as goal

pub returns : goal.returns
returns c = c.leaves_uncovered.ensures ∙ some_below-same 256 _ _ (λ k lt. ap (λ b. not b && not (is_within k c.args.range)) (c.self.invariant k lt)) ∙ ap (λ rs. leaves_byte rs c.args.range) (c.self.view_is)
