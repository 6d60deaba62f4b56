use Rattle.std.proofs.Common.{◌++◌, drop, ap, ◌∙◌, arith}
use Rattle.sp_value.specs.Pieces.{all_in}
use Rattle.sp_show.specs.Plans.{plans, tells, halves}
use Rattle.sp_show.proofs.Moves.{halves_before, from_before}
use Rattle.sp_show.proofs.walk.push_entries.Goals as goal

pub loop-i-preserved : goal.loop-i-preserved
loop-i-preserved c =
    let old = plans c.args.tasks.now.items in
    let i = c.loop-i.i in
    let ps = c.args.pieces.now in
    let lent = c.as_slice.ensures.value ∙ ap (λ v. v.items) c.deref.ensures in (
      omega arith,
      c.in_ok-push_pairs.ensures
          ∙ ap (λ qs. tells (halves c.as_slice.result.now) ++ qs) c.loop-i.invariant.1
          ∙ ap (λ es. tells (halves es) ++ (tells (halves (all_in (drop i ps))) ++ old)) lent
          ∙ halves_before c.index-pieces-i.result.value.items (all_in (drop i ps)) old
          ∙ ap (λ qs. tells (halves (all_in qs)) ++ old) (from_before ps i c.index-pieces-i.result (omega arith) (omega arith) c.index-pieces-i.is),
    )
