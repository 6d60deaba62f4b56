use Rattle.std.proofs.Common.{refl}
use Rattle.sp_type_units.specs.inside.Shown.{shown}
use Rattle.sp_type_units.proofs.Joining.{joins_next}
use Rattle.sp_type_units.proofs.members.joined.Goals as goal

pub loop-named-preserved : goal.loop-named-preserved
loop-named-preserved c =
    let before = c.loop-named.invariant in
    let next = c.in_ok-join.ensures before.0 in (
      next.numbers_are,
      joins_next c.args.all.now c.loop-named.named-index _ _ (shown c.loop-named.rows.items) (shown c.join.new.rows.items) c.loop-named-test.true refl next.row_is before.1,
    )
