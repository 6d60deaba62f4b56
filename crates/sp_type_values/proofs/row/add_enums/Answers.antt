use Rattle.std.proofs.Common.{length}
use Rattle.sp_names.proofs.Lists.{each_more, one_longer}
use Rattle.sp_type_values.specs.inside.Places.{IsEnumPlace}
use Rattle.sp_type_values.proofs.Steps.{one_enum, place_is}
use Rattle.sp_type_values.proofs.row.add_enums.Goals as goal

pub loop-place-preserved : goal.loop-place-preserved
loop-place-preserved c =
    let list = c.args.names.now in
    let n = c.loop-place.place in
    let before = c.loop-place.invariant in
    let p = c.in_ok-add_enum_at.field-0 in
    let e = c.in_ok-add_enum_at.ensures in
    let first = c.args.list.now.items in
    let numbers = c.enums-numbers.result.now in (
      one_enum list n first c.loop-place.list.items c.add_enum_at.new.list.items numbers c.enums-numbers.ensures before.0 e.added,
      one_longer c.loop-place.places.items c.push.new.self.items n p c.in_ok-push.ensures.items before.1,
      each_more (IsEnumPlace list (length first)) c.loop-place.places.items c.push.new.self.items n p c.in_ok-push.ensures.items before.1 before.2
          (place_is list n first c.loop-place.list.items numbers p c.enums-numbers.ensures before.0 e.first e.count),
    )
