use Rattle.sp_type_member_names.proofs.Passing.{field_passed}
use Rattle.sp_type_member_names.proofs.seen.pass_kept.Goals as goal

pub returns-in_ok-push : goal.returns-in_ok-push
returns-in_ok-push c =
    field_passed c.args.number c.in-Some.number c.args.ty c.args.at c.args.seen.now (record { near = c.raise.new.near; kept = c.keep.new.table; trail = c.push.new.self; places = c.note.new.places }) c.is_taken-taken.result
    c.in-Some.is c.is_taken-taken.ensures c.in_ok-note.ensures c.in_ok-raise.ensures c.in_ok-push.ensures.items c.in_ok-keep.ensures
