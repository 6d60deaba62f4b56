use Rattle.std.proofs.Common.{refl}
use Rattle.sp_type_member_names.proofs.Passing.{name_passed}
use Rattle.sp_type_member_names.proofs.seen.pass_name.Goals as goal

pub returns-in_ok-push : goal.returns-in_ok-push
returns-in_ok-push c =
    name_passed c.args.number c.in-Some.number c.args.at c.args.seen.now (record { near = c.raise.new.near; kept = c.args.seen.now.kept; trail = c.push.new.self; places = c.note.new.places }) c.is_near-taken.result
    c.in-Some.is c.is_near-taken.ensures c.in_ok-note.ensures c.in_ok-raise.ensures c.in_ok-push.ensures.items (λ j t. refl)
