use Rattle.std.proofs.Common.{subst}
use Rattle.sp_type_modules.specs.Members.{named_among, unit_items}
use Rattle.sp_type_modules.specs.inside.Kept.{Joins}
use Rattle.sp_type_modules.proofs.Joining.{holds_firsts}
use Rattle.sp_type_modules.proofs.members.member_table.Goals as goal

pub returns : goal.returns
returns c =
    let empty = c.no_members-table.result in
    let table = c.add_items.new.table in
    let joins : Joins empty table (named_among (unit_items c.args.unit.now)) = subst (λ u. Joins empty table (named_among (unit_items u))) c.view.ensures c.in_ok-add_items.ensures in
    holds_firsts empty table (named_among (unit_items c.args.unit.now)) c.no_members-table.ensures joins
