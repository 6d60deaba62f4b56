use Rattle.std.proofs.Common.{◌≡◌, ◌∙◌, ap, sym, false, is_some, length, arith}
use Rattle.sp_name_tables.specs.Tables.{told_by}
use Rattle.sp_type_members.proofs.Joining.{bytes_decide, joins_new}
use Rattle.sp_type_members.proofs.tables.add_member.Goals as goal

pub returns : goal.returns
returns c =
    let table = c.args.table.now in
    let absent : is_some (told_by table.names c.args.name.now) ≡ false = sym (c.is_some.ensures ∙ ap is_some c.look_up.ensures) ∙ c.if-is_some.false in
    let many : c.in_ok-next.next ≡ length table.sources.items = omega (arith, c.in_ok-next.ensures, c.len.ensures, table.sources.ok.0) in
    joins_new table (record { names = c.declare.new.table; sources = c.push.new.self }) c.args.name.now c.args.source c.in_ok-next.next bytes_decide absent many c.in_ok-declare.ensures c.in_ok-push.ensures.items
