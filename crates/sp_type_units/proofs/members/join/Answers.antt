use Rattle.std.proofs.Common.{◌≡◌, ◌∙◌, ◌∷◌, ◌++◌, [], ap, sym, false, is_some, length, arith}
use Rattle.sp_type_units.specs.inside.Shown.{shown, shown_one}
use Rattle.sp_name_tables.specs.Tables.{told_by}
use Rattle.sp_type_units.proofs.Joining.{shown_more, length_shown, joins_new}
use Rattle.sp_type_units.proofs.members.join.Goals as goal

pub returns : goal.returns
returns c =
    let numbers = c.args.numbers.now in
    let rows = c.args.rows.now in
    let m = shown_one c.args.named in
    let absent : is_some (told_by numbers m.name) ≡ false = sym (c.is_some.ensures ∙ ap is_some c.look_up.ensures) ∙ c.if-is_some.false in
    let long = length_shown rows.items in
    let many : c.in_ok-next.next ≡ length (shown rows.items) = omega (arith, c.in_ok-next.ensures, c.len.ensures, rows.ok.0, long) in
    let grows : shown c.push.new.self.items ≡ shown rows.items ++ m ∷ [] = ap shown c.in_ok-push.ensures.items ∙ shown_more rows.items c.args.named in
    joins_new numbers c.declare.new.table (shown rows.items) (shown c.push.new.self.items) m c.in_ok-next.next absent many c.in_ok-declare.ensures grows
