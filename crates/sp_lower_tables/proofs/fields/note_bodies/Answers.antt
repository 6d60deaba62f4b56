use Rattle.std.proofs.Common.{drop, refl, arith}
use Rattle.std.proofs.lemmas.List.{drop_more}
use Rattle.sp_lower_tables.specs.inside.Fields.{field_if, field_among}
use Rattle.sp_lower_tables.proofs.Numbered.{none_left}
use Rattle.sp_lower_tables.proofs.Noted.{leads_on, leads_to, among_splits}
use Rattle.sp_lower_tables.proofs.fields.note_bodies.Goals as goal

pub loop-body-preserved : goal.loop-body-preserved
loop-body-preserved c =
    let f = c.args.head.now in
    let all = c.args.bodies.now in
    let i = c.loop-body.body-index in
    leads_on (field_among f) (field_if f) (among_splits f) c.args.rows.now.items c.loop-body.rows.items c.note.new.rows.items all i _ (drop_more all i _ c.loop-body-test.true) c.loop-body.invariant c.note.ensures

pub returns : goal.returns
returns c =
    let all = c.args.bodies.now in
    let i = c.loop-body.body-index in
    leads_to (field_among c.args.head.now) c.args.rows.now.items c.loop-body.rows.items all (drop i all) (λ h. refl) (none_left all i (omega arith)) c.loop-body.invariant
