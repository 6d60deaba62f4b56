use Rattle.std.proofs.Common.{ℕ, List, subst}
use Rattle.sp_lower_tables.specs.inside.Fields.{field_among, Notes}
use Rattle.sp_lower_tables.proofs.fields.note_field.Goals as goal

pub returns : goal.returns
returns c = subst (λ (bodies : List ℕ). Notes c.args.rows.now.items c.note_bodies.new.rows.items (field_among c.args.head.now bodies)) c.as_slice.ensures c.note_bodies.ensures
