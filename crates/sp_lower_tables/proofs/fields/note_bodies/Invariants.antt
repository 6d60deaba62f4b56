use Rattle.std.proofs.Common.{drop}
use Rattle.sp_lower_tables.specs.inside.Fields.{field_among}
use Rattle.sp_lower_tables.proofs.Noted.{Leads}
use Rattle.sp_lower_tables.proofs.fields.note_bodies.Given as goal

abbrev pub invariant-loop-body : goal.invariant-loop-body
invariant-loop-body l = Leads (field_among l.head) l.fn.rows.items l.rows.items l.bodies (drop l.body-index l.bodies)
