use Rattle.std.proofs.Common.{◌≡◌, None, replicate}
use Rattle.sp_lower_tables.proofs.fields.no_fields.Given as goal

abbrev pub invariant-loop : goal.invariant-loop
invariant-loop l = l.rows.items ≡ replicate l.counter None
