use Rattle.std.proofs.Common.{◌≡◌, []}
use Rattle.std.specs.Prelude.{replicate}
use Rattle.sp_lower_hooks.specs.inside.Rows.{turns_in}
use Rattle.sp_lower_hooks.proofs.rows.no_bodies.Given as goal

abbrev pub invariant-loop : goal.invariant-loop
invariant-loop l = turns_in l.rows.items ≡ replicate l.counter []
