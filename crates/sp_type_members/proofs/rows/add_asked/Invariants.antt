use Rattle.std.proofs.Common.{◌≡◌, ◌++◌}
use Rattle.sp_type_modules.specs.Sources.{asked}
use Rattle.sp_type_members.proofs.rows.add_asked.Given as goal

abbrev pub invariant-loop-source : goal.invariant-loop-source
invariant-loop-source l = l.all.items ≡ l.fn.all.items ++ asked l.unit l.yielded
