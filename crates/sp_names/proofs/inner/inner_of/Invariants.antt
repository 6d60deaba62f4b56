use Rattle.std.proofs.Common.{◌≡◌, ◌++◌, drop}
use Rattle.sp_names.specs.Declarations.{inner_of}
use Rattle.sp_names.proofs.inner.inner_of.Given as goal

abbrev pub invariant-loop-row : goal.invariant-loop-row
invariant-loop-row l = l.list.items ++ inner_of (drop l.row-index l.rows) ≡ inner_of l.rows
