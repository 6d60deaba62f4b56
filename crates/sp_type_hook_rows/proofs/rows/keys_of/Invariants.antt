use Rattle.std.proofs.Common.{◌≡◌, ◌++◌, drop}
use Rattle.sp_type_hook_rows.specs.HookRows.{keys_of}
use Rattle.sp_type_hook_rows.proofs.rows.keys_of.Given as goal

abbrev pub invariant-loop-i : goal.invariant-loop-i
invariant-loop-i l = l.keys.items ++ keys_of (drop l.i l.rows) ≡ keys_of l.rows
