use Rattle.std.proofs.Common.{◌≡◌, ◌++◌, drop}
use Rattle.sp_type_hooks.specs.Hooks.{ranks_of}
use Rattle.sp_type_hooks.proofs.ranks.ranks_of.Given as goal

abbrev pub invariant-loop-i : goal.invariant-loop-i
invariant-loop-i l = l.ranks.items ++ ranks_of (drop l.i l.hooks) ≡ ranks_of l.hooks
