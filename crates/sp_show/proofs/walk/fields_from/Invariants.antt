use Rattle.std.proofs.Common.{◌≡◌, ◌++◌, drop, reverse}
use Rattle.sp_show.specs.Plans.{with_names}
use Rattle.sp_show.proofs.walk.fields_from.Given as goal

abbrev pub invariant-loop-m : goal.invariant-loop-m
invariant-loop-m l = l.fields.items ++ with_names (drop l.m l.names) (drop l.m l.instance.members) (reverse l.trees.items) ≡ with_names l.names l.instance.members l.fn.trees.items
