use Rattle.std.proofs.Common.{◌≡◌, ◌++◌, drop}
use Rattle.sp_meaning.specs.Names.{range_names}
use Rattle.sp_lower_tables.proofs.labels.range_names.Given as goal

abbrev pub invariant-loop-range : goal.invariant-loop-range
invariant-loop-range l = l.names.items ++ range_names (drop l.range-index l.ranges) ≡ range_names l.ranges
