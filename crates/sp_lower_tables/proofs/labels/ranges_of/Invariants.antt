use Rattle.std.proofs.Common.{◌≡◌, ◌++◌, drop}
use Rattle.sp_code.specs.Programs.{range_names}
use Rattle.sp_meaning.specs.Names.{names_of_ranges}
use Rattle.sp_lower_tables.proofs.labels.ranges_of.Given as goal

abbrev pub invariant-loop-bitfield : goal.invariant-loop-bitfield
invariant-loop-bitfield l = range_names l.rows.items ++ names_of_ranges (drop l.bitfield-index l.bitfields) ≡ names_of_ranges l.bitfields
