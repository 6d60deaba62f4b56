use Rattle.std.proofs.Common.{◌≡◌, ◌++◌, drop}
use Rattle.sp_meaning.specs.Names.{member_names}
use Rattle.sp_lower_tables.proofs.names.member_names.Given as goal

abbrev pub invariant-loop-member : goal.invariant-loop-member
invariant-loop-member l = l.names.items ++ member_names (drop l.member-index l.members) ≡ member_names l.members
