use Rattle.std.proofs.Common.{◌≡◌, ◌++◌, drop, map}
use Rattle.sp_type_declarations.specs.Bitfields.{typed_bitfield}
use Rattle.sp_type_declarations.proofs.bitfield_rows.bitfields.Given as goal

abbrev pub invariant-loop-i : goal.invariant-loop-i
invariant-loop-i l = l.list.items ++ map typed_bitfield (drop l.i l.rows) ≡ map typed_bitfield l.rows
