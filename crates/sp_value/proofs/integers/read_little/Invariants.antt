use Rattle.std.proofs.Common.{◌≡◌, ◌<◌, ◌≤◌, ◌-◌, ◌^◌, drop, length}
use Rattle.sp_value.specs.Integers.{little_endian}
use Rattle.sp_value.proofs.integers.read_little.Given as goal

abbrev pub invariant-loop-i : goal.invariant-loop-i
invariant-loop-i l = (l.number < 256 ^ (length l.bytes - l.i)) × (l.number ≡ little_endian (drop l.i l.bytes)) × (l.i ≤ length l.bytes)
