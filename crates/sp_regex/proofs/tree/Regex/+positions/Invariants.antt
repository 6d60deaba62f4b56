use Rattle.std.proofs.Common.{◌≡◌, ◌-◌, ◌^◌, min, take}
use Rattle.sp_regex.specs.Trees.{sequence, positions_of}
use Rattle.sp_regex.proofs.tree.Regex.+positions.Given as goal

abbrev pub invariant-loop-part : goal.invariant-loop-part
invariant-loop-part l = l.total ≡ min (positions_of (sequence (take l.part-index l.part-items))) (2 ^ 64 - 1)
