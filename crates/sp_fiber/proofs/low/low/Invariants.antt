use Rattle.std.proofs.Common.{◌≡◌, ◌≤◌, length, take, reverse}
use Rattle.sp_code.specs.Machine.{low_of}
use Rattle.sp_frames.specs.Frames.{frames_of}
use Rattle.sp_fiber.proofs.low.low.Given as goal

abbrev pub invariant-loop-left : goal.invariant-loop-left
invariant-loop-left l = (l.left ≤ length l.frames) × (low_of (frames_of (reverse (take l.left l.frames))) l.low ≡ low_of (frames_of (reverse l.frames)) l.inside)

abbrev pub decreases-loop-left : goal.decreases-loop-left
decreases-loop-left l = l.left
