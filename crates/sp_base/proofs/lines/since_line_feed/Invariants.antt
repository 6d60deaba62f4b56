use Rattle.std.proofs.Common.{◌≡◌, ◌≤◌, take, reverse}
use Rattle.std.specs.List.{position_or_len}
use Rattle.sp_base.specs.Places.{is_line_feed}
use Rattle.sp_base.proofs.lines.since_line_feed.Given as goal

abbrev pub invariant-loop-byte : goal.invariant-loop-byte
invariant-loop-byte l = record { value : l.since ≡ position_or_len is_line_feed (reverse (take l.byte-index l.text)); within : l.since ≤ l.byte-index }
