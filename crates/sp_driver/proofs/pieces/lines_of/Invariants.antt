use Rattle.std.proofs.Common.{◌≡◌, ◌++◌, drop}
use Rattle.sp_driver.specs.Lines.{event_lines}
use Rattle.sp_driver.proofs.pieces.lines_of.Given as goal

abbrev pub invariant-loop-event : goal.invariant-loop-event
invariant-loop-event l = l.lines ++ event_lines l.trace (drop l.event-index l.events) ≡ event_lines l.trace l.events
