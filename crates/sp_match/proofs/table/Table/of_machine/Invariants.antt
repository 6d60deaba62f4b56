use Rattle.std.proofs.Common.{◌≡◌, ◌*◌, ◌<◌, List, length}
use Rattle.sp_match.specs.declared.spot.Spot.{Spot}
use Rattle.sp_match.specs.Bits.{row}
use Rattle.sp_match.specs.Tables.{IsMachineOf}
use Rattle.sp_match.specs.Sizes.{IsTableOf}
use Rattle.sp_match.proofs.table.Table.of_machine.Given as goal

abbrev pub invariant-loop-state : goal.invariant-loop-state
invariant-loop-state l = (net : List Spot) → IsMachineOf net l.machine → length l.fn.start.items ≡ l.machine.words → IsTableOf net l.machine l.table × (0 < length l.table.states.sets.items) × (row l.table.states.sets.items 0 ≡ l.fn.start.items) × (length l.table.moves.items ≡ l.state * length l.machine.classes.firsts.items)
