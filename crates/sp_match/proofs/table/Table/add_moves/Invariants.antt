use Rattle.std.proofs.Common.{◌≡◌, ◌+◌, ◌*◌, ◌≤◌, List, length}
use Rattle.sp_match.specs.declared.spot.Spot.{Spot}
use Rattle.sp_match.specs.Tables.{IsMachineOf, AreKept}
use Rattle.sp_match.specs.Sizes.{IsTableOf}
use Rattle.sp_match.proofs.table.Table.add_moves.Given as goal

abbrev pub invariant-loop-class : goal.invariant-loop-class
invariant-loop-class l = record {
  table : (net : List Spot) → IsMachineOf net l.machine → length l.initial.self.moves.items ≡ l.state * length l.machine.classes.firsts.items → IsTableOf net l.machine l.initial.self → IsTableOf net l.machine l.self × AreKept l.initial.self.states.sets.items l.self.states.sets.items × (length l.self.moves.items ≡ l.state * length l.machine.classes.firsts.items + l.class);
  more : length l.initial.self.states.sets.items ≤ length l.self.states.sets.items;
}
