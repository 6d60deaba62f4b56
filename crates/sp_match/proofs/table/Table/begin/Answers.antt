use Rattle.std.proofs.Common.{length, sym, ap, ◌∙◌, arith}
use Rattle.sp_match.specs.Bits.{row}
use Rattle.sp_match.proofs.Tabling.{begins_empty, table_none}
use Rattle.sp_match.proofs.table.Table.begin.Goals as goal

pub returns : goal.returns
returns c = λ net m room.
    let machine = c.args.machine.now in
    let none = c.new-states.ensures.0 in
    let size = ap length none in
    let e = c.in_ok-add.ensures.states net m room (begins_empty net machine.words c.new-states.result.sets.items c.new-states.result.acceptances.items none c.new-states.ensures.1) in
    let long = e.2 in (
      table_none net machine.words machine.classes.of.items machine.classes.firsts.items c.add-2.new.self.sets.items c.add-2.new.self.acceptances.items c.new-moves.result.items c.new-moves.ensures.items e.0,
      ap length c.new-moves.ensures.items,
      omega arith,
      ap (row c.add-2.new.self.sets.items) (sym size) ∙ e.3,
    )
