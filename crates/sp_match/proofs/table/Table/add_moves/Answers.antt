use Rattle.std.proofs.Common.{length, arith}
use Rattle.sp_match.proofs.Tabling.{kept_all, kept_then, next_row}
use Rattle.sp_match.proofs.table.Table.add_moves.Goals as goal

pub loop-class-init : goal.loop-class-init
loop-class-init c = record {
  table = λ net m long table. (table, kept_all c.args.self.now.states.sets.items, omega arith);
  more = omega arith;
}

pub loop-class-preserved : goal.loop-class-preserved
loop-class-preserved c = record {
  table = λ net m long table.
      let v = c.loop-class.invariant.table net m long table in
      let e = c.in_ok-add_move.ensures.table net m (omega arith) v.2 v.0 in
      let a = v.2 in let b = e.2 in
      (e.0, kept_then c.args.self.now.states.sets.items c.loop-class.self.states.sets.items c.add_move.new.self.states.sets.items v.1 e.1, omega arith);
  more = (let a = c.loop-class.invariant.more in let b = c.in_ok-add_move.ensures.more in omega arith);
}

pub returns-clause-table : goal.returns-clause-table
returns-clause-table c = λ net m long table.
    let v = c.loop-class.invariant.table net m long table in
    (v.0, v.1, next_row c.args.state (length c.args.machine.now.classes.firsts.items) c.loop-class.class (length c.loop-class.self.moves.items) (omega arith) v.2)
