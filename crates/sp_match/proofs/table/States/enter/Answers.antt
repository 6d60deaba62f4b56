use Rattle.std.proofs.Common.{rules, ap, ◌≡◌, length, ◌∙◌, arith}
use Rattle.sp_match.specs.Bits.{row}
use Rattle.sp_match.proofs.Tabling.{kept_all, known_state, no_state}
use Rattle.sp_match.proofs.table.States.enter.Goals as goal

pub returns-in-Some-clause-states : goal.returns-in-Some-clause-states
returns-in-Some-clause-states c = λ net m room st. (st, kept_all c.args.self.now.sets.items, known_state c.args.self.now.sets.items c.args.set.items c.in-Some.state (c.find.ensures.within c.in-Some.state c.in-Some.is) (c.find.ensures.same c.in-Some.state c.in-Some.is))

pub returns-then-state-room-clause-states : goal.returns-then-state-room-clause-states
returns-then-state-room-clause-states c = λ net m room st. (st, kept_all c.args.self.now.sets.items, no_state c.args.self.now.sets.items c.args.set.items)

pub returns-clause-states : goal.returns-clause-states
returns-clause-states c = λ net m room st. let x = c.in_ok-add.ensures.states net m room st in let long = x.2 in let same : c.len-state.result ≡ length c.args.self.now.sets.items = search rules in (x.0, x.1, known_state c.add-2.new.self.sets.items c.args.set.items c.len-state.result (omega arith) (ap (row c.add-2.new.self.sets.items) same ∙ x.3))
