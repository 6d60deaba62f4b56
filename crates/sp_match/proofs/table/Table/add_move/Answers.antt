use Rattle.std.proofs.Common.{◌≡◌, ℕ, ◌<◌, ◌+◌, get_or, ◌∷◌, [], length, length-append, sym, subst, ◌∙◌}
use Rattle.sp_match.specs.Bits.{holds, row}
use Rattle.sp_match.specs.Running.{IsNext}
use Rattle.sp_match.specs.Tables.{AreKept, IsTable}
use Rattle.sp_match.proofs.Tabling.{row_is, move_added}
use Rattle.sp_match.proofs.table.Table.add_move.Goals as goal

pub returns-clause-table : goal.returns-clause-table
returns-clause-table c = λ net m lt long table.
    let machine = c.args.machine.now in
    let old = c.args.self.now.states.sets.items in
    let new = c.enter.new.self.sets.items in
    let is = row_is old c.args.state c.index.result.now c.requires c.index.ensures in
    let step : (b : ℕ) → b < 256 → c.args.class ≡ get_or machine.classes.of.items b 0 → IsNext net (holds (row old c.args.state)) (holds c.step.new.next.items) b =
    λ b small class. subst (λ z. IsNext net (holds z) (holds c.step.new.next.items) b) (sym is) (c.step.ensures.step net b m c.in_ok-next.ensures.len small class) in
    let e = c.in_ok-to.ensures.states net m (c.step.ensures.len ∙ c.in_ok-next.ensures.len) table.states in
    subst (λ z. IsTable net machine.words machine.classes.of.items machine.classes.firsts.items new c.enter.new.self.acceptances.items z × AreKept old new × (length z ≡ length c.args.self.now.moves.items + 1)) (sym c.in_ok-push.ensures.items) (
      move_added net machine.words machine.classes.of.items machine.classes.firsts.items old new c.args.self.now.states.acceptances.items c.enter.new.self.acceptances.items c.args.self.now.moves.items c.in_ok-to.to c.step.new.next.items c.args.state c.args.class lt long table c.requires step e.0 e.1 e.2,
      e.1,
      length-append c.args.self.now.moves.items (c.in_ok-to.to ∷ []),
    )

pub returns-clause-more : goal.returns-clause-more
returns-clause-more c = c.in_ok-to.ensures.more
