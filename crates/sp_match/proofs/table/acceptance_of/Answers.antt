use Rattle.std.proofs.Common.{sym, subst, ◌∙◌}
use Rattle.sp_match.specs.Bits.{holds}
use Rattle.sp_match.specs.Running.{IsWinner}
use Rattle.sp_match.proofs.Deciding.{is_winner}
use Rattle.sp_match.proofs.table.acceptance_of.Goals as goal

pub returns : goal.returns
returns c = λ net m. record {
  wins = subst (IsWinner net (holds c.args.set.now.items)) (sym c.winner.ensures) (is_winner net c.args.machine.now.goals.items (holds c.args.set.now.items) m.goals);
  reads = λ e. let x = c.reads_on.ensures.some e in (x.0, x.1, sym (m.bytes x.0) ∙ x.2);
  ends = λ e p h. sym (m.bytes p) ∙ c.reads_on.ensures.none e p h;
}
