use Rattle.std.proofs.Common.{◌≡◌, None, Some, ◌++◌, ◌∷◌, [], length, ap, sym, subst, ◌∙◌}
use Rattle.sp_match.specs.Bits.{holds}
use Rattle.sp_match.specs.Running.{Stands, IsWinner}
use Rattle.sp_match.specs.Sizes.{live_of}
use Rattle.sp_match.specs.Tables.{best_of}
use Rattle.sp_match.proofs.Running.{stands_next}
use Rattle.sp_match.proofs.Deciding.{is_winner}
use Rattle.sp_match.proofs.matcher.Matcher.wander.Goals as goal

pub returns-clause-moved : goal.returns-clause-moved
returns-clause-moved c = λ tokens w b h small class none.
    let set = c.args.self.now.set.now in
    let m = h.set.machine in
    let x : c.swap.new.x.items ≡ c.step.new.next.items = ap (λ z. z.items) c.swap.ensures.x_after in
    let y : c.swap.new.y.items ≡ c.args.self.now.live.items = ap (λ z. z.items) c.swap.ensures.y_after in
    let next = c.step.ensures.step h.set.net b m h.next_room small (c.from.ensures ∙ class) in
    let stands = subst (λ z. Stands tokens h.set.net w (holds (live_of set.table.states.sets.items z c.args.self.now.live.items))) none h.stands in
    let won = c.winner.ensures ∙ ap (λ z. best_of set.machine.goals.items (holds z) (length set.machine.goals.items)) x in
    record {
      set = h.set;
      stepped = h.stepped;
      live_room = ap length x ∙ c.step.ensures.len ∙ h.next_room;
      next_room = ap length y ∙ h.live_room;
      within = λ s e. absurd (let k : None ≡ Some s = sym none ∙ e in cc);
      stands = subst (λ z. Stands tokens h.set.net (w ++ b ∷ []) (holds (live_of set.table.states.sets.items z c.swap.new.x.items))) (sym none)
          (subst (λ z. Stands tokens h.set.net (w ++ b ∷ []) (holds z)) (sym x) (stands_next tokens h.set.net h.set.start (holds c.args.self.now.live.items) (holds c.step.new.next.items) w b h.set.is_net stands next));
      wins = subst (λ z. IsWinner h.set.net (holds (live_of set.table.states.sets.items z c.swap.new.x.items)) c.winner.result) (sym none)
          (subst (λ z. IsWinner h.set.net (holds z) c.winner.result) (sym x)
          (subst (IsWinner h.set.net (holds c.step.new.next.items)) (sym won) (is_winner h.set.net set.machine.goals.items (holds c.step.new.next.items) m.goals)));
      best = h.best;
    }
