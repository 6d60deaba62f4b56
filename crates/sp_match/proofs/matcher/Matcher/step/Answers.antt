use Rattle.std.proofs.Common.{◌+◌, ◌++◌, ◌∷◌, [], length-append, ap, sym, subst, ◌∙◌}
use Rattle.sp_match.specs.Matching.{BestSoFar}
use Rattle.sp_match.specs.Running.{newest_of}
use Rattle.sp_match.specs.Bits.{holds}
use Rattle.sp_match.specs.Sizes.{live_of}
use Rattle.sp_match.proofs.Deciding.{best_next}
use Rattle.sp_match.proofs.matcher.Matcher.step.Goals as goal

pub returns-clause-read : goal.returns-clause-read
returns-clause-read c = λ tokens w h.
    let m = c.advance-won.ensures.moved tokens w h in
    let s = c.advance-won.new.self in
    let count = m.stepped in
    let b = c.args.byte in
    let best = best_next m.set.is_net w b (holds (live_of s.set.now.table.states.sets.items s.state s.live.items)) s.best m.stands m.best c.advance-won.result m.wins in
    record {
      set = m.set;
      stepped = ap (λ n. n + 1) count ∙ sym (length-append w (b ∷ []));
      live_room = m.live_room;
      next_room = m.next_room;
      within = m.within;
      stands = m.stands;
      best = subst (BestSoFar tokens (w ++ b ∷ [])) (ap (λ n. newest_of c.advance-won.result (n + 1) s.best) (sym count) ∙ sym c.newest-self.ensures) best;
    }
