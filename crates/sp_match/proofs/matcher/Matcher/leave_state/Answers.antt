use Rattle.std.proofs.Common.{◌≡◌, None, Some, subst, ◌∙◌, arith}
use Rattle.sp_match.specs.Bits.{holds, row}
use Rattle.sp_match.specs.Running.{Stands}
use Rattle.sp_match.specs.Sizes.{live_of}
use Rattle.sp_match.proofs.Running.{stands_same}
use Rattle.sp_match.proofs.matcher.Matcher.leave_state.Goals as goal

pub returns-clause-read : goal.returns-clause-read
returns-clause-read c = λ tokens w h is.
    let sets = c.args.self.now.set.now.table.states.sets.items in
    let lt = h.within c.args.state is in
    let room = h.set.table.states.room c.args.state lt in
    let live_room = h.live_room in
    let same = c.copy_set.ensures.spots lt (omega arith) in
    record {
      set = h.set;
      stepped = h.stepped;
      live_room = c.copy_set.ensures.len ∙ h.live_room;
      next_room = h.next_room;
      within = λ s e. absurd (let k : None ≡ Some s = e in cc);
      stands = stands_same tokens h.set.net w (holds (row sets c.args.state)) (holds c.copy_set.new.set.items) same (subst (λ z. Stands tokens h.set.net w (holds (live_of sets z c.args.self.now.live.items))) is h.stands);
      best = h.best;
    }
