use Rattle.std.proofs.Common.{rules, ◌≡◌, ◌/◌, ◌++◌, ◌∷◌, [], refl, ap, sym, subst, ◌∙◌}
use Rattle.sp_match.specs.declared.word_jumps.WordJump.{WordJump}
use Rattle.sp_match.specs.Jumps.{lead, IsRising}
use Rattle.sp_match.proofs.Jumping.{target_pushed, rising_pushed}
use Rattle.sp_match.proofs.word_jumps.add_target.Goals as goal

pub returns-clause-lead : goal.returns-clause-lead
returns-clause-lead c = λ b q.
    let x : WordJump = record { bit = c.args.bit; word = c.in_ok-word.word; spots = c.with-spots.result } in
    let same = c.if-widen.ensures.same refl in
    let word : c.in_ok-word.word ≡ c.args.spot / 64 = search rules in
    ap (λ z. lead z b q) c.in_ok-push.ensures.items ∙ ap (λ z. lead (z ++ x ∷ []) b q) same ∙ target_pushed c.args.jumps.now.items x c.args.spot b q word c.with-spots.ensures.set c.with-spots.ensures.others

pub returns-clause-rising : goal.returns-clause-rising
returns-clause-rising c = λ r.
    let x : WordJump = record { bit = c.args.bit; word = c.in_ok-word.word; spots = c.with-spots.result } in
    let same = c.if-widen.ensures.same refl in
    subst (λ z. IsRising z c.args.bit) (sym (c.in_ok-push.ensures.items ∙ ap (λ z. z ++ x ∷ []) same)) (rising_pushed c.args.jumps.now.items x c.args.bit refl r)
