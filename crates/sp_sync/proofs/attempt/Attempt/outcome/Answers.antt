use Rattle.std.proofs.Common.{◌≡◌, inl, inr, true, false, subst}
use Rattle.sp_match.specs.Matching.{IsVerdict}
use Rattle.sp_sync.proofs.Placing.{settled_not}
use Rattle.sp_sync.proofs.attempt.Attempt.outcome.Goals as goal

pub returns-in-Match : goal.returns-in-Match
returns-in-Match c = λ tokens w h.
    let v = subst (IsVerdict tokens w false) c.in-Match.is (c.verdict.ensures tokens w h) in
    (c.in-Match.token, c.in-Match.length, v.1.within, v.1.matches)

pub returns-in-None : goal.returns-in-None
returns-in-None c = λ tokens w h.
    let v = subst (IsVerdict tokens w false) c.in-None.is (c.verdict.ensures tokens w h) in
    (v.1, settled_not tokens w v.0)

pub returns-in-Match-verdict : goal.returns-in-Match-verdict
returns-in-Match-verdict c = λ tokens w h.
    let v = subst (IsVerdict tokens w true) c.in-Match-verdict.is (c.verdict-in-Need.ensures tokens w h) in
    (c.in-Match-verdict.token, c.in-Match-verdict.length, v.1.within, v.1.matches)

pub returns-in-None-verdict : goal.returns-in-None-verdict
returns-in-None-verdict c = λ tokens w h.
    let v = subst (IsVerdict tokens w false) c.in-Need.is (c.verdict.ensures tokens w h) in
    let e = c.verdict-in-Need.ensures tokens w h in
    elim c.in-None-verdict.is [
      | inl is ↦ ((subst (IsVerdict tokens w true) is e).1, v.1)
      | inr is ↦ absurd (let k : true ≡ false = (subst (IsVerdict tokens w true) is e).0 in cc)
    ]
