use Rattle.sp_match.proofs.matcher.Matcher.leave.Goals as goal

pub returns-in-Some-clause-read : goal.returns-in-Some-clause-read
returns-in-Some-clause-read c = λ tokens w h. c.leave_state.ensures.read tokens w h c.in-Some.is
