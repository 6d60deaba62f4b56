use Rattle.std.proofs.Common.{◌≡◌, subst, []}
use Rattle.sp_match.specs.Matching.{HasWord}
use Rattle.sp_match.proofs.token_set.TokenSet.build.Goals as goal

pub returns-in-Some-clause-empty : goal.returns-in-Some-clause-empty
returns-in-Some-clause-empty c = λ i e. let same : c.in-Some.i ≡ i = cc in subst (λ j. HasWord c.args.tokens.now j []) same (c.first_empty.ensures.first c.in-Some.i c.in-Some.is)
