use Rattle.std.proofs.Common.{arith, ◌∙◌}
use Rattle.sp_build.proofs.Found.{fewer_by_one, first_is, first_there}
use Rattle.sp_build.proofs.finding.first_span.Goals as goal

pub tree_under-requires : goal.tree_under-requires
tree_under-requires c = fewer_by_one c.args.count c.args.stack.now (omega (arith, c.if-count-eq0.false)) c.requires

pub returns-in-Some : goal.returns-in-Some
returns-in-Some c =
    c.span_of.ensures ∙ first_is c.args.count c.args.stack.now _ c.in-Some.tree (omega (arith, c.if-count-eq0.false)) (fewer_by_one c.args.count c.args.stack.now (omega (arith, c.if-count-eq0.false)) c.requires) c.in-Some.ensures.some

pub returns-in-None : goal.returns-in-None
returns-in-None c = absurd (first_there c.args.count c.args.stack.now (omega (arith, c.if-count-eq0.false)) c.requires c.in-None.ensures.none)
