use Rattle.sp_rule_bodies.proofs.Cases.{cases_step}
use Rattle.sp_rule_bodies.proofs.stmts.note_cases.Goals as goal

pub loop-case-preserved : goal.loop-case-preserved
loop-case-preserved c =
    cases_step c.args.owner c.args.subject.now c.args.cases.now c.loop-case.case-index c.case-item.result c.deref.result.now c.loop-case.least c.note_case.new.least _ c.loop-case-test.true c.case-item.is c.deref.ensures.value c.in_ok-note_case.ensures c.loop-case.invariant
