use Rattle.sp_sync.proofs.Telling.{told_first}
use Rattle.sp_sync.proofs.search.Search.new.Goals as goal

pub returns-clause-told : goal.returns-clause-told
returns-clause-told c = λ tokens s d ended.
    let a = c.in_ok-attempt.attempt in
    told_first a.matcher a.start a.wants tokens c.args.from d ended c.in_ok-attempt.ensures.start c.in_ok-attempt.ensures.wants (c.in_ok-attempt.ensures.read tokens s)
