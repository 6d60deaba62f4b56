use Rattle.std.proofs.Common.{sym, ◌∙◌}
use Rattle.sp_driver.proofs.Readying.{hindered_there}
use Rattle.sp_driver.proofs.compile.can_run.Goals as goal

pub returns-in-Some-clause-err : goal.returns-in-Some-clause-err
returns-in-Some-clause-err c =
    hindered_there c.args.list.now.sources.items c.args.list.now.modules.items c.args.list.now.typed c.in-Some.diag c.refused.result
    (rw c.as_slice.ensures.value at (rw c.deref.ensures.value at (sym c.unbuilt.ensures.exact ∙ c.in-Some.is))) (rw c.deref-in-Some.ensures.value at c.refused.ensures)
