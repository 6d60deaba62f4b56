use Rattle.std.proofs.Common.{sym, ◌∙◌}
use Rattle.sp_batch.proofs.Cuts.{name_utf8}
use Rattle.sp_batch.proofs.words.name.Goals as goal

pub returns-in-Err : goal.returns-in-Err
returns-in-Err c = absurd (c.in-Err.ensures.cases.0 (name_utf8 c.args.word.now (sym c.is_name.ensures ∙ c.if-is_name.true)))
