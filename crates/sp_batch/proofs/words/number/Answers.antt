use Rattle.std.proofs.Common.{sym, ◌∙◌}
use Rattle.sp_batch.proofs.Numbers.{no_number_bytes, number_parsed, number_written, not_written}
use Rattle.sp_batch.proofs.words.number.Goals as goal

pub returns-in_default : goal.returns-in_default
returns-in_default c = no_number_bytes c.args.word.now c.in_default.ensures.cases.0

pub returns-in_default-parse : goal.returns-in_default-parse
returns-in_default-parse c = number_parsed c.args.word.now c.in-Ok.text.now c.parse.result _ c.in-Ok.ensures.cases.0 c.parse.ensures.value.0 c.in_default-parse.is

pub returns-then-is_written : goal.returns-then-is_written
returns-then-is_written c = number_written c.args.word.now c.in-Ok.text.now c.in-Ok-parse.number c.in-Ok.ensures.cases.0 (sym c.is_written.ensures ∙ c.if-is_written.true)

pub returns-else-is_written : goal.returns-else-is_written
returns-else-is_written c =
    not_written c.args.word.now c.in-Ok.text.now c.parse.result c.in-Ok-parse.number c.in-Ok.ensures.cases.0 c.parse.ensures.value.0 c.in-Ok-parse.is
    (sym c.is_written.ensures ∙ c.if-is_written.false)
