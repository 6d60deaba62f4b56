use Rattle.sp_batch.proofs.Unique.{one_record, some_answer, one_answer}
use Rattle.sp_batch.proofs.laws.law_of_records.Goals as goal

pub returns-clause-one : goal.returns-clause-one
returns-clause-one c = one_record

pub returns-clause-some : goal.returns-clause-some
returns-clause-some c = some_answer

pub returns-clause-apart : goal.returns-clause-apart
returns-clause-apart c = one_answer
