use Rattle.sp_value.proofs.KeyLaws.{puts_at_one_key, adds_one_key, deletes_one_key, deletes_one_entry}
use Rattle.sp_value.proofs.laws.law_of_keys.Goals as goal

pub returns-clause-put : goal.returns-clause-put
returns-clause-put c = puts_at_one_key

pub returns-clause-add : goal.returns-clause-add
returns-clause-add c = adds_one_key

pub returns-clause-delete : goal.returns-clause-delete
returns-clause-delete c = deletes_one_key

pub returns-clause-entry : goal.returns-clause-entry
returns-clause-entry c = deletes_one_entry
