use Rattle.sp_law_lists.proofs.known_members_lemmas.CanRead.{units_read}
use Rattle.sp_law_lists.proofs.known_members_lemmas.Built.{built_is_read}
use Rattle.sp_law_lists.proofs.known_members.readings_are_known.Goals as goal

pub returns-clause-unbroken : goal.returns-clause-unbroken
returns-clause-unbroken c = units_read

pub returns-clause-built : goal.returns-clause-built
returns-clause-built c = built_is_read
