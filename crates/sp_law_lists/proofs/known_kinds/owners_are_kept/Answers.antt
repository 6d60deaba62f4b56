use Rattle.sp_law_lists.proofs.known_kinds_lemmas.Owners.{made_kept, widened_kept, owner_keeps}
use Rattle.sp_law_lists.proofs.known_kinds.owners_are_kept.Goals as goal

pub returns-clause-made : goal.returns-clause-made
returns-clause-made c = λ around sc e made. made_kept around sc e made

pub returns-clause-widened : goal.returns-clause-widened
returns-clause-widened c = λ sc e widened. widened_kept sc e widened

pub returns-clause-owners : goal.returns-clause-owners
returns-clause-owners c = λ around sc e slots. owner_keeps around sc e slots
