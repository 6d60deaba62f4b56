use Rattle.sp_law_lists.proofs.known_kinds_lemmas.Names.{locals_made, parameters_made, self_made, current_made, module_made}
use Rattle.sp_law_lists.proofs.known_kinds.names_are_made.Goals as goal

pub returns-clause-module : goal.returns-clause-module
returns-clause-module c = λ around list facts m constants gives takes members. module_made around list facts m constants gives takes members

pub returns-clause-locals : goal.returns-clause-locals
returns-clause-locals c = λ around g ls known kept. locals_made around g ls known kept

pub returns-clause-parameters : goal.returns-clause-parameters
returns-clause-parameters c = λ around g first hides ps known kept. parameters_made around g first hides ps known kept

pub returns-clause-itself : goal.returns-clause-itself
returns-clause-itself c = λ around g t s known kept. self_made around g t s known kept

pub returns-clause-current : goal.returns-clause-current
returns-clause-current c = λ around g t s known kept. current_made around g t s known kept
