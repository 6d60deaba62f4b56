use Rattle.sp_law_rules.proofs.Typed.{typed_placed}
use Rattle.sp_law_rules.proofs.Named.{module_places}
use Rattle.sp_law_rules.proofs.Inner.{current_places, self_places, parameters_place, locals_place}
use Rattle.sp_law_rules.proofs.places.expressions_begin_at_tokens.Goals as goal

pub returns-clause-expressions : goal.returns-clause-expressions
returns-clause-expressions c = λ tokens g t names b. typed_placed tokens g names t b

pub returns-clause-names : goal.returns-clause-names
returns-clause-names c = module_places

pub returns-clause-inner : goal.returns-clause-inner
returns-clause-inner c = λ tokens g names. (current_places tokens g names, self_places tokens g names, parameters_place tokens g names, locals_place tokens g names)
