use Rattle.sp_law_lists.proofs.field_places_lemmas.Modules.{modules_apart}
use Rattle.sp_law_lists.proofs.field_places.modules_are_apart.Goals as goal

pub returns : goal.returns
returns c = λ lexed t read is. modules_apart lexed t read is
