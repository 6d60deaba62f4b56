use Rattle.sp_law_lists.proofs.known_values_lemmas.Typed.{typed_told}
use Rattle.sp_law_lists.proofs.known_values.constants_are_told.Goals as goal

pub returns : goal.returns
returns c = λ g only k m v is_type is_path t names is. typed_told g only k m v is_type is_path names t is
