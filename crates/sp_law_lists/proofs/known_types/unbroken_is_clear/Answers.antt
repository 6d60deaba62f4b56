use Rattle.sp_law_lists.proofs.known_types_lemmas.Broken.{clear_where}
use Rattle.sp_law_lists.proofs.known_types.unbroken_is_clear.Goals as goal

pub returns : goal.returns
returns c = clear_where
