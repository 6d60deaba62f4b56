use Rattle.sp_law_lists.proofs.known_types_lemmas.Formed.{formed_expr}
use Rattle.sp_law_lists.proofs.known_types.formed_is_expr.Goals as goal

pub returns : goal.returns
returns c = formed_expr
