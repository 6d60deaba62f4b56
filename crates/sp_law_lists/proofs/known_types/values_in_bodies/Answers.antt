use Rattle.sp_law_lists.proofs.known_types_lemmas.Bodies.{stmt_whole}
use Rattle.sp_law_lists.proofs.known_types.values_in_bodies.Goals as goal

pub returns : goal.returns
returns c = stmt_whole
