use Rattle.sp_law_lists.proofs.made_nodes_lemmas.Nodes.{typed_holds}
use Rattle.sp_law_lists.proofs.made_nodes.nodes_hold.Goals as goal

pub returns : goal.returns
returns c = λ g p t makes. typed_holds g p makes t
