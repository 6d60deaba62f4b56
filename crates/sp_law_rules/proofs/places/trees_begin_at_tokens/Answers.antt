use Rattle.sp_law_rules.proofs.Beginnings.{trees_begin, modules_begin}
use Rattle.sp_law_rules.proofs.places.trees_begin_at_tokens.Goals as goal

pub returns-clause-trees : goal.returns-clause-trees
returns-clause-trees c = trees_begin

pub returns-clause-modules : goal.returns-clause-modules
returns-clause-modules c = modules_begin
