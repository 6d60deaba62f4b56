use Rattle.sp_law_lists.proofs.known_constants_lemmas.Paths.{list_told}
use Rattle.sp_law_lists.proofs.known_constants_lemmas.Named.{tree_told}
use Rattle.sp_law_lists.proofs.known_constants.names_are_told.Goals as goal

pub returns-clause-trees : goal.returns-clause-trees
returns-clause-trees c = tree_told

pub returns-clause-names : goal.returns-clause-names
returns-clause-names c = λ list f known t it. list_told list f known it.settled t it.constants_are it.enums_are
