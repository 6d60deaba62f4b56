use Rattle.sp_law_constants.proofs.Declarations.{expressions_are_meant, constants_are_meant}
use Rattle.sp_law_constants.proofs.LabelNumbers.{labels_are_meant}
use Rattle.sp_law_constants.proofs.declared.declared_are_meant.Goals as goal

pub returns-clause-expressions : goal.returns-clause-expressions
returns-clause-expressions c = expressions_are_meant

pub returns-clause-constants : goal.returns-clause-constants
returns-clause-constants c = constants_are_meant

pub returns-clause-labels : goal.returns-clause-labels
returns-clause-labels c = labels_are_meant
