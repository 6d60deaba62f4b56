-- What is asked of a list of modules has answers.
use Rattle.std.specs.Prelude.{List}
use Rattle.sp_ast.specs.Trees.{Tree}
use Rattle.sp_type_answers.specs.Settled.{Answers}

-- Each list of modules, whatever its trees are, has answers: types of its type declarations, types and values of its constants and
-- labels, and types of the members of its units.
abbrev pub ListsAreAnswered : Type 0
ListsAreAnswered = (list : List Tree) → Answers list
