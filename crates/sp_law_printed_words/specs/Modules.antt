-- The words of a module's canonical text.
use Rattle.std.specs.Prelude.{List, [], ◌∷◌, None}
use Rattle.sp_ast.specs.Trees.{Tree, Trees, none, more}
use Rattle.sp_print.specs.Canonical.{spelled, declarations}
use Rattle.sp_print.specs.Words.{Word}

-- the words of trees, each as a line
abbrev pub lines_of : Trees → List (List Word)
lines_of none = []
lines_of (more t ts) = spelled t None ∷ lines_of ts

-- the words of a module: a line for its name, and one for each declaration
abbrev pub module_lines : Tree → List (List Word)
module_lines m = spelled m None ∷ lines_of (declarations m)
