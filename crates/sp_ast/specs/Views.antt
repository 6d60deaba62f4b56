-- The trees of which views are.
use Rattle.std.specs.Prelude.{Bool, false, List, [], ◌∷◌, Option, Some, None}
use Rattle.sp_ast.specs.Trees.{Tree, absent}
use Rattle.sp_ast.specs.Groups.{fits}
use Rattle.sp_ast.specs.declared.groups.Sort.{Sort}

-- a part that can be left out
abbrev pub optional_tree : Option Tree → Tree
optional_tree None = absent
optional_tree (Some t) = t

-- a part that may be left out
abbrev pub present : Tree → Option Tree
present absent = None
present t = Some t

-- whether there is a first part, and it may stand there
abbrev pub first_fits : Sort → List Tree → Bool
first_fits sort [] = false
first_fits sort (t ∷ ts) = fits sort t
