-- Names that stand alone, and names behind that of their module.
use Rattle.std.specs.Prelude.{ℕ, List, ◌∷◌, ◌++◌, Option, Some, None}
use Rattle.sp_ast.specs.Trees.{Tree, node, none, more}
use Rattle.sp_ast.specs.declared.forms.Form.TheVariants as form_is

-- the name that a path is, where it is one name
abbrev pub single_name : Tree → Option (List ℕ)
single_name (node form_is.Path span (more (node (form_is.Name x) at none) none)) = Some x
single_name _ = None

-- a name behind that of its module, as `M::f`
abbrev pub path_of : List ℕ → List ℕ → List ℕ
path_of m x = m ++ 58 ∷ 58 ∷ x
