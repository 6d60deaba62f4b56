-- What a module imports, and the paths at which an import's file is looked for.
use Rattle.std.specs.Prelude.{ℕ, List, [], ◌∷◌, ◌++◌, map, codes}
use Rattle.std.specs.Char.{to_ascii_lowercase}
use Rattle.sp_ast.specs.Trees.{Tree, node, more, span_of}
use Rattle.sp_ast.specs.declared.forms.Form.TheVariants as form_is
use Rattle.sp_ast.specs.declared.forms.DeclForm.TheVariants as decl_is
use Rattle.sp_names.specs.Declarations.{name_of, module_declarations}
use Rattle.sp_front.specs.declared.entries.Import.{Import}

-- the import that a declaration is
abbrev pub import_of : Tree → List Import
import_of (node (form_is.Decl decl_is.Import) span (more name ts)) = let at = span_of name in record { name = name_of name; at = at.from } ∷ []
import_of _ = []

abbrev pub imports_among : List Tree → List Import
imports_among [] = []
imports_among (d ∷ ds) = import_of d ++ imports_among ds

-- the imports of a module, in the order of its text
abbrev pub imports_of : Tree → List Import
imports_of t = imports_among (module_declarations t)

-- the name of the file of a module: the module's name in lower case
abbrev pub file_name : List ℕ → List ℕ
file_name x = map to_ascii_lowercase x ++ codes ".spicy"

-- The paths at which a module is looked for, in order: in each of the directories, and last by the name of its file alone.
abbrev pub paths_of : List (List ℕ) → List ℕ → List (List ℕ)
paths_of [] x = file_name x ∷ []
paths_of (d ∷ ds) x = (d ++ codes "/" ++ file_name x) ∷ paths_of ds x
