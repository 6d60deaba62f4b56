-- The rules on names that hang on no expression and on no member of a unit: tests, each with the fault where it holds.
use Rattle.std.specs.Prelude.{ℕ, suc, ◌≡◌, ◌==◌, Bool, true, false, ◌||◌, not, is_some, List, [], ◌∷◌, ◌++◌, Option, Some, None, codes}
use Rattle.std.proofs.Common.{get_or}
use Rattle.std.specs.Str.{bytes_eq}
use Rattle.sp_ast.specs.Trees.{Tree, Trees, absent, row, node, none, more, span_of}
use Rattle.sp_ast.specs.declared.forms.Form.TheVariants as form_is
use Rattle.sp_ast.specs.declared.forms.DeclForm.TheVariants as decl_is
use Rattle.sp_ast.specs.declared.forms.TypeForm.TheVariants as type_is
use Rattle.sp_ast.specs.declared.forms.BaseForm.TheVariants as base_is
use Rattle.sp_rules.specs.declared.fault.Fault.{Fault}
use Rattle.sp_rules.specs.declared.rule.Rule.{Rule}
use Rattle.sp_rules.specs.declared.rule.Rule.TheVariants as rule_is
use Rattle.sp_types.specs.Types.{Ty}
use Rattle.sp_names.specs.declared.sort.Meaning.{Meaning}
use Rattle.sp_names.specs.declared.sort.Meaning.TheVariants as meaning_is
use Rattle.sp_names.specs.Declarations.{list_of, name_of, module_name}
use Rattle.sp_names.specs.Names.{module_named, path_means}

abbrev pub fault_at : Rule → ℕ → Tree → Fault
fault_at rule m t = record { rule = rule; «module» = m; span = span_of t }

-- a path that names nothing: its name that does
abbrev pub path_parts : Tree → List Tree
path_parts (node form_is.Path span ts) = list_of ts
path_parts _ = []

abbrev pub nothing_fault : ℕ → Tree → Meaning → List (Bool × Fault)
nothing_fault m path (meaning_is.Nothing k) = (true, fault_at rule_is.UnknownName m (get_or (path_parts path) k absent)) ∷ []
nothing_fault m path _ = []

-- what is asked of the path of a type, and of a unit that is read with arguments: that it names something
abbrev pub path_faults : List Tree → (ℕ → Option Ty) → ℕ → Tree → List (Bool × Fault)
path_faults list f m (node (form_is.Type type_is.Path) span (more path ts)) = nothing_fault m path (path_means list f m path)
path_faults list f m (node (form_is.Base base_is.Unit) span (more path ts)) = nothing_fault m path (path_means list f m path)
path_faults list f m _ = []

-- the name that a tree declares among those beside it: of a label, a range of bits, a parameter, a type, a constant, a
-- function
abbrev pub name_part : Tree → Option Tree
name_part (node form_is.Label span (more name ts)) = Some name
name_part (node form_is.Bits span (more name ts)) = Some name
name_part (node (form_is.Parameter _) span (more name ts)) = Some name
name_part (node (form_is.Decl (decl_is.Type _)) span (more name ts)) = Some name
name_part (node (form_is.Decl (decl_is.Const _)) span (more name ts)) = Some name
name_part (node (form_is.Decl (decl_is.Function _)) span (more name ts)) = Some name
name_part _ = None

abbrev pub among : List ℕ → List (List ℕ) → Bool
among x [] = false
among x (n ∷ ns) = bytes_eq x n || among x ns

abbrev pub name_fault : ℕ → List (List ℕ) → Option Tree → List (Bool × Fault)
name_fault m given None = []
name_fault m given (Some name) = (among (name_of name) given, fault_at rule_is.NameTwice m name) ∷ []

abbrev pub with_name : Option Tree → List (List ℕ) → List (List ℕ)
with_name None given = given
with_name (Some name) given = name_of name ∷ given

-- each tree that declares a name which was declared before
abbrev pub repeated : ℕ → List (List ℕ) → Trees → List (Bool × Fault)
repeated m given none = []
repeated m given (more t ts) = name_fault m given (name_part t) ++ repeated m (with_name (name_part t) given) ts

-- the trees in the first row among parts, and in the second
abbrev pub row_trees : Tree → Trees
row_trees (row ts) = ts
row_trees _ = none

abbrev pub first_row : Trees → Trees
first_row none = none
first_row (more t ts) = row_trees t

abbrev pub second_row : Trees → Trees
second_row none = none
second_row (more t ts) = first_row ts

-- what is asked of labels, of ranges of bits, of parameters and of declarations: that none has the name of one before it
abbrev pub twice_faults : ℕ → Tree → List (Bool × Fault)
twice_faults m (node (form_is.Type type_is.Enum) span ts) = repeated m [] ts
twice_faults m (node (form_is.Type type_is.Bitfield) span ts) = repeated m [] (second_row ts)
twice_faults m (node form_is.Unit span ts) = repeated m [] (first_row ts)
twice_faults m (node form_is.Hook span ts) = repeated m [] (first_row ts)
twice_faults m (node (form_is.Decl (decl_is.Function _)) span ts) = repeated m [] (second_row ts)
twice_faults m (node form_is.Module span ts) = repeated m [] (second_row ts)
twice_faults m _ = []

-- what is asked of a tree and of all in it
abbrev mutual
  pub faults_in : List Tree → (ℕ → Option Ty) → ℕ → Tree → List (Bool × Fault)
  faults_in list f m absent = []
  faults_in list f m (row ts) = faults_among list f m ts
  faults_in list f m (node form span ts) = path_faults list f m (node form span ts) ++ (twice_faults m (node form span ts) ++ faults_among list f m ts)

  pub faults_among : List Tree → (ℕ → Option Ty) → ℕ → Trees → List (Bool × Fault)
  faults_among list f m none = []
  faults_among list f m (more t ts) = faults_in list f m t ++ faults_among list f m ts

-- the names that modules of the library have
abbrev pub is_reserved : List ℕ → Bool
is_reserved x = bytes_eq x (codes "spicy") || bytes_eq x (codes "filter")

-- whether the first module of a name is another one
abbrev pub is_later : Option ℕ → ℕ → Bool
is_later None m = true
is_later (Some k) m = not (k == m)

abbrev pub module_name_tree : Tree → Tree
module_name_tree (node form_is.Module span (more name ts)) = name
module_name_tree _ = absent

-- what is asked of a module: that it is the first of its name, and that none of the library has it; and all that is asked of
-- what stands in it
abbrev pub module_faults : List Tree → (ℕ → Option Ty) → ℕ → Tree → List (Bool × Fault)
module_faults list f m t =
    (is_later (module_named list (module_name t)) m || is_reserved (module_name t), fault_at rule_is.ModuleTwice m (module_name_tree t)) ∷ faults_in list f m t

abbrev pub faults_from : List Tree → (ℕ → Option Ty) → ℕ → List Tree → List (Bool × Fault)
faults_from list f m [] = []
faults_from list f m (t ∷ ts) = module_faults list f m t ++ faults_from list f (suc m) ts

-- All that is asked of names here, over a list of modules under the answers of its type declarations.
abbrev pub name_faults : List Tree → (ℕ → Option Ty) → List (Bool × Fault)
name_faults list f = faults_from list f 0 list

-- which names were given, by a table of them
abbrev pub IsSeen : (List ℕ → Option ℕ) → List (List ℕ) → Type 0
IsSeen told given = (x : List ℕ) → is_some (told x) ≡ among x given
