-- What names and paths mean.
use Rattle.std.specs.Prelude.{ℕ, ◌-◌, ◌==◌, suc, Bool, false, is_some, nat_lt, if◌then◌else◌, List, [], ◌∷◌, Option, Some, None, slice_get, codes}
use Rattle.std.specs.Str.{bytes_eq}
use Rattle.sp_ast.specs.Trees.{Tree, node, more}
use Rattle.sp_ast.specs.declared.forms.Form.TheVariants as form_is
use Rattle.sp_ast.specs.declared.forms.DeclForm.TheVariants as decl_is
use Rattle.sp_ast.specs.declared.forms.TypeForm.TheVariants as type_is
use Rattle.sp_types.specs.Types.{Ty, word, made}
use Rattle.sp_types.specs.declared.words.Word.{Word}
use Rattle.sp_types.specs.declared.words.Word.TheVariants as word_is
use Rattle.sp_names.specs.declared.rows.Declaration.{Declaration}
use Rattle.sp_names.specs.declared.sort.DeclSort.TheVariants as sort_is
use Rattle.sp_names.specs.declared.sort.Scope.{Scope}
use Rattle.sp_names.specs.declared.sort.Scope.TheVariants as scope_is
use Rattle.sp_names.specs.declared.sort.Meaning.{Meaning}
use Rattle.sp_names.specs.declared.sort.Meaning.TheVariants as meaning_is
use Rattle.sp_names.specs.Declarations.{list_of, name_of, module_name, module_declarations, module_at, type_tree_of, declaration_at, all_of, base, library_enums}

-- the name that a tree gives, if it gives one: a type, a constant or a function; an import; a label of an enum; a module
abbrev pub declared_name : Tree → Option (List ℕ)
declared_name (node (form_is.Decl (decl_is.Type _)) span (more name ts)) = Some (name_of name)
declared_name (node (form_is.Decl (decl_is.Const _)) span (more name ts)) = Some (name_of name)
declared_name (node (form_is.Decl (decl_is.Function _)) span (more name ts)) = Some (name_of name)
declared_name _ = None

abbrev pub import_name : Tree → Option (List ℕ)
import_name (node (form_is.Decl decl_is.Import) span (more name ts)) = Some (name_of name)
import_name _ = None

abbrev pub label_name : Tree → Option (List ℕ)
label_name (node form_is.Label span (more name ts)) = Some (name_of name)
label_name _ = None

abbrev pub name_of_module : Tree → Option (List ℕ)
name_of_module t = Some (module_name t)

abbrev pub is_name : List ℕ → Option (List ℕ) → Bool
is_name x None = false
is_name x (Some n) = bytes_eq x n

-- the number of the first tree that gives a name, where the first of the list has the number k
abbrev pub first_named : (Tree → Option (List ℕ)) → List ℕ → ℕ → List Tree → Option ℕ
first_named gives x k [] = None
first_named gives x k (t ∷ ts) = if is_name x (gives t) then Some k else first_named gives x (suc k) ts

-- the first module of a name
abbrev pub module_named : List Tree → List ℕ → Option ℕ
module_named list x = first_named name_of_module x 0 list

-- the first type, constant or function of a name in a module, by its number among all declarations
abbrev pub declared : List Tree → ℕ → List ℕ → Option ℕ
declared list m x = first_named declared_name x (base list m) (module_declarations (module_at list m))

abbrev pub is_imported : List Tree → ℕ → List ℕ → Bool
is_imported list m x = is_some (first_named import_name x (base list m) (module_declarations (module_at list m)))

abbrev pub module_scope : Option ℕ → Option Scope
module_scope None = None
module_scope (Some k) = Some (scope_is.Module k)

-- the module that an import names: one of the library, or the first of the list
abbrev pub imported_scope : List Tree → List ℕ → Option Scope
imported_scope list x =
    if bytes_eq x (codes "spicy") then Some scope_is.Spicy else (if bytes_eq x (codes "filter") then Some scope_is.Filter else module_scope (module_named list x))

-- the name of a module, if it is there
abbrev pub own_name : Option Tree → Option (List ℕ)
own_name None = None
own_name (Some t) = Some (module_name t)

-- the module that a name names in a module: itself, or one that it imports; the imports of an imported module don't count
abbrev pub visible : List Tree → ℕ → List ℕ → Option Scope
visible list m x =
    if is_name x (own_name (slice_get list m)) then Some (scope_is.Module m) else (if is_imported list m x then imported_scope list x else None)

-- the place of a name among names
abbrev pub place_among : List ℕ → ℕ → List (List ℕ) → Option ℕ
place_among x k [] = None
place_among x k (n ∷ ns) = if bytes_eq x n then Some k else place_among x (suc k) ns

-- the enums of the library, and their labels
abbrev pub library_names : List (List ℕ)
library_names = codes "ByteOrder" ∷ codes "BitOrder" ∷ codes "Charset" ∷ codes "DecodeErrorStrategy" ∷ []

abbrev pub byte_orders : List (List ℕ)
byte_orders = codes "Little" ∷ codes "Big" ∷ codes "Network" ∷ []

abbrev pub bit_orders : List (List ℕ)
bit_orders = codes "LSB0" ∷ codes "MSB0" ∷ []

abbrev pub charsets : List (List ℕ)
charsets = codes "UTF8" ∷ codes "ASCII" ∷ []

abbrev pub strategies : List (List ℕ)
strategies = codes "IGNORE" ∷ codes "REPLACE" ∷ codes "STRICT" ∷ []

-- those of the enum of a number
abbrev pub library_labels : ℕ → List (List ℕ)
library_labels n = if n == 0 then byte_orders else (if n == 1 then bit_orders else (if n == 2 then charsets else strategies))

-- the declaration of an enum that isn't one of the library
abbrev pub declaration_of : List Tree → Option ℕ → Option Declaration
declaration_of list None = None
declaration_of list (Some g) = declaration_at list g

abbrev pub enum_labels : Tree → List Tree
enum_labels (node (form_is.Type type_is.Enum) span ts) = list_of ts
enum_labels _ = []

abbrev pub labels_of : Option Declaration → List Tree
labels_of None = []
labels_of (Some d) = enum_labels (type_tree_of d.tree)

-- the labels of the enum before which so many of the list stand
abbrev pub own_labels : List Tree → ℕ → List Tree
own_labels list n = labels_of (declaration_of list (slice_get (all_of sort_is.Enum list) n))

-- the place of a label among those of an enum
abbrev pub label_in : List Tree → ℕ → List ℕ → Option ℕ
label_in list n x =
    if nat_lt n library_enums then place_among x 0 (library_labels n) else first_named label_name x 0 (own_labels list (n - library_enums))

-- what a name names in a visible module; names need not be public
abbrev pub some_declaration : Option ℕ → Option Meaning
some_declaration None = None
some_declaration (Some g) = Some (meaning_is.Declaration g)

abbrev pub some_library : Option ℕ → Option Meaning
some_library None = None
some_library (Some n) = Some (meaning_is.LibraryEnum n)

abbrev pub named_in : List Tree → Scope → List ℕ → Option Meaning
named_in list (scope_is.Module k) x = some_declaration (declared list k x)
named_in list scope_is.Spicy x = some_library (place_among x 0 library_names)
named_in list scope_is.Filter x = if bytes_eq x (codes "Base64Decode") then Some meaning_is.Decoder else None

-- the number of the enum that a type is
abbrev pub enum_word : Word → Option ℕ
enum_word (word_is.Enum n) = Some n
enum_word _ = None

abbrev pub enum_type : Option Ty → Option ℕ
enum_type None = None
enum_type (Some (word w)) = enum_word w
enum_type (Some (made m ts)) = None

-- the enum that something is, through aliases, where the answers say which type each type declaration is
abbrev pub enum_of : (ℕ → Option Ty) → Meaning → Option ℕ
enum_of f (meaning_is.Declaration g) = enum_type (f g)
enum_of f (meaning_is.LibraryEnum n) = Some n
enum_of f _ = None

abbrev pub some_label : ℕ → Option ℕ → Option Meaning
some_label n None = None
some_label n (Some k) = Some (meaning_is.Label n k)

-- what a name names behind what has a meaning: a label of an enum
abbrev pub label_of : List Tree → Option ℕ → List ℕ → Option Meaning
label_of list None x = None
label_of list (Some n) x = some_label n (label_in list n x)

-- What names mean behind the name k of a path, where that has a meaning or names nothing. The first that can't go on names
-- nothing.
abbrev pub behind : List Tree → (ℕ → Option Ty) → ℕ → Option Meaning → List (List ℕ) → Meaning
behind list f k None xs = meaning_is.Nothing k
behind list f k (Some meaning) [] = meaning
behind list f k (Some meaning) (x ∷ xs) = behind list f (suc k) (label_of list (enum_of f meaning) x) xs

-- the declaration that a first name names in its own module
abbrev pub meaning_or : ℕ → Option ℕ → Meaning
meaning_or k None = meaning_is.Nothing k
meaning_or k (Some g) = meaning_is.Declaration g

abbrev pub own_enum : (ℕ → Option Ty) → Option ℕ → Option ℕ
own_enum f None = None
own_enum f (Some g) = enum_type (f g)

-- `A::x` and longer: a label of the own declaration A where that is an enum; else what x is in the visible module A; else A
-- names nothing, or x, where A is a declaration
abbrev pub in_scope : List Tree → (ℕ → Option Ty) → Option ℕ → Option Scope → List ℕ → List (List ℕ) → Meaning
in_scope list f own (Some scope) x xs = behind list f 1 (named_in list scope x) xs
in_scope list f (Some g) None x xs = meaning_is.Nothing 1
in_scope list f None None x xs = meaning_is.Nothing 0

abbrev pub in_own : List Tree → (ℕ → Option Ty) → Option ℕ → Option ℕ → Option Scope → List ℕ → List (List ℕ) → Meaning
in_own list f (Some n) own scope x xs = behind list f 1 (label_of list (Some n) x) xs
in_own list f None own scope x xs = in_scope list f own scope x xs

-- What the names of a path mean in a module, under the answers of type declarations. A module by itself is nothing that a path
-- can name.
abbrev pub means : List Tree → (ℕ → Option Ty) → ℕ → List (List ℕ) → Meaning
means list f m [] = meaning_is.Nothing 0
means list f m (x ∷ []) = meaning_or 0 (declared list m x)
means list f m (x ∷ (y ∷ ys)) =
    in_own list f (own_enum f (declared list m x)) (declared list m x) (visible list m x) y ys

-- the names of a path
abbrev pub names_of : List Tree → List (List ℕ)
names_of [] = []
names_of (t ∷ ts) = name_of t ∷ names_of ts

abbrev pub path_names : Tree → List (List ℕ)
path_names (node form_is.Path span ts) = names_of (list_of ts)
path_names _ = []

-- what a path means in a module
abbrev pub path_means : List Tree → (ℕ → Option Ty) → ℕ → Tree → Meaning
path_means list f m path = means list f m (path_names path)
