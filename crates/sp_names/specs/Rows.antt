-- Rows on which the definitions are run: two modules that import each other, with an enum by aliases, an alias that is made of
-- itself, and names that are both a declaration and a module; and one with units and an enum where none can stand.
use Rattle.std.specs.Prelude.{ℕ, ◌≡◌, false, List, [], ◌∷◌, Option, Some, None, length, map, codes, refl}
use Rattle.sp_base.specs.declared.places.Span.{Span}
use Rattle.sp_ast.specs.Trees.{Tree, absent, in_row, tree}
use Rattle.sp_ast.specs.declared.forms.Form.{Form}
use Rattle.sp_ast.specs.declared.forms.Form.TheVariants as form_is
use Rattle.sp_ast.specs.declared.forms.DeclForm.TheVariants as decl_is
use Rattle.sp_ast.specs.declared.forms.TypeForm.TheVariants as type_is
use Rattle.sp_ast.specs.declared.forms.ExprForm.TheVariants as expr_is
use Rattle.sp_ast.specs.declared.forms.ItemForm.TheVariants as item_is
use Rattle.sp_types.specs.Types.{Ty, word}
use Rattle.sp_types.specs.declared.words.Word.TheVariants as word_is
use Rattle.sp_rules.specs.declared.rule.Rule.TheVariants as rule_is
use Rattle.sp_rules.specs.Least.{broken}
use Rattle.sp_solver.specs.Rounds.{round}
use Rattle.sp_names.specs.declared.sort.DeclSort.TheVariants as sort_is
use Rattle.sp_names.specs.declared.sort.Meaning.TheVariants as meaning_is
use Rattle.sp_names.specs.Declarations.{rows, all_of, number_at}
use Rattle.sp_names.specs.Names.{declared, means}
use Rattle.sp_names.specs.Aliases.{tries}
use Rattle.sp_names.specs.Faults.{name_faults, fault_at}

abbrev here : Span
here = record { from = 0; to = 0 }

abbrev of : Form → List Tree → Tree
of form parts = tree form here parts

abbrev name : List ℕ → Tree
name x = of (form_is.Name x) []

abbrev names : List (List ℕ) → List Tree
names xs = map name xs

abbrev path_to : List (List ℕ) → Tree
path_to xs = of (form_is.Type type_is.Path) (of form_is.Path (names xs) ∷ [])

abbrev label : List ℕ → Tree
label x = of form_is.Label (name x ∷ absent ∷ [])

abbrev type : List ℕ → Tree → Tree
type x t = of (form_is.Decl (decl_is.Type false)) (name x ∷ t ∷ [])

abbrev import_of : List ℕ → Tree
import_of x = of (form_is.Decl decl_is.Import) (name x ∷ [])

abbrev constant : List ℕ → Tree
constant x = of (form_is.Decl (decl_is.Const false)) (name x ∷ absent ∷ of (form_is.Expr (expr_is.Number 1)) [] ∷ [])

abbrev module_of : List ℕ → List Tree → Tree
module_of x ds = of form_is.Module (name x ∷ in_row ds ∷ [])

-- module M; import N; type E = enum { A, B }; type N = N::F; const C = 1; type N = bool; import spicy;
abbrev m : Tree
m =
    module_of (codes "M") (
    import_of (codes "N")
    ∷ type (codes "E") (of (form_is.Type type_is.Enum) (label (codes "A") ∷ label (codes "B") ∷ []))
    ∷ type (codes "N") (path_to (codes "N" ∷ codes "F" ∷ []))
    ∷ constant (codes "C")
    ∷ type (codes "N") (of (form_is.Type type_is.Bool) [])
    ∷ import_of (codes "spicy")
    ∷ [])

-- module N; import M; type F = M::E; type G = H; type H = G; type K = vector<Nowhere>; type Big = spicy::ByteOrder;
abbrev n : Tree
n =
    module_of (codes "N") (
    import_of (codes "M")
    ∷ type (codes "F") (path_to (codes "M" ∷ codes "E" ∷ []))
    ∷ type (codes "G") (path_to (codes "H" ∷ []))
    ∷ type (codes "H") (path_to (codes "G" ∷ []))
    ∷ type (codes "K") (of (form_is.Type type_is.Vector) (path_to (codes "Nowhere" ∷ []) ∷ []))
    ∷ type (codes "Big") (path_to (codes "spicy" ∷ codes "ByteOrder" ∷ []))
    ∷ [])

abbrev both : List Tree
both = m ∷ n ∷ []

-- the answers after four rounds
abbrev answers : ℕ → Option Ty
answers = round (tries both) 4

pub eleven_more : length (rows both) ≡ 12
eleven_more = refl

pub one_enum : all_of sort_is.Enum both ≡ 1 ∷ []
one_enum = refl

pub first_of_two : declared both 0 (codes "N") ≡ Some 2
first_of_two = refl

pub in_the_second : declared both 1 (codes "F") ≡ Some 7
in_the_second = refl

-- an enum has the number after those of the library, also by aliases through both modules
pub enum_row : answers 1 ≡ Some (word (word_is.Enum 4))
enum_row = refl

pub alias_row : answers 7 ≡ Some (word (word_is.Enum 4))
alias_row = refl

-- `type N = N::F` names itself: the declaration N is asked too
pub own_and_module : answers 2 ≡ None
own_and_module = refl

pub endless_rows : answers 8 ≡ None
endless_rows = refl

pub constant_row : answers 3 ≡ Some (word word_is.Unknown)
constant_row = refl

-- `F::B` in N is the second label of the enum; `M::F` is nothing in N, since M has no F; `E::B` is nothing in N
pub label_row : means both answers 1 (codes "F" ∷ codes "B" ∷ []) ≡ meaning_is.Label 4 1
label_row = refl

pub no_member : means both answers 1 (codes "M" ∷ codes "F" ∷ []) ≡ meaning_is.Nothing 1
no_member = refl

pub not_visible : means both answers 1 (codes "E" ∷ codes "B" ∷ []) ≡ meaning_is.Nothing 0
not_visible = refl

-- `N::F::A`: the own declaration N is no enum, so the module N counts
pub through_a_module : means both answers 0 (codes "N" ∷ codes "F" ∷ codes "A" ∷ []) ≡ meaning_is.Label 4 0
through_a_module = refl

pub no_label : means both answers 0 (codes "N" ∷ codes "F" ∷ codes "C" ∷ []) ≡ meaning_is.Nothing 2
no_label = refl

-- a constant has no members, and a module alone is nothing
pub in_a_constant : means both answers 0 (codes "M" ∷ codes "C" ∷ codes "C" ∷ []) ≡ meaning_is.Nothing 2
in_a_constant = refl

pub a_module_alone : means both answers 0 (codes "M" ∷ []) ≡ meaning_is.Nothing 0
a_module_alone = refl

-- the library is visible where it is imported
pub library_row : means both answers 0 (codes "spicy" ∷ codes "ByteOrder" ∷ codes "Network" ∷ []) ≡ meaning_is.Label 0 2
library_row = refl

pub library_not_imported : means both answers 1 (codes "spicy" ∷ codes "ByteOrder" ∷ []) ≡ meaning_is.Nothing 0
library_not_imported = refl

-- the second N, the unknown name in K, and `spicy`, which N doesn't import
pub faults_row : broken (name_faults both answers) ≡ fault_at rule_is.NameTwice 0 (name (codes "N")) ∷ fault_at rule_is.UnknownName 1 (name (codes "Nowhere")) ∷ fault_at rule_is.UnknownName 1 (name (codes "spicy")) ∷ []
faults_row = refl

pub twice_row : broken (name_faults (m ∷ m ∷ []) (λ g. None)) ≡ fault_at rule_is.NameTwice 0 (name (codes "N")) ∷ fault_at rule_is.UnknownName 0 (name (codes "F")) ∷ fault_at rule_is.ModuleTwice 1 (name (codes "M")) ∷ fault_at rule_is.NameTwice 1 (name (codes "N")) ∷ fault_at rule_is.UnknownName 1 (name (codes "F")) ∷ []
twice_row = refl

-- module O; const C: tuple<unit { var x: enum { A }; }> = 1; type U = unit (p: unit { }) { };
abbrev unit_of : List Tree → List Tree → Tree
unit_of parameters items =
    of (form_is.Type type_is.Unit) (of form_is.Unit (in_row parameters ∷ in_row items ∷ []) ∷ [])

abbrev o : Tree
o =
    module_of (codes "O") (
    of (form_is.Decl (decl_is.Const false)) (
    name (codes "C")
    ∷ of (form_is.Type type_is.Tuple) (
    unit_of [] (
    of (form_is.Item item_is.Variable) (
    name (codes "x")
    ∷ of (form_is.Type type_is.Enum) (label (codes "A") ∷ [])
    ∷ absent
    ∷ [])
    ∷ [])
    ∷ [])
    ∷ of (form_is.Expr (expr_is.Number 1)) []
    ∷ [])
    ∷ type (codes "U") (
    unit_of (of (form_is.Parameter false) (name (codes "p") ∷ unit_of [] [] ∷ []) ∷ []) [])
    ∷ [])

-- behind both declarations stand the unit in C, the enum in that, and the unit in U
pub inner_units : all_of sort_is.Unit (o ∷ []) ≡ 1 ∷ 2 ∷ 4 ∷ []
inner_units = refl

pub inner_enum : all_of sort_is.Enum (o ∷ []) ≡ 3 ∷ []
inner_enum = refl

-- those of all modules stand behind all declarations, and have the numbers behind those that are declared
pub behind_all : all_of sort_is.Enum (o ∷ m ∷ []) ≡ 3 ∷ 9 ∷ []
behind_all = refl

pub inner_number : number_at (o ∷ []) 4 ≡ 2
inner_number = refl

pub inner_type : round (tries (o ∷ [])) 1 3 ≡ Some (word (word_is.Enum 4))
inner_type = refl
