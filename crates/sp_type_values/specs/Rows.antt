-- Rows on which the definitions are run: constants in any order, one that is made of itself, one that leads to it, an index that
-- is a constant, and the labels of an enum.
use Rattle.std.specs.Prelude.{ℕ, ◌≡◌, true, false, List, [], ◌∷◌, length, map, slice_get, Option, Some, None, codes, refl}
use Rattle.sp_base.specs.declared.places.Span.{Span}
use Rattle.sp_words.specs.declared.words.IntWord.TheVariants as int
use Rattle.sp_words.specs.declared.operators.BinaryOp.TheVariants as op_is
use Rattle.sp_numbers.specs.declared.width.Width.TheVariants.{W8, W16, W64}
use Rattle.sp_ast.specs.Trees.{Tree, absent, in_row, tree}
use Rattle.sp_ast.specs.declared.forms.Form.{Form}
use Rattle.sp_ast.specs.declared.forms.Form.TheVariants as form_is
use Rattle.sp_ast.specs.declared.forms.DeclForm.TheVariants as decl_is
use Rattle.sp_ast.specs.declared.forms.TypeForm.TheVariants as type_is
use Rattle.sp_ast.specs.declared.forms.ExprForm.{ExprForm}
use Rattle.sp_ast.specs.declared.forms.ExprForm.TheVariants as expr_is
use Rattle.sp_value.specs.Val.{uint, bool, enum}
use Rattle.sp_types.specs.Types.{Ty, word}
use Rattle.sp_types.specs.declared.words.Word.TheVariants as word_is
use Rattle.sp_solver.specs.Rounds.{round}
use Rattle.sp_dependencies.specs.Tries.{tries}
use Rattle.sp_names.specs.Aliases.{tries as type_tries}
use Rattle.sp_type_operands.specs.Operands.{unknown, boolean}
use Rattle.sp_type_constants.specs.declared.outcome.Outcome.TheVariants.{Value, NotConstant, Unknown}
use Rattle.sp_type_values.specs.declared.answer.Answer.{Answer}
use Rattle.sp_type_values.specs.Valued.{valued, label_place, needs}
use Rattle.sp_typed_units.specs.declared.declarations.Constant.{Constant}
use Rattle.sp_typed_units.specs.declared.declarations.ConstantValue.{ConstantValue}
use Rattle.sp_typed_units.specs.declared.declarations.ConstantValue.TheVariants as constant_is
use Rattle.sp_typed_units.specs.declared.declarations.LabelNumber.{LabelNumber}
use Rattle.sp_typed_units.specs.declared.declarations.LabelNumber.TheVariants as number_is
use Rattle.sp_typed_units.specs.declared.declarations.Label.{Label}
use Rattle.sp_typed_units.specs.declared.declarations.Enum.{Enum}
use Rattle.sp_type_values.specs.Answers.{gives, constant_type, constant_value, label_value}
use Rattle.sp_type_values.specs.TypedRows.{typed_constants, typed_enums}

abbrev here : Span
here = record { from = 0; to = 0 }

abbrev of : Form → List Tree → Tree
of form parts = tree form here parts

abbrev name : List ℕ → Tree
name x = of (form_is.Name x) []

abbrev expr : ExprForm → List Tree → Tree
expr form parts = of (form_is.Expr form) parts

abbrev path : List (List ℕ) → Tree
path xs = expr expr_is.Path (of form_is.Path (map name xs) ∷ [])

abbrev number : ℕ → Tree
number n = expr (expr_is.Number n) []

abbrev constant : List ℕ → Tree → Tree → Tree
constant x t e = of (form_is.Decl (decl_is.Const false)) (name x ∷ t ∷ e ∷ [])

abbrev byte : Tree
byte = of (form_is.Type (type_is.Int int.Uint8)) []

abbrev short : Tree
short = of (form_is.Type (type_is.Int int.Uint16)) []

abbrev label : List ℕ → Tree → Tree
label x n = of form_is.Label (name x ∷ n ∷ [])

abbrev sum : Tree → Tree → Tree
sum a b = expr (expr_is.Binary op_is.Add) (a ∷ b ∷ [])

-- module M; const A = B + 1; const B: uint8 = 7; const C = C; const D: uint16 = C;
-- const F = (2, True)[G]; const G = 1; type E = enum { P, Q = B, R }; const H: uint16 = B; const I: uint8 = 300; const J = E::R;
abbrev m : Tree
m =
    of form_is.Module (name (codes "M") ∷ in_row (
    constant (codes "A") absent (sum (path (codes "B" ∷ [])) (number 1))
    ∷ constant (codes "B") byte (number 7)
    ∷ constant (codes "C") absent (path (codes "C" ∷ []))
    ∷ constant (codes "D") short (path (codes "C" ∷ []))
    ∷ constant (codes "F") absent (expr expr_is.Index (expr expr_is.Tuple (number 2 ∷ expr expr_is.True [] ∷ []) ∷ path (codes "G" ∷ []) ∷ []))
    ∷ constant (codes "G") absent (number 1)
    ∷ of (form_is.Decl (decl_is.Type false)) (name (codes "E") ∷ of (form_is.Type type_is.Enum) (label (codes "P") absent ∷ label (codes "Q") (path (codes "B" ∷ [])) ∷ label (codes "R") absent ∷ []) ∷ [])
    ∷ constant (codes "H") short (path (codes "B" ∷ []))
    ∷ constant (codes "I") byte (number 300)
    ∷ constant (codes "J") absent (path (codes "E" ∷ codes "R" ∷ []))
    ∷ []) ∷ [])

abbrev list : List Tree
list = m ∷ []

abbrev types : ℕ → Option Ty
types = round (type_tries list) 2

-- what is answered in four rounds
abbrev known : ℕ → Option Answer
known = round (tries (length (valued list types)) (needs list types) (gives list types)) 4

needs_row : needs list types 0 ≡ 1 ∷ []
needs_row = refl

needs_itself : needs list types 2 ≡ 2 ∷ []
needs_itself = refl

-- a label depends on what is named in its number, and one without a number on the label before it
needs_of_label : needs list types 10 ≡ 1 ∷ []
needs_of_label = refl

needs_before : needs list types 11 ≡ 10 ∷ []
needs_before = refl

place_row : label_place list types 4 2 ≡ Some 11
place_row = refl

no_place : label_place list types 4 3 ≡ None
no_place = refl

-- the type of a value is that of the constant, and the literal takes it
sum_type : constant_type list types known 0 ≡ word (word_is.Uint W8)
sum_type = refl

sum_value : constant_value list types known 0 ≡ Value (uint W8 8)
sum_value = refl

-- one that is made of itself, and one that leads to it
itself_type : constant_type list types known 2 ≡ unknown
itself_type = refl

itself_value : constant_value list types known 2 ≡ NotConstant
itself_value = refl

behind_type : constant_type list types known 3 ≡ word (word_is.Uint W16)
behind_type = refl

behind_value : constant_value list types known 3 ≡ NotConstant
behind_value = refl

-- the type of a member of a tuple hangs on the value of its index
item_type : constant_type list types known 4 ≡ boolean
item_type = refl

-- a value goes to the type that is written; one that doesn't has no value
widened_value : constant_value list types known 6 ≡ Value (uint W16 7)
widened_value = refl

past_value : constant_value list types known 7 ≡ Unknown
past_value = refl

first_row : label_value list types known 4 0 ≡ Value (enum 4 0)
first_row = refl

numbered_row : label_value list types known 4 1 ≡ Value (enum 4 7)
numbered_row = refl

next_row : label_value list types known 4 2 ≡ Value (enum 4 8)
next_row = refl

label_row : constant_value list types known 8 ≡ Value (enum 4 8)
label_row = refl

label_type : constant_type list types known 8 ≡ word (word_is.Enum 4)
label_type = refl

library_row : label_value list types known 0 2 ≡ Value (enum 0 2)
library_row = refl

-- the rows of the typed list: each constant by its number, with its type and what it is where it is used in no expression
abbrev shown : Constant → ConstantValue
shown c = c.value

abbrev type_shown : Constant → Ty
type_shown c = c.ty

typed_values : map shown (typed_constants list types known)
    ≡ constant_is.Value (uint W8 8) ∷ constant_is.Value (uint W8 7) ∷ constant_is.NotConstant ∷ constant_is.NotConstant ∷ constant_is.Value (bool true) ∷ constant_is.Value (uint W64 1) ∷ constant_is.Value (uint W16 7) ∷ constant_is.Unknown
    ∷ constant_is.Value (enum 4 8) ∷ []
typed_values = refl

typed_types : map type_shown (typed_constants list types known)
    ≡ word (word_is.Uint W8) ∷ word (word_is.Uint W8) ∷ unknown ∷ word (word_is.Uint W16) ∷ boolean ∷ word (word_is.Uint W64) ∷ word (word_is.Uint W16) ∷ word (word_is.Uint W8) ∷ word (word_is.Enum 4) ∷ []
typed_types = refl

-- the enums of the library stand first
abbrev path_shown : Enum → List ℕ
path_shown e = e.path

enum_paths : map path_shown (typed_enums list types known)
    ≡ codes "spicy::ByteOrder" ∷ codes "spicy::BitOrder" ∷ codes "spicy::Charset" ∷ codes "spicy::DecodeErrorStrategy" ∷ codes "M::E" ∷ []
enum_paths = refl

abbrev number_shown : Label → LabelNumber
number_shown l = l.number

abbrev numbers_shown : Enum → List LabelNumber
numbers_shown e = map number_shown e.labels

-- behind a label with a number the next one has the next number
label_numbers : slice_get (map numbers_shown (typed_enums list types known)) 4 ≡ Some (number_is.Number 0 ∷ number_is.Number 7 ∷ number_is.Number 8 ∷ [])
label_numbers = refl

library_numbers : slice_get (map numbers_shown (typed_enums list types known)) 3 ≡ Some (number_is.Number 0 ∷ number_is.Number 1 ∷ number_is.Number 2 ∷ [])
library_numbers = refl

-- module N; type E = enum { A = 18446744073709551615, B, C }; type F = enum { P = F::P, Q, R = True };
abbrev greatest : List Tree
greatest =
    of form_is.Module (name (codes "N") ∷ in_row (
    of (form_is.Decl (decl_is.Type false)) (name (codes "E") ∷ of (form_is.Type type_is.Enum) (label (codes "A") (number 18446744073709551615) ∷ label (codes "B") absent ∷ label (codes "C") absent ∷ []) ∷ [])
    ∷ of (form_is.Decl (decl_is.Type false)) (name (codes "F") ∷ of (form_is.Type type_is.Enum) (label (codes "P") (path (codes "F" ∷ codes "P" ∷ [])) ∷ label (codes "Q") absent ∷ label (codes "R") (expr expr_is.True []) ∷ []) ∷ [])
    ∷ []) ∷ []) ∷ []

abbrev own_types : ℕ → Option Ty
own_types = round (type_tries greatest) 2

abbrev greatest_known : ℕ → Option Answer
greatest_known = round (tries (length (valued greatest own_types)) (needs greatest own_types) (gives greatest own_types)) 4

-- there is no number behind the greatest, and nothing is known of what stands behind that
past_numbers : slice_get (map numbers_shown (typed_enums greatest own_types greatest_known)) 4 ≡ Some (number_is.Number 18446744073709551615 ∷ number_is.Past ∷ number_is.Unknown ∷ [])
past_numbers = refl

-- a label that is made of itself has no number, and of one whose number has another type none is known
odd_numbers : slice_get (map numbers_shown (typed_enums greatest own_types greatest_known)) 5 ≡ Some (number_is.NotConstant ∷ number_is.NotConstant ∷ number_is.Unknown ∷ [])
odd_numbers = refl
