-- Rows on which the definitions are run: a module with a unit whose members come twice, a bitfield, functions, and types that
-- can't stand where they do.
use Rattle.std.specs.Prelude.{ℕ, ◌≡◌, false, List, [], ◌∷◌, Option, Some, None, map, codes, refl}
use Rattle.sp_base.specs.declared.places.Span.{Span}
use Rattle.sp_words.specs.declared.words.IntWord.{IntWord}
use Rattle.sp_words.specs.declared.words.IntWord.TheVariants as int
use Rattle.sp_words.specs.declared.methods.Method.TheVariants as method_is
use Rattle.sp_numbers.specs.declared.width.Width.TheVariants.{W16}
use Rattle.sp_ast.specs.Trees.{Tree, absent, in_row, tree}
use Rattle.sp_ast.specs.declared.forms.Form.{Form}
use Rattle.sp_ast.specs.declared.forms.Form.TheVariants as form_is
use Rattle.sp_ast.specs.declared.forms.DeclForm.TheVariants as decl_is
use Rattle.sp_ast.specs.declared.forms.TypeForm.{TypeForm}
use Rattle.sp_ast.specs.declared.forms.TypeForm.TheVariants as type_is
use Rattle.sp_ast.specs.declared.forms.ItemForm.TheVariants as item_is
use Rattle.sp_ast.specs.declared.forms.PartForm.TheVariants as part_is
use Rattle.sp_ast.specs.declared.forms.GuardForm.TheVariants as guard_is
use Rattle.sp_ast.specs.declared.forms.BodyForm.TheVariants as body_is
use Rattle.sp_ast.specs.declared.forms.BaseForm.TheVariants as base_is
use Rattle.sp_ast.specs.declared.forms.ExprForm.TheVariants as expr_is
use Rattle.sp_types.specs.Types.{Ty, word, made}
use Rattle.sp_types.specs.Types as types
use Rattle.sp_types.specs.declared.words.Word.TheVariants as word_is
use Rattle.sp_types.specs.declared.words.Maker.TheVariants as maker_is
use Rattle.sp_typed.specs.declared.words.LeafOp.TheVariants as leaf_is
use Rattle.sp_typed.specs.declared.words.OneOp.TheVariants as one_is
use Rattle.sp_typed.specs.declared.words.ManyOp.TheVariants as many_is
use Rattle.sp_typed.specs.declared.words.NewOf.TheVariants as new_is
use Rattle.sp_typed.specs.declared.words.Written.{Written}
use Rattle.sp_typed_units.specs.declared.declarations.MemberKind.TheVariants as kind_is
use Rattle.sp_type_context.specs.declared.places.Place.TheVariants as place_is
use Rattle.sp_type_context.specs.Contexts.{Around}
use Rattle.sp_type_operands.specs.Operands.{unknown, boolean}
use Rattle.sp_type_context.specs.Typing.{leaf_at}
use Rattle.sp_solver.specs.Rounds.{round}
use Rattle.sp_names.specs.Aliases.{tries}
use Rattle.sp_type_modules.specs.Members.{unit_members, first_member}
use Rattle.sp_type_methods.specs.Methods.{number, octets, nothing, charset, strategy}
use Rattle.sp_type_modules.specs.Arounds.{Facts, around}

abbrev span : ℕ → Span
span n = record { from = n; to = n }

abbrev here : Span
here = span 0

abbrev of : Form → List Tree → Tree
of form parts = tree form here parts

abbrev name : List ℕ → Tree
name x = of (form_is.Name x) []

abbrev path : List (List ℕ) → Tree
path xs = of form_is.Path (map name xs)

abbrev typed : TypeForm → List Tree → Tree
typed form parts = of (form_is.Type form) parts

abbrev path_to : List ℕ → Tree
path_to x = typed type_is.Path (path (x ∷ []) ∷ [])

abbrev integer : IntWord → Tree
integer w = typed (type_is.Int w) []

abbrev type : List ℕ → Tree → Tree
type x t = of (form_is.Decl (decl_is.Type false)) (name x ∷ t ∷ [])

abbrev parameter : List ℕ → Tree → Tree
parameter x t = of (form_is.Parameter false) (name x ∷ t ∷ [])

abbrev function : List ℕ → List Tree → Tree → Tree
function x ps result = of (form_is.Decl (decl_is.Function false)) (name x ∷ in_row ps ∷ result ∷ of form_is.Block [] ∷ [])

-- `x: uint8;` as a part, and without a name
abbrev field : Tree → Tree
field x =
    of (form_is.Part part_is.Field) (of form_is.Field (x ∷ of (form_is.Base base_is.Type) (integer int.Uint8 ∷ []) ∷ in_row [] ∷ in_row [] ∷ absent ∷ absent ∷ in_row [] ∷ []) ∷ [])

abbrev item : Tree → Tree
item part = of (form_is.Item item_is.Part) (part ∷ [])

abbrev variable : List ℕ → Tree
variable x = of (form_is.Item item_is.Variable) (name x ∷ typed type_is.Bool [] ∷ absent ∷ [])

abbrev arm : Tree → Tree
arm body = of form_is.Arm (of (form_is.Guard guard_is.LookAhead) [] ∷ body ∷ [])

-- switch { -> a: uint8; -> { b: uint8; : uint8; } -> ; }
abbrev arms : Tree
arms =
    of (form_is.Part part_is.Switch) (absent ∷ in_row (
    arm (of (form_is.Body body_is.One) (field (name (codes "a")) ∷ []))
    ∷ arm (of (form_is.Body body_is.Many) (field (name (codes "b")) ∷ field absent ∷ []))
    ∷ arm (of (form_is.Body body_is.Nothing) [])
    ∷ []) ∷ [])

abbrev bits : List ℕ → Tree
bits x = of form_is.Bits (name x ∷ of (form_is.Number 0) [] ∷ absent ∷ [])

-- module M; import spicy; type E = enum { A };
-- type U = unit (p: uint16, q: E) { var v: bool; a: uint8; sink s; switch { .. } v: uint8; };
-- type F = bitfield(16) { x: 0; y: 0; x: 0; }; const C = 1; function f(x: uint8, y: bytes): string { } function g() { }
-- type V = unit { c: uint8; }; type T = vector<uint8>; type A = A;
abbrev m : Tree
m =
    of form_is.Module (name (codes "M") ∷ in_row (
    of (form_is.Decl decl_is.Import) (name (codes "spicy") ∷ [])
    ∷ type (codes "E") (typed type_is.Enum (of form_is.Label (name (codes "A") ∷ absent ∷ []) ∷ []))
    ∷ type (codes "U") (typed type_is.Unit (of form_is.Unit (in_row (parameter (codes "p") (integer int.Uint16) ∷ parameter (codes "q") (path_to (codes "E")) ∷ [])
    ∷ in_row (variable (codes "v") ∷ item (field (name (codes "a"))) ∷ of (form_is.Item item_is.Sink) (name (codes "s") ∷ []) ∷ item arms ∷ item (field (name (codes "v"))) ∷ [])
    ∷ []) ∷ []))
    ∷ type (codes "F") (tree (form_is.Type type_is.Bitfield) (span 7) (of (form_is.Number 16) [] ∷ in_row (bits (codes "x") ∷ bits (codes "y") ∷ bits (codes "x") ∷ []) ∷ []))
    ∷ of (form_is.Decl (decl_is.Const false)) (name (codes "C") ∷ absent ∷ of (form_is.Expr (expr_is.Number 1)) [] ∷ [])
    ∷ function (codes "f") (parameter (codes "x") (integer int.Uint8) ∷ parameter (codes "y") (typed type_is.Bytes []) ∷ []) (typed type_is.String [])
    ∷ function (codes "g") [] absent
    ∷ type (codes "V") (typed type_is.Unit (of form_is.Unit (in_row [] ∷ in_row (item (field (name (codes "c"))) ∷ []) ∷ []) ∷ []))
    ∷ type (codes "T") (typed type_is.Vector (integer int.Uint8 ∷ []))
    ∷ type (codes "A") (path_to (codes "A"))
    ∷ []) ∷ [])

abbrev list : List Tree
list = m ∷ []

abbrev facts : Facts
facts = record {
  answers = round (tries list) 2;
  constant = λ n. number;
  stored = λ unit k. boolean;
  number = λ e. None;
}

abbrev g : Around
g = around list facts 0

abbrev first_unit : Ty
first_unit = word (word_is.Unit 0)

-- variables, sinks and fields in the order of the text, each name once, also in the arms of a switch; no anonymous field
members_row : unit_members list 0
    ≡ record { name = codes "v"; kind = kind_is.Variable }
    ∷ record { name = codes "a"; kind = kind_is.Field }
    ∷ record { name = codes "s"; kind = kind_is.Sink }
    ∷ record { name = codes "b"; kind = kind_is.Field }
    ∷ []
members_row = refl

-- the members of the second unit stand behind those of the first
first_row : first_member list 1 ≡ 4
first_row = refl

field_row : g.member first_unit (codes "b") ≡ Some (record { op = one_is.Field 3; ty = boolean })
field_row = refl

sink_row : g.member first_unit (codes "s") ≡ Some (record { op = one_is.SinkOf 2; ty = word word_is.Sink })
sink_row = refl

-- a parameter of a unit is no member of it
parameter_row : g.member first_unit (codes "p") ≡ None
parameter_row = refl

-- ranges are counted with those that come again
range_row : g.member (word (word_is.Bitfield 0)) (codes "y") ≡ Some (record { op = one_is.Bit 1; ty = word (word_is.Uint W16) })
range_row = refl

range_twice : g.member (word (word_is.Bitfield 0)) (codes "x") ≡ Some (record { op = one_is.Bit 0; ty = word (word_is.Uint W16) })
range_twice = refl

constant_row : g.path here (path (codes "C" ∷ [])) ≡ leaf_at here number (leaf_is.Constant 0)
constant_row = refl

function_row : g.path here (path (codes "g" ∷ [])) ≡ leaf_at here unknown (leaf_is.Function 1)
function_row = refl

unit_row : g.named here (path (codes "V" ∷ [])) ≡ leaf_at here unknown (leaf_is.TypeName (word_is.Unit 1))
unit_row = refl

-- a type that is made of others stands as void, and one that is made of itself is unknown
made_row : g.named here (path (codes "T" ∷ [])) ≡ leaf_at here unknown (leaf_is.TypeName word_is.Void)
made_row = refl

endless_row : g.named here (path (codes "A" ∷ [])) ≡ leaf_at here unknown (leaf_is.TypeName word_is.Unknown)
endless_row = refl

label_row : g.path here (path (codes "E" ∷ codes "A" ∷ [])) ≡ leaf_at here (word (word_is.Enum 4)) (leaf_is.Label 4 0)
label_row = refl

library_row : g.path here (path (codes "spicy" ∷ codes "BitOrder" ∷ codes "MSB0" ∷ [])) ≡ leaf_at here (word (word_is.Enum 1)) (leaf_is.Label 1 1)
library_row = refl

-- parentheses round a constant and a label are part of them, but none are round a function, a type and an enum of the library
constant_in_parentheses : g.path (span 8) (path (codes "C" ∷ [])) ≡ leaf_at (span 8) number (leaf_is.Constant 0)
constant_in_parentheses = refl

label_in_parentheses : g.path (span 8) (path (codes "E" ∷ codes "A" ∷ [])) ≡ leaf_at (span 8) (word (word_is.Enum 4)) (leaf_is.Label 4 0)
label_in_parentheses = refl

function_in_parentheses : g.path (span 8) (path (codes "g" ∷ [])) ≡ leaf_at here unknown (leaf_is.Function 1)
function_in_parentheses = refl

unit_in_parentheses : g.path (span 8) (path (codes "V" ∷ [])) ≡ leaf_at here unknown (leaf_is.TypeName (word_is.Unit 1))
unit_in_parentheses = refl

enum_in_parentheses : g.path (span 8) (path (codes "spicy" ∷ codes "BitOrder" ∷ [])) ≡ leaf_at here unknown (leaf_is.TypeName (word_is.Enum 1))
enum_in_parentheses = refl

-- a module by itself, and what isn't declared, name nothing
module_row : g.path here (path (codes "M" ∷ [])) ≡ leaf_at here unknown (leaf_is.Nothing here)
module_row = refl

-- `to_uint` of a base and of a byte order; `get` of one and of two arguments
base_row : g.method octets (codes "to_uint") here (number ∷ []) ≡ Some (record { op = many_is.Method method_is.ToUint None; ty = number })
base_row = refl

order_row : g.method octets (codes "to_uint") here (word (word_is.Enum 0) ∷ []) ≡ Some (record { op = many_is.Method method_is.ToUintOrder None; ty = number })
order_row = refl

abbrev numbered_texts : Ty
numbered_texts = made maker_is.Map (types.more number (types.more (word word_is.String) types.none))

get_row : g.method numbered_texts (codes "get") here (number ∷ word word_is.String ∷ []) ≡ Some (record { op = many_is.Method method_is.GetOr None; ty = word word_is.String })
get_row = refl

-- a set has no `get`
no_method : g.method (made maker_is.Set (types.more number types.none)) (codes "get") here (number ∷ []) ≡ None
no_method = refl

-- the second parameter of f, and that there is no third; the second of U
takes_row : g.target (many_is.Call 0) unknown 1 ≡ Some octets
takes_row = refl

takes_no_more : g.target (many_is.Call 0) unknown 2 ≡ None
takes_no_more = refl

new_row : g.target (many_is.New (new_is.Unit 0) here) unknown 1 ≡ Some (word (word_is.Enum 4))
new_row = refl

default_row : g.target (many_is.Method method_is.GetOr None) numbered_texts 1 ≡ Some (word word_is.String)
default_row = refl

-- `decode()` and `decode(cs)`
left_out_both : g.left_out (many_is.Method method_is.Decode None) here 0 ≡ leaf_at here charset (leaf_is.Label 2 0) ∷ leaf_at here strategy (leaf_is.Label 3 1) ∷ []
left_out_both = refl

left_out_one : g.left_out (many_is.Method method_is.Decode None) here 1 ≡ leaf_at here strategy (leaf_is.Label 3 1) ∷ []
left_out_one = refl

gives_row : g.result 0 ≡ word word_is.String
gives_row = refl

gives_nothing : g.result 1 ≡ nothing
gives_nothing = refl

abbrev at : ℕ → TypeForm → List Tree → Tree
at n form parts = tree (form_is.Type form) (span n) parts

abbrev found : Option Span → Option Span → Written
found unnamed misplaced = record { span = span 1; unnamed = unnamed; misplaced = misplaced }

-- `map<vector<uint8>, void>`: the key is the first that can't stand there
key_row : g.written place_is.Value (at 1 type_is.Map (at 2 type_is.Vector (integer int.Uint8 ∷ []) ∷ at 3 type_is.Void [] ∷ [])) ≡ found None (Some (span 2))
key_row = refl

-- `vector<U>`: a unit is no element; a local may hold one, and a parameter with `inout` is one, but it is no other value
abbrev a_unit : ℕ → Tree
a_unit n = at n type_is.Path (path (codes "U" ∷ []) ∷ [])

element_row : g.written place_is.Whole (at 1 type_is.Vector (a_unit 2 ∷ [])) ≡ found None (Some (span 2))
element_row = refl

local_row : g.written place_is.Local (a_unit 1) ≡ found None None
local_row = refl

inout_row : g.written place_is.Inout (a_unit 1) ≡ found None None
inout_row = refl

value_row : g.written place_is.Value (a_unit 1) ≡ found None (Some (span 1))
value_row = refl

not_inout_row : g.written place_is.Inout (at 1 type_is.Bool []) ≡ found None (Some (span 1))
not_inout_row = refl

-- `set<vector<vector<U>>>`: the unit alone can't stand there; nothing is asked of what is round it, nor of what is declared with it
abbrev round_it : Tree
round_it = at 1 type_is.Set (at 2 type_is.Vector (at 3 type_is.Vector (a_unit 4 ∷ []) ∷ []) ∷ [])

round_row : g.written place_is.Inout round_it ≡ found None (Some (span 4))
round_row = refl

round_type : g.type_in place_is.Whole round_it ≡ unknown
round_type = refl

-- what is declared as a unit where none can stand has no type either
declared_row : g.type_in place_is.Value (a_unit 1) ≡ unknown
declared_row = refl

-- a constant is no type, and what isn't declared names nothing: nothing is asked round it
no_type : g.written place_is.Whole (at 1 type_is.Path (path (codes "C" ∷ []) ∷ [])) ≡ found None (Some (span 1))
no_type = refl

abbrev no_name : Tree
no_name = at 3 type_is.Path (of form_is.Path (tree (form_is.Name (codes "X")) (span 5) [] ∷ []) ∷ [])

unnamed_row : g.written place_is.Key (at 1 type_is.Vector (no_name ∷ [])) ≡ found (Some (span 5)) None
unnamed_row = refl
