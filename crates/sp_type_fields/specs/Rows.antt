-- Rows on which the typing of fields is run: what attributes mean on them, constants in place of types, switches, parameters.
use Rattle.std.specs.Prelude.{ℕ, ◌+◌, ◌≡◌, if◌then◌else◌, true, false, List, [], ◌∷◌, Option, Some, None, codes, refl}
use Rattle.std.specs.Str.{bytes_eq}
use Rattle.sp_base.specs.declared.places.Span.{Span}
use Rattle.sp_words.specs.declared.words.AttributeName.{AttributeName}
use Rattle.sp_words.specs.declared.words.AttributeName.TheVariants as name_is
use Rattle.sp_words.specs.declared.words.IntWord.TheVariants as int
use Rattle.sp_numbers.specs.declared.width.Width.TheVariants.{W8, W16, W64}
use Rattle.sp_ast.specs.Trees.{Tree, tree, in_row, node, none, more, absent, trees}
use Rattle.sp_ast.specs.declared.forms.Form.TheVariants as form_is
use Rattle.sp_ast.specs.declared.forms.ExprForm.{ExprForm}
use Rattle.sp_ast.specs.declared.forms.ExprForm.TheVariants as expr_is
use Rattle.sp_ast.specs.declared.forms.TypeForm.{TypeForm}
use Rattle.sp_ast.specs.declared.forms.TypeForm.TheVariants as type_is
use Rattle.sp_ast.specs.declared.forms.BaseForm.{BaseForm}
use Rattle.sp_ast.specs.declared.forms.BaseForm.TheVariants as base_is
use Rattle.sp_ast.specs.declared.forms.PartForm.TheVariants as part_is
use Rattle.sp_ast.specs.declared.forms.GuardForm.{GuardForm}
use Rattle.sp_ast.specs.declared.forms.GuardForm.TheVariants as guard_is
use Rattle.sp_ast.specs.declared.forms.BodyForm.TheVariants as body_is
use Rattle.sp_types.specs.Types.{Ty, word, made}
use Rattle.sp_types.specs.Types as types
use Rattle.sp_types.specs.declared.words.Word.TheVariants as word_is
use Rattle.sp_types.specs.declared.words.Maker.TheVariants as maker_is
use Rattle.sp_typed.specs.declared.words.LeafOp.{LeafOp}
use Rattle.sp_typed.specs.declared.words.LeafOp.TheVariants as leaf_is
use Rattle.sp_typed.specs.declared.words.Standing.TheVariants as standing_is
use Rattle.sp_typed.specs.declared.words.ManyOp.TheVariants as many_is
use Rattle.sp_typed.specs.declared.words.NewOf.TheVariants as new_is
use Rattle.sp_typed.specs.Exprs.{Expr, leaf, many, exprs}
use Rattle.sp_typed_units.specs.declared.attributes.Attribute.{Attribute}
use Rattle.sp_typed_units.specs.declared.readings.ReadOp.TheVariants as read_is
use Rattle.sp_typed_units.specs.declared.readings.TokenOp.TheVariants as token_is
use Rattle.sp_typed_units.specs.Specs.{Spec, unit_read, group_read}
use Rattle.sp_typed_units.specs.declared.items.Arm.{Arm}
use Rattle.sp_typed_units.specs.Parts.{Part, Arms, field, choice, no_parts, no_arms, more_arms}
use Rattle.sp_type_context.specs.Contexts.{Around}
use Rattle.sp_type_operands.specs.Operands.{unknown, boolean}
use Rattle.sp_type_context.specs.Typing.{typed, leaf_at, name_of}
use Rattle.sp_type_fields.specs.declared.roles.Kind.TheVariants as kind_is
use Rattle.sp_type_fields.specs.Values.{Values}
use Rattle.sp_type_scopes.specs.Decorators.{with_current, with_self}
use Rattle.sp_type_fields.specs.Readings.{counted_read, word_read, called_word, simple, broken, literal, fine, unnamed, misplaced, in_vain}
use Rattle.sp_type_fields.specs.Parts.{Fields, part_of}

abbrev here : Span
here = record { from = 3; to = 5 }

abbrev byte : Ty
byte = word (word_is.Uint W8)

abbrev short : Ty
short = word (word_is.Uint W16)

abbrev long : Ty
long = word (word_is.Uint W64)

-- C is a constant of bytes, N one of a number, U a unit, and nothing else has a name
abbrev first_name : Tree → List ℕ
first_name (node form span (more name ts)) = name_of name
first_name _ = []

abbrev leaf_of : Span → List ℕ → Expr
leaf_of span x =
    if bytes_eq x (codes "C") then leaf_at span (word word_is.Bytes) (leaf_is.Constant 4) else (if bytes_eq x (codes "N") then leaf_at span byte (leaf_is.Constant 5) else (if bytes_eq x (codes "U") then leaf_at span unknown (leaf_is.TypeName (word_is.Unit 2)) else leaf_at span unknown (leaf_is.Nothing span)))

abbrev written_type : Tree → Ty
written_type (node (form_is.Type (type_is.Int int.Uint8)) span ts) = byte
written_type (node (form_is.Type (type_is.Int int.Uint16)) span ts) = short
written_type (node (form_is.Type type_is.Bytes) span ts) = word word_is.Bytes
written_type (node (form_is.Type type_is.Bool) span ts) = boolean
written_type _ = unknown

abbrev around : Around
around = record {
  path = λ span path. leaf_of span (first_name path);
  named = λ span path. leaf_of span (first_name path);
  itself = λ span. leaf_at span unknown (leaf_is.Itself standing_is.Unmeant);
  current = λ span. leaf_at span unknown (leaf_is.Current standing_is.Unmeant);
  type_in = λ place t. written_type t;
  written = λ place t. fine here;
  member = λ t x. None;
  method = λ t x span ts. None;
  target = λ op t n. Some short;
  left_out = λ op span n. [];
  result = λ n. unknown;
  item = λ e. None;
}

-- bytes are worth what they say, and the constant is `x`
abbrev bytes_op : LeafOp → Option (List ℕ)
bytes_op (leaf_is.Bytes bytes) = Some bytes
bytes_op (leaf_is.Constant n) = Some (codes "x")
bytes_op _ = None

abbrev bytes_in : Expr → Option (List ℕ)
bytes_in (leaf h) = bytes_op h.op
bytes_in _ = None

abbrev values : Values
values = record { number = λ e. Some 1; bytes = bytes_in; regex = λ e. None }

abbrev fields : Fields
fields = record { number = λ x. 7; taken = λ span. false; hooks = λ span. 9 ∷ [] }

-- trees
abbrev expr : ExprForm → List Tree → Tree
expr form parts = tree (form_is.Expr form) here parts

abbrev number : ℕ → Tree
number n = expr (expr_is.Number n) []

abbrev current : Tree
current = expr expr_is.Current []

abbrev named : List ℕ → Tree
named x = tree form_is.Path here (tree (form_is.Name x) here [] ∷ [])

abbrev path : List ℕ → Tree
path x = expr expr_is.Path (named x ∷ [])

abbrev base : BaseForm → List Tree → Tree
base form parts = tree (form_is.Base form) here parts

abbrev of_type : TypeForm → Tree
of_type form = base base_is.Type (tree (form_is.Type form) here [] ∷ [])

abbrev of_path : List ℕ → Tree
of_path x = base base_is.Type (tree (form_is.Type type_is.Path) here (named x ∷ []) ∷ [])

abbrev attribute : AttributeName → Tree → Tree
attribute name value = tree (form_is.Attribute name) here (value ∷ [])

abbrev count : Tree → Tree
count n = tree form_is.Count here (n ∷ [])

abbrev field_tree : Tree → Tree → List Tree → List Tree → Tree
field_tree name what counts ts =
    tree (form_is.Part part_is.Field) here (tree form_is.Field here (name ∷ what ∷ in_row counts ∷ in_row ts ∷ absent ∷ absent ∷ in_row [] ∷ []) ∷ [])

abbrev name : Tree
name = tree (form_is.Name (codes "f")) here []

-- the types of `$$` that the values of attributes have which are `$$` alone
abbrev expr_type : Option Expr → Ty
expr_type (Some (leaf h)) = h.ty
expr_type _ = unknown

abbrev value_types : List Attribute → List Ty
value_types [] = []
value_types (a ∷ l) = expr_type a.value ∷ value_types l

abbrev part_types : Part → List Ty
part_types (field f) = f.ty ∷ value_types f.attributes
part_types _ = []

abbrev typed_part : Tree → Part
typed_part t = part_of around values fields t

-- `f: uint8`
integer : counted_read around values (of_type (type_is.Int int.Uint8)) none ≡ simple here byte kind_is.Integer read_is.Int
integer = refl

-- `f: bool` can't be read, `f: X` names nothing, `f: N` names a number
truth : counted_read around values (of_type type_is.Bool) none ≡ broken here (misplaced here here)
truth = refl

-- a type in which something is unknown is told for what is wrong inside it, and not for itself
unknown_inside : counted_read around values (of_type type_is.Set) none ≡ broken here (fine here)
unknown_inside = refl

nothing : counted_read around values (of_path (codes "X")) none ≡ broken here (unnamed here here)
nothing = refl

number_constant : counted_read around values (of_path (codes "N")) none ≡ broken here (misplaced here here)
number_constant = refl

-- nothing is known of what the decoder of the library would read
the_decoder : (word_read here word_is.Decoder).ty ≡ unknown
the_decoder = refl

-- `f: C`, where C is bytes
constant : counted_read around values (of_path (codes "C")) none ≡ literal here (token_is.Bytes (codes "x")) (Some 4)
constant = refl

-- `f: U(1)`: the argument goes to a uint16
unit : (counted_read around values (base base_is.Unit (named (codes "U") ∷ in_row (number 1 ∷ []) ∷ [])) none).spec ≡ unit_read (record { span = here; unit = 2 }) (exprs (leaf_at here short (leaf_is.Number 1) ∷ []))
unit = refl

-- `f: N(1)` can't be read, and keeps what stands in its parentheses
no_unit : (counted_read around values (base base_is.Unit (named (codes "N") ∷ in_row (number 1 ∷ []) ∷ [])) none).spec ≡ group_read here (broken here (misplaced here here)).spec (in_vain (typed around (number 1)) ∷ [])
no_unit = refl

-- `f: D(1)`, where D is the decoder of the library, keeps it as `new D(1)` has it
called_decoder : (called_word around here here word_is.Decoder (typed around (number 1) ∷ [])).spec ≡ group_read here (word_read here word_is.Decoder).spec (in_vain (many (record { span = here; ty = unknown; op = many_is.New new_is.Decoder here }) (exprs (typed around (number 1) ∷ []))) ∷ [])
called_decoder = refl

-- and `f: D()` has nothing to keep
bare_decoder : (called_word around here here word_is.Decoder []).spec ≡ group_read here (word_read here word_is.Decoder).spec []
bare_decoder = refl

-- `f: uint8[2][]` is a vector of vectors, as far as the input tells
counts : (counted_read around values (of_type (type_is.Int int.Uint8)) (trees (count (number 2) ∷ count absent ∷ []))).ty ≡ made maker_is.Vector (types.more (made maker_is.Vector (types.more byte types.none)) types.none)
counts = refl

open_one : (counted_read around values (of_type (type_is.Int int.Uint8)) (trees (count (number 2) ∷ count absent ∷ []))).kind ≡ kind_is.Open
open_one = refl

-- `f: uint8 &requires=$$ &convert=C`: the requirement sees what the conversion makes, wherever that stands
required : part_types (typed_part (field_tree name (of_type (type_is.Int int.Uint8)) [] (attribute name_is.Requires current ∷ attribute name_is.Convert (path (codes "C")) ∷ []))) ≡ word word_is.Bytes ∷ (word word_is.Bytes ∷ (word word_is.Bytes ∷ []))
required = refl

-- `f: uint8 &convert=$$` sees what is read
conversion_sees : part_types (typed_part (field_tree name (of_type (type_is.Int int.Uint8)) [] (attribute name_is.Convert current ∷ []))) ≡ byte ∷ (byte ∷ [])
conversion_sees = refl

-- `f: uint16[] &until=$$` sees an element, and so does `f: uint16[2] &until=$$`; `f: uint16 &until=$$` nothing that is known
until_open : part_types (typed_part (field_tree name (of_type (type_is.Int int.Uint16)) (count absent ∷ []) (attribute name_is.Until current ∷ []))) ≡ made maker_is.Vector (types.more short types.none) ∷ (short ∷ [])
until_open = refl

until_counted : part_types (typed_part (field_tree name (of_type (type_is.Int int.Uint16)) (count (number 2) ∷ []) (attribute name_is.Until current ∷ []))) ≡ made maker_is.Vector (types.more short types.none) ∷ (short ∷ [])
until_counted = refl

until_integer : part_types (typed_part (field_tree name (of_type (type_is.Int int.Uint16)) [] (attribute name_is.Until current ∷ []))) ≡ short ∷ (unknown ∷ [])
until_integer = refl

-- `f: uint16 &default=1 &size=1`: the default takes the type of the field, a size has its own
default : part_types (typed_part (field_tree name (of_type (type_is.Int int.Uint16)) [] (attribute name_is.Default (number 1) ∷ attribute name_is.Size (number 1) ∷ []))) ≡ short ∷ (short ∷ (long ∷ []))
default = refl

-- `: uint16 &default=1`: a default goes to the type of an anonymous field too, where it can't stand
anonymous : part_types (typed_part (field_tree absent (of_type (type_is.Int int.Uint16)) [] (attribute name_is.Default (number 1) ∷ []))) ≡ short ∷ (short ∷ [])
anonymous = refl

-- `(uint16 &default=1)`: it goes to no field there, so it is the literal that it is by itself
abbrev spec_types : Spec → List Ty
spec_types (group_read at s l) = value_types l
spec_types _ = []

in_group : spec_types (counted_read around values (base base_is.Group (of_type (type_is.Int int.Uint16) ∷ in_row [] ∷ in_row (attribute name_is.Default (number 1) ∷ []) ∷ [])) none).spec ≡ long ∷ []
in_group = refl

-- `(uint8 &convert=C)[]` is a vector of bytes
group : (counted_read around values (base base_is.Group (of_type (type_is.Int int.Uint8) ∷ in_row [] ∷ in_row (attribute name_is.Convert (path (codes "C")) ∷ []) ∷ [])) (trees (count absent ∷ []))).ty ≡ made maker_is.Vector (types.more (word word_is.Bytes) types.none)
group = refl

-- `f: bytes &until=b"x"` ends at these bytes; `f: uint8 &byte-order=C &bit-order=C` has two numbers
abbrev told : List Attribute → List (Option (List ℕ) × Option ℕ)
told [] = []
told (a ∷ l) = (a.bytes, a.number) ∷ told l

abbrev part_told : Part → List (Option (List ℕ) × Option ℕ)
part_told (field f) = told f.attributes
part_told _ = []

delimiter : part_told (typed_part (field_tree name (of_type type_is.Bytes) [] (attribute name_is.Until (expr (expr_is.Bytes (codes "x")) []) ∷ []))) ≡ (Some (codes "x"), None) ∷ []
delimiter = refl

order : part_told (typed_part (field_tree name (of_type (type_is.Int int.Uint8)) [] (attribute name_is.ByteOrder (path (codes "C")) ∷ attribute name_is.BitOrder (path (codes "C")) ∷ []))) ≡ (None, Some 1) ∷ ((None, Some 1) ∷ [])
order = refl

-- `switch (N) { 1 -> ; * -> ; }`: the value takes the type of N, and the arms stand at `1` and `*`
abbrev guard_at : ℕ → GuardForm → List Tree → Tree
guard_at n form parts = tree (form_is.Guard form) (record { from = n; to = n + 1 }) parts

abbrev arm : Tree → Tree
arm guard = tree form_is.Arm here (guard ∷ tree (form_is.Body body_is.Nothing) here [] ∷ [])

abbrev switch_on : Tree → List Tree → Part
switch_on subject arms = typed_part (tree (form_is.Part part_is.Switch) here (subject ∷ in_row arms ∷ []))

abbrev empty_arms : List Arm → Arms
empty_arms [] = no_arms
empty_arms (a ∷ rest) = more_arms a no_parts (empty_arms rest)

switch : switch_on (path (codes "N")) (arm (guard_at 20 guard_is.Values (number 1 ∷ [])) ∷ arm (guard_at 30 guard_is.Otherwise []) ∷ []) ≡ choice here (Some (leaf_at here byte (leaf_is.Constant 5))) (empty_arms ((record { span = record { from = 20; to = 21 }; values = leaf_at here byte (leaf_is.Number 1) ∷ []; otherwise = false }) ∷ (record { span = record { from = 30; to = 31 }; values = []; otherwise = true }) ∷ []))
switch = refl

-- `switch { -> ; -> ; }`: plain arms stand at their `->`, which is what the trees of their guards stand on
plain_switch : switch_on absent (arm (guard_at 20 guard_is.LookAhead []) ∷ arm (guard_at 30 guard_is.LookAhead []) ∷ []) ≡ choice here None (empty_arms ((record { span = record { from = 20; to = 21 }; values = []; otherwise = false }) ∷ (record { span = record { from = 30; to = 31 }; values = []; otherwise = false }) ∷ []))
plain_switch = refl

-- `self`, beside `$$`
itself : typed (with_self (word (word_is.Unit 2)) standing_is.Meant (with_current byte standing_is.Meant around)) (expr expr_is.Itself []) ≡ leaf_at here (word (word_is.Unit 2)) (leaf_is.Itself standing_is.Meant)
itself = refl
