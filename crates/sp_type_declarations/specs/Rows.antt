-- Rows on which the definitions are run: two modules with aliases and bitfields.
use Rattle.std.specs.Prelude.{ℕ, ◌≡◌, Bool, true, false, List, [], ◌∷◌, map, Option, Some, None, codes, refl}
use Rattle.sp_base.specs.declared.places.Span.{Span}
use Rattle.sp_words.specs.declared.words.IntWord.TheVariants as int
use Rattle.sp_ast.specs.Trees.{Tree, absent, in_row, tree}
use Rattle.sp_ast.specs.declared.forms.Form.{Form}
use Rattle.sp_ast.specs.declared.forms.Form.TheVariants as form_is
use Rattle.sp_ast.specs.declared.forms.DeclForm.TheVariants as decl_is
use Rattle.sp_ast.specs.declared.forms.TypeForm.TheVariants as type_is
use Rattle.sp_types.specs.Types.{Ty}
use Rattle.sp_typed_units.specs.declared.declarations.Alias.{Alias}
use Rattle.sp_typed_units.specs.declared.declarations.BitRange.{BitRange}
use Rattle.sp_solver.specs.Rounds.{round}
use Rattle.sp_names.specs.Aliases.{tries}
use Rattle.sp_type_declarations.specs.Aliases.{aliases}
use Rattle.sp_type_declarations.specs.Bitfields.{typed_bitfields}

abbrev span : ℕ → Span
span n = record { from = n; to = n }

abbrev of : Form → List Tree → Tree
of form parts = tree form (span 0) parts

abbrev name_at : ℕ → List ℕ → Tree
name_at n x = tree (form_is.Name x) (span n) []

abbrev name : List ℕ → Tree
name x = name_at 0 x

-- the type that a path of one name is, which stands at a place
abbrev path_at : ℕ → List ℕ → Tree
path_at n x = tree (form_is.Type type_is.Path) (span n) (of form_is.Path (name_at n x ∷ []) ∷ [])

abbrev type : List ℕ → Tree → Tree
type x t = of (form_is.Decl (decl_is.Type false)) (name x ∷ t ∷ [])

abbrev modules_of : List ℕ → List Tree → Tree
modules_of x ds = of form_is.Module (name x ∷ in_row ds ∷ [])

-- numbers and ranges of bits
abbrev number_at : ℕ → ℕ → Tree
number_at n v = tree (form_is.Number v) (span n) []

abbrev bits : ℕ → List ℕ → Tree → Tree → Tree
bits n x first last = of form_is.Bits (name_at n x ∷ first ∷ last ∷ [])

abbrev bitfield : Tree → List Tree → Tree
bitfield width ranges = of (form_is.Type type_is.Bitfield) (width ∷ in_row ranges ∷ [])

-- module M; type E = enum { }; type A = uint8; type B = C; type C = B; type U = unit { };
-- module N; type D = X; type F = vector<bitfield(16) { a: 0..3; b: 5; }>; type G = bitfield(8) { };
abbrev list : List Tree
list =
    modules_of (codes "M") (
    type (codes "E") (of (form_is.Type type_is.Enum) [])
    ∷ type (codes "A") (tree (form_is.Type (type_is.Int int.Uint8)) (span 1) [])
    ∷ type (codes "B") (path_at 2 (codes "C"))
    ∷ type (codes "C") (path_at 3 (codes "B"))
    ∷ type (codes "U") (of (form_is.Type type_is.Unit) (of form_is.Unit (in_row [] ∷ in_row [] ∷ []) ∷ []))
    ∷ [])
    ∷ modules_of (codes "N") (
    type (codes "D") (path_at 4 (codes "X"))
    ∷ type (codes "F") (tree (form_is.Type type_is.Vector) (span 5) (bitfield (number_at 6 16) (bits 7 (codes "a") (number_at 8 0) (number_at 9 3) ∷ bits 10 (codes "b") (number_at 11 5) absent ∷ []) ∷ []))
    ∷ type (codes "G") (bitfield (number_at 12 8) [])
    ∷ [])
    ∷ []

abbrev found : ℕ → Option Ty
found = round (tries list) 3

-- the module of an alias, where its type stands, what in it names nothing, and whether it is made of itself
abbrev told : Alias → ℕ × ℕ × Option Span × Bool
told a = (a.«module», a.written.span.from, a.written.unnamed, a.endless)

all_aliases : map told (aliases list found) ≡ (0, 1, None, false) ∷ ((0, 2, None, true) ∷ ((0, 3, None, true) ∷ ((1, 4, Some (span 4), false) ∷ ((1, 5, None, false) ∷ ((1, 0, None, false) ∷ [])))))
all_aliases = refl

-- a range of two numbers, and one of one
abbrev range_a : BitRange
range_a = record { name = codes "a"; span = span 7; from = 0; from_span = span 8; to = 3; to_span = span 9 }

abbrev range_b : BitRange
range_b = record { name = codes "b"; span = span 10; from = 5; from_span = span 11; to = 5; to_span = span 11 }

all_bitfields : typed_bitfields list ≡ (record { «module» = 1; width = 16; width_span = span 6; ranges = range_a ∷ (range_b ∷ []) }) ∷ ((record { «module» = 1; width = 8; width_span = span 12; ranges = [] }) ∷ [])
all_bitfields = refl
