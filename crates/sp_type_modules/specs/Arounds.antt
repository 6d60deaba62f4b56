-- What stands round the expressions of a module: what names, types and members mean there, where no body, unit or hook adds
-- anything.
use Rattle.std.specs.Prelude.{ℕ, ◌+◌, ◌==◌, Bool, true, false, if◌then◌else◌, List, [], Option, Some, None, slice_get}
use Rattle.sp_base.specs.declared.places.Span.{Span}
use Rattle.sp_ast.specs.Trees.{Tree, span_of}
use Rattle.sp_numbers.specs.declared.width.Width.TheVariants as width
use Rattle.sp_types.specs.declared.words.Word.{Word}
use Rattle.sp_types.specs.declared.words.Word.TheVariants as word_is
use Rattle.sp_types.specs.Types.{Ty, word, made}
use Rattle.sp_typed.specs.declared.words.LeafOp.{LeafOp}
use Rattle.sp_typed.specs.declared.words.LeafOp.TheVariants as leaf_is
use Rattle.sp_typed.specs.declared.words.OneOp.TheVariants as one_is
use Rattle.sp_typed.specs.declared.words.ManyOp.{ManyOp}
use Rattle.sp_typed.specs.declared.words.ManyOp.TheVariants as many_is
use Rattle.sp_typed.specs.declared.words.NewOf.{NewOf}
use Rattle.sp_typed.specs.declared.words.NewOf.TheVariants as new_is
use Rattle.sp_typed.specs.declared.words.Standing.TheVariants as standing_is
use Rattle.sp_typed.specs.Exprs.{Expr}
use Rattle.sp_typed_units.specs.declared.declarations.MemberKind.{MemberKind}
use Rattle.sp_typed_units.specs.declared.declarations.MemberKind.TheVariants as kind_is
use Rattle.sp_type_context.specs.declared.context.Member.{Member}
use Rattle.sp_type_context.specs.Contexts.{Around}
use Rattle.sp_type_operands.specs.Operands.{unknown}
use Rattle.sp_type_context.specs.Typing.{leaf_at}
use Rattle.sp_names.specs.declared.sort.DeclSort.{DeclSort}
use Rattle.sp_names.specs.declared.sort.DeclSort.TheVariants as sort_is
use Rattle.sp_names.specs.declared.sort.Meaning.{Meaning}
use Rattle.sp_names.specs.declared.sort.Meaning.TheVariants as meaning_is
use Rattle.sp_names.specs.Declarations.{sort_at, number_at}
use Rattle.sp_names.specs.Names.{path_means}
use Rattle.sp_names.specs.Types.{or_unknown}
use Rattle.sp_type_modules.specs.Members.{UnitMember, unit_members, first_member, numbered, kinds_of, range_number, bitfield_width, bitfield_tree}
use Rattle.sp_type_modules.specs.Heads.{function_takes, unit_takes, function_gives}
use Rattle.sp_type_methods.specs.Methods.{method_of, method_takes, unit_method_takes, sink_method_takes, left_out_of}
use Rattle.sp_type_modules.specs.Written.{name_span, type_at, written_in}

-- what is known of a list of modules when its expressions are typed
pub record Facts : Type 0 where
  -- the type of each type declaration, by its number among all declarations
  pub answers : ℕ → Option Ty
  -- the type of each constant
  pub constant : ℕ → Ty
  -- the type of what is stored in a member of a unit: the unit's number, and the member's among those of the unit
  pub stored : ℕ → ℕ → Ty
  -- the number that an expression is, where it is constant and has one
  pub number : Expr → Option ℕ

-- the types of constants, and of the members of all units in one row, where some of them are known
abbrev pub constant_by : (ℕ → Option Ty) → ℕ → Ty
constant_by known n = or_unknown (known n)

abbrev pub stored_by : List Tree → (ℕ → Option Ty) → ℕ → ℕ → Ty
stored_by list known n k = or_unknown (known (first_member list n + k))

-- the name of a type, which is the decoder where an alias names that
abbrev pub word_leaf : Word → LeafOp
word_leaf word_is.Decoder = leaf_is.Decoder
word_leaf w = leaf_is.TypeName w

-- The name of a declaration's type. Only one in which a rule is broken is unknown; one that is made of others takes no arguments,
-- as void takes none, and stands as that.
abbrev pub type_leaf : Option Ty → LeafOp
type_leaf None = leaf_is.TypeName word_is.Unknown
type_leaf (Some (word w)) = word_leaf w
type_leaf (Some (made m ts)) = leaf_is.TypeName word_is.Void

-- the path to a declaration of a sort
abbrev pub declared_at : List Tree → (ℕ → Option Ty) → (ℕ → Ty) → Span → ℕ → DeclSort → Expr
declared_at list f constant span g sort_is.Constant = leaf_at span (constant (number_at list g)) (leaf_is.Constant (number_at list g))
declared_at list f constant span g sort_is.Function = leaf_at span unknown (leaf_is.Function (number_at list g))
declared_at list f constant span g _ = leaf_at span unknown (type_leaf (f g))

-- A path on a slice of the text. What is no value is of unknown type. A module by itself names nothing.
abbrev pub meaning_at : List Tree → (ℕ → Option Ty) → (ℕ → Ty) → Span → Tree → Meaning → Expr
meaning_at list f constant span path (meaning_is.Declaration g) = declared_at list f constant span g (sort_at list g)
meaning_at list f constant span path (meaning_is.LibraryEnum n) = leaf_at span unknown (leaf_is.TypeName (word_is.Enum n))
meaning_at list f constant span path (meaning_is.Label owner label) = leaf_at span (word (word_is.Enum owner)) (leaf_is.Label owner label)
meaning_at list f constant span path meaning_is.Decoder = leaf_at span unknown leaf_is.Decoder
meaning_at list f constant span path (meaning_is.Nothing k) = leaf_at span unknown (leaf_is.Nothing (name_span path k))

-- whether what a path means is a value: a constant or a label
abbrev pub is_constant : DeclSort → Bool
is_constant sort_is.Constant = true
is_constant _ = false

abbrev pub means_value : List Tree → Meaning → Bool
means_value list (meaning_is.Declaration g) = is_constant (sort_at list g)
means_value list (meaning_is.Label owner label) = true
means_value list _ = false

-- Parentheses round a path are part of a value. Where it is none, it begins at its own first token, for a path has no parentheses.
abbrev pub slice_of : List Tree → Span → Tree → Meaning → Span
slice_of list span path meaning = if means_value list meaning then span else span_of path

abbrev pub path_at : List Tree → (ℕ → Option Ty) → (ℕ → Ty) → ℕ → Span → Tree → Expr
path_at list f constant m span path =
    meaning_at list f constant (slice_of list span path (path_means list f m path)) path (path_means list f m path)

-- a member of a unit of this kind, and its type
abbrev pub kind_type : (ℕ → Ty) → ℕ → MemberKind → Ty
kind_type stored k kind_is.Sink = word word_is.Sink
kind_type stored k _ = stored k

abbrev pub kind_member : Ty → ℕ → MemberKind → Member
kind_member t k kind_is.Field = record { op = one_is.Field k; ty = t }
kind_member t k kind_is.Variable = record { op = one_is.Variable k; ty = t }
kind_member t k kind_is.Sink = record { op = one_is.SinkOf k; ty = t }

abbrev pub some_member : (ℕ → Ty) → ℕ → Option MemberKind → Option Member
some_member stored k None = None
some_member stored k (Some kind) = Some (kind_member (kind_type stored k kind) k kind)

abbrev pub unit_member : (ℕ → Ty) → List UnitMember → Option ℕ → Option Member
unit_member stored ms None = None
unit_member stored ms (Some k) = some_member stored k (slice_get (kinds_of ms) k)

-- each range of a bitfield is an unsigned integer of the bitfield's width; of another width there is no type
abbrev pub width_type : ℕ → Ty
width_type n =
    if n == 8 then word (word_is.Uint width.W8) else (if n == 16 then word (word_is.Uint width.W16) else (if n == 32 then word (word_is.Uint width.W32) else (if n == 64 then word (word_is.Uint width.W64) else unknown)))

abbrev pub bit_member : Ty → Option ℕ → Option Member
bit_member t None = None
bit_member t (Some k) = Some (record { op = one_is.Bit k; ty = t })

abbrev pub member_of : List Tree → (ℕ → ℕ → Ty) → Ty → List ℕ → Option Member
member_of list stored (word (word_is.Unit n)) x = unit_member (stored n) (unit_members list n) (numbered x 0 (unit_members list n))
member_of list stored (word (word_is.Bitfield n)) x = bit_member (width_type (bitfield_width (bitfield_tree list n))) (range_number list n x)
member_of list stored _ x = None

-- what is taken by what a `connect` starts; the decoder takes nothing
abbrev pub new_takes : List Tree → (ℕ → Option Ty) → NewOf → List Ty
new_takes list f (new_is.Unit n) = unit_takes list f n
new_takes list f new_is.Decoder = []

-- What a call takes, by its receiver's type. The number that becomes a value of an enum may be of any integer type.
abbrev pub takes : List Tree → (ℕ → Option Ty) → ManyOp → Ty → List Ty
takes list f (many_is.Call n) t = function_takes list f n
takes list f (many_is.New u span) t = new_takes list f u
takes list f (many_is.Method m slot) t = method_takes m t
takes list f (many_is.OfUnit m span) t = unit_method_takes m
takes list f (many_is.OfSink m) t = sink_method_takes m
takes list f _ t = []

abbrev pub target_of : List Tree → (ℕ → Option Ty) → ManyOp → Ty → ℕ → Option Ty
target_of list f op t k = slice_get (takes list f op t) k

abbrev pub left_out_by : ManyOp → Span → ℕ → List Expr
left_out_by (many_is.Method m slot) span n = left_out_of m span n
left_out_by _ span n = []

-- What stands round the expressions of the module m of a list. `self` and `$$` aren't meant, and no local or parameter is seen.
abbrev pub around : List Tree → Facts → ℕ → Around
around list facts m = record {
  path = path_at list facts.answers facts.constant m;
  named = path_at list facts.answers facts.constant m;
  itself = λ span. leaf_at span unknown (leaf_is.Itself standing_is.Unmeant);
  current = λ span. leaf_at span unknown (leaf_is.Current standing_is.Unmeant);
  type_in = type_at list facts.answers m;
  written = written_in list facts.answers m;
  member = member_of list facts.stored;
  method = method_of;
  target = target_of list facts.answers;
  left_out = left_out_by;
  result = function_gives list facts.answers;
  item = facts.number;
}
