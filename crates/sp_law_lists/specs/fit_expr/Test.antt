-- The test of an expression and of a place, as a definition that computes.
use Rattle.std.specs.Prelude.{ℕ, ◌+◌, ◌-◌, ◌^◌, ◌==◌, pos, neg_ℤ, Bool, true, false, ◌&&◌, nat_lt, List, [], ◌∷◌, Option, Some, None, slice_get, if◌then◌else◌, is_some}
use Rattle.sp_numbers.specs.Numbers.{width_bits, fits_signed}
use Rattle.sp_words.specs.declared.methods.Method.{Method}
use Rattle.sp_words.specs.declared.methods.Method.TheVariants.{ToUint, ToInt, ToUintOrder, ToIntOrder, Sub, StartsWith, Split, Split1, Lower, Upper, Decode, Encode, PushBack, PopBack, Front, Back, Get, GetOr}
use Rattle.sp_types.specs.declared.words.Word.TheVariants as word_is
use Rattle.sp_types.specs.declared.words.Maker.TheVariants as maker_is
use Rattle.sp_types.specs.Types.{Ty, word, made, same}
use Rattle.sp_typed.specs.declared.words.LeafOp.{LeafOp}
use Rattle.sp_typed.specs.declared.words.LeafOp.TheVariants as leaf_is
use Rattle.sp_typed.specs.declared.words.OneOp.{OneOp}
use Rattle.sp_typed.specs.declared.words.OneOp.TheVariants as one_is
use Rattle.sp_typed.specs.declared.words.TwoOp.{TwoOp}
use Rattle.sp_typed.specs.declared.words.TwoOp.TheVariants as two_is
use Rattle.sp_typed.specs.declared.words.ManyOp.{ManyOp}
use Rattle.sp_typed.specs.declared.words.ManyOp.TheVariants as many_is
use Rattle.sp_typed.specs.declared.words.UnitMethod.TheVariants as unit_method
use Rattle.sp_typed.specs.Exprs.{Expr, Exprs, leaf, one, two, three, many, none, more, type_of}
use Rattle.sp_typed_units.specs.declared.declarations.Constant.{Constant}
use Rattle.sp_typed_units.specs.declared.declarations.ConstantValue.{ConstantValue}
use Rattle.sp_typed_units.specs.declared.declarations.ConstantValue.TheVariants as constant_is
use Rattle.sp_typed_units.specs.declared.declarations.Function.{Function}
use Rattle.sp_typed_units.specs.declared.declarations.Member.{Member}
use Rattle.sp_typed_units.specs.declared.declarations.Parameter.{Parameter}
use Rattle.sp_typed_units.specs.declared.declarations.Unit.{Unit as TypedUnit}
use Rattle.sp_meaning_states.specs.Types.{ranges_of}
use Rattle.sp_meaning.specs.Globals.{range_counts}
use Rattle.sp_code_meaning.specs.Exprs.{offset_local, slot_local}
use Rattle.sp_meaning.specs.Operations.{is_self}
use Rattle.sp_lower_expr.specs.declared.rows.Row.{Row}
use Rattle.sp_lower_expr.specs.declared.rows.Row.TheVariants as row_is
use Rattle.sp_lower_expr.specs.Many.{row_of}
use Rattle.sp_lower_expr.specs.Literals.{negative_number}
use Rattle.sp_law_lists.specs.fit_expr.Around.{Around}
use Rattle.sp_law_lists.specs.fit_expr.Sorts.{Sort, Void, Bools, Unsigned, Signed, Bytes, Text, Enums, Units, sort_of, same_sort, takes, is_sized, is_integer, casts}
use Rattle.sp_law_lists.specs.fit_expr.Lists.{is_none, is_type, part_is, are_two, members_are, arguments_are, all_are, are_in_turn, sorts_are}

-- a number, with a minus sign or without, is one of an integer type
abbrev pub number_is : Ty → Bool → ℕ → Bool
number_is (word (word_is.Uint w)) minus n = nat_lt n (2 ^ width_bits w)
number_is (word (word_is.Int w)) minus n = fits_signed w (if minus then neg_ℤ (pos n) else pos n)
number_is t minus n = false

abbrev pub is_sort : Ty → Sort → Bool
is_sort t s = same_sort (sort_of t) s

-- the type of this enum
abbrev pub is_enum : ℕ → Ty → Bool
is_enum k (word (word_is.Enum j)) = k == j
is_enum k t = false

-- the type of this unit, where it is known
abbrev pub is_unit : Option ℕ → Ty → Bool
is_unit (Some u) (word (word_is.Unit v)) = u == v
is_unit o t = false

abbrev pub has_value : ConstantValue → Bool
has_value (constant_is.Value v) = true
has_value c = false

-- a constant that has a value, and is of a type
abbrev pub constant_is_of : Option Constant → Ty → Bool
constant_is_of (Some x) t = has_value x.value && same x.ty t
constant_is_of None t = false

abbrev pub member_type : Option Member → Option Ty
member_type (Some y) = Some y.ty
member_type None = None

abbrev pub parameter_type : Option Parameter → Option Ty
parameter_type (Some y) = Some y.ty
parameter_type None = None

abbrev pub member_is : Option TypedUnit → ℕ → Ty → Bool
member_is (Some x) m t = is_type (member_type (slice_get x.members m)) t
member_is None m t = false

abbrev pub parameter_is : Option TypedUnit → ℕ → Ty → Bool
parameter_is (Some x) n t = is_type (parameter_type (slice_get x.parameters n)) t
parameter_is None n t = false

-- a value at a key of a container is of a type
abbrev pub item_is : Ty → Ty → Ty → Bool
item_is (made maker_is.Vector ts) key t = is_sort key Unsigned && part_is ts 0 t
item_is (made maker_is.Map ts) key t = part_is ts 0 key && part_is ts 1 t
item_is c key t = false

-- so is a member of a tuple
abbrev pub tuple_has : Ty → ℕ → Ty → Bool
tuple_has (made maker_is.Tuple ts) n t = part_is ts n t
tuple_has c n t = false

abbrev pub vector_of : Ty → Ty → Bool
vector_of (made maker_is.Vector ts) t = part_is ts 0 t
vector_of c t = false

-- the value of a map at a key
abbrev pub map_of : Ty → Ty → Ty → Bool
map_of (made maker_is.Map ts) key t = part_is ts 0 key && part_is ts 1 t
map_of c key t = false

-- a type of these parts
abbrev pub tuple_of : Ty → Exprs → Bool
tuple_of (made maker_is.Tuple ts) es = members_are ts es
tuple_of t es = false

abbrev pub vector_with : Ty → Exprs → Bool
vector_with (made maker_is.Vector ts) es = all_are ts es
vector_with t es = false

abbrev pub set_with : Ty → Exprs → Bool
set_with (made maker_is.Set ts) es = all_are ts es
set_with t es = false

abbrev pub map_with : Ty → Exprs → Bool
map_with (made maker_is.Map ts) es = are_in_turn ts 0 1 es
map_with t es = false

abbrev pub pair_of_bytes : Ty → Bool
pair_of_bytes (made maker_is.Tuple ts) = are_two ts Bytes
pair_of_bytes t = false

-- a call of a function with arguments, of the type of its result
abbrev pub call_is : Option Function → Exprs → Ty → Bool
call_is (Some x) es t = arguments_are x.parameters es && same x.result t
call_is None es t = false

-- `E(n)`
abbrev pub converts : ℕ → Exprs → Ty → Bool
converts k (more e es) t = is_none es && is_integer (sort_of (type_of e)) && is_enum k t
converts k none t = false

-- the offset of a unit
abbrev pub offset_is : Exprs → Ty → Bool
offset_is (more e es) t = is_none es && is_sort (type_of e) Units && is_sort t Unsigned
offset_is none t = false

-- the sorts of what a method takes, its receiver first, where it asks for no more than sorts
abbrev pub wanted : Method → List Sort
wanted ToUint = Bytes ∷ Unsigned ∷ []
wanted ToInt = Bytes ∷ Unsigned ∷ []
wanted ToUintOrder = Bytes ∷ Enums ∷ []
wanted ToIntOrder = Bytes ∷ Enums ∷ []
wanted Sub = Bytes ∷ Unsigned ∷ Unsigned ∷ []
wanted StartsWith = Bytes ∷ Bytes ∷ []
wanted Split = Bytes ∷ Bytes ∷ []
wanted Split1 = Bytes ∷ Bytes ∷ []
wanted Lower = Bytes ∷ []
wanted Upper = Bytes ∷ []
wanted Decode = Bytes ∷ Enums ∷ Enums ∷ []
wanted Encode = Text ∷ []
wanted m = []

-- a vector of bytes
abbrev pub vector_of_bytes : Ty → Bool
vector_of_bytes t = vector_of t (word word_is.Bytes)

-- the type of what such a method gives
abbrev pub gives : Method → Ty → Bool
gives ToUint t = is_sort t Unsigned
gives ToInt t = is_sort t Signed
gives ToUintOrder t = is_sort t Unsigned
gives ToIntOrder t = is_sort t Signed
gives Sub t = is_sort t Bytes
gives StartsWith t = is_sort t Bools
gives Split t = vector_of_bytes t
gives Split1 t = pair_of_bytes t
gives Lower t = is_sort t Bytes
gives Upper t = is_sort t Bytes
gives Decode t = is_sort t Text
gives Encode t = is_sort t Bytes
gives m t = false

abbrev pub simple_is : Method → Exprs → Ty → Bool
simple_is m es t = sorts_are (wanted m) es && gives m t

-- an element of a vector
abbrev pub element_is : Exprs → Ty → Bool
element_is (more v es) t = is_none es && vector_of (type_of v) t
element_is none t = false

-- the value of a key of a map, where the key is what is left
abbrev pub value_at : Ty → Exprs → Ty → Bool
value_at c (more k es) t = is_none es && map_of c (type_of k) t
value_at c none t = false

abbrev pub value_is : Exprs → Ty → Bool
value_is (more m es) t = value_at (type_of m) es t
value_is none t = false

-- that, or another value of its type, where this is what is left, or also the key
abbrev pub value_or : Ty → Ty → Exprs → Ty → Bool
value_or c key (more d es) t = is_none es && map_of c key (type_of d) && map_of c key t
value_or c key none t = false

abbrev pub value_or_at : Ty → Exprs → Ty → Bool
value_or_at c (more k es) t = value_or c (type_of k) es t
value_or_at c none t = false

abbrev pub value_or_is : Exprs → Ty → Bool
value_or_is (more m es) t = value_or_at (type_of m) es t
value_or_is none t = false

-- a call of a method that changes nothing, on these parts, and with a result of this type
abbrev pub method_is : Method → Exprs → Ty → Bool
method_is PushBack es t = false
method_is PopBack es t = false
method_is Front es t = element_is es t
method_is Back es t = element_is es t
method_is Get es t = value_is es t
method_is GetOr es t = value_or_is es t
method_is m es t = simple_is m es t

-- an element that is put at the end of a vector, and one that is taken from there
abbrev pub pushes : Ty → Exprs → Ty → Bool
pushes r (more e es) t = is_none es && vector_of r (type_of e) && is_sort t Void
pushes r none t = false

abbrev pub pops : Ty → Exprs → Ty → Bool
pops r es t = is_none es && vector_of r t

-- a call of a method that changes its receiver
abbrev pub change_is : Method → Ty → Exprs → Ty → Bool
change_is PushBack r es t = pushes r es t
change_is PopBack r es t = pops r es t
change_is m r es t = false

-- an operator takes one operand of a sort, and gives one
abbrev pub both_are : Ty → Ty → Sort → Bool
both_are a t s = is_sort a s && is_sort t s

-- what is made of two parts that both pass
abbrev pub two_is_of : TwoOp → Ty → Ty → Ty → Bool
two_is_of (two_is.Binary o) a b t = takes o (sort_of a) (sort_of b) (sort_of t)
two_is_of two_is.Index a b t = item_is a b t
two_is_of (two_is.Item n) a b t = tuple_has a n t

-- of three
abbrev pub three_is : Ty → Ty → Ty → Ty → Bool
three_is c a b t = is_sort c Bools && same a t && same b t

abbrev pub is_index : TwoOp → Bool
is_index two_is.Index = true
is_index op = false

-- in what stands round an expression
module _ (around : Around) where
  -- a local is of a type
  abbrev pub local_is : ℕ → Ty → Bool
  local_is l t = is_type (slice_get around.locals l) t

  abbrev pub unit_parameter : Option ℕ → ℕ → Ty → Bool
  unit_parameter (Some u) n t = parameter_is (slice_get around.list.units u) n t
  unit_parameter None n t = false

  -- a parameter of the body, or of the unit behind these
  abbrev pub seen_parameter : ℕ → Ty → Bool
  seen_parameter n t = if nat_lt n around.places.own then local_is n t else unit_parameter around.unit (n - around.places.own) t

  -- a leaf of a type
  abbrev pub leaf_is_of : LeafOp → Ty → Bool
  leaf_is_of leaf_is.True t = is_sort t Bools
  leaf_is_of leaf_is.False t = is_sort t Bools
  leaf_is_of (leaf_is.Number n) t = number_is t false n
  leaf_is_of (leaf_is.TypedNumber n) t = number_is t false n
  leaf_is_of (leaf_is.Text x) t = is_sort t Text
  leaf_is_of (leaf_is.Bytes b) t = is_sort t Bytes
  leaf_is_of (leaf_is.Empty w) t = true
  leaf_is_of (leaf_is.Itself s) t = is_unit around.unit t
  leaf_is_of (leaf_is.Current s) t = is_some around.places.offset && local_is around.places.current t
  leaf_is_of (leaf_is.Local l) t = local_is (around.places.first + l) t
  leaf_is_of (leaf_is.Parameter n s) t = seen_parameter n t
  leaf_is_of (leaf_is.Constant c) t = constant_is_of (slice_get around.list.constants c) t
  leaf_is_of (leaf_is.Label k l) t = is_enum k t
  leaf_is_of op t = false

  -- a member of a unit
  abbrev pub has_member : Ty → ℕ → Ty → Bool
  has_member (word (word_is.Unit u)) m t = member_is (slice_get around.list.units u) m t
  has_member a m t = false

  -- a range of a bitfield
  abbrev pub has_range : Ty → ℕ → Bool
  has_range (word (word_is.Bitfield k)) r = nat_lt r (ranges_of (range_counts around.list.bitfields) k)
  has_range a r = false

  -- what is made of one part that passes
  abbrev pub one_is_of : OneOp → Ty → Ty → Bool
  one_is_of one_is.Negate a t = both_are a t Signed
  one_is_of one_is.Not a t = both_are a t Bools
  one_is_of one_is.Complement a t = both_are a t Unsigned
  one_is_of one_is.Size a t = is_sized (sort_of a) && is_sort t Unsigned
  one_is_of (one_is.Cast w) a t = casts (sort_of a) t
  one_is_of one_is.Widen a t = casts (sort_of a) t
  one_is_of (one_is.Field m) a t = has_member a m t
  one_is_of (one_is.Variable m) a t = has_member a m t
  one_is_of (one_is.Bit r) a t = has_range a r && casts Unsigned t
  one_is_of (one_is.IsSet m) a t = is_sort a Units && is_sort t Bools
  one_is_of op a t = false

  -- a member of a unit that is a place
  abbrev pub member_place : OneOp → Ty → Ty → Bool
  member_place (one_is.Field m) a t = has_member a m t
  member_place (one_is.Variable m) a t = has_member a m t
  member_place op a t = false

  abbrev pub local_place : LeafOp → Ty → Bool
  local_place (leaf_is.Local l) t = local_is (around.places.first + l) t
  local_place op t = false

  -- the owner of a member is kept in a local of its type
  abbrev pub owner_is : Option ℕ → Ty → Bool
  owner_is (Some l) a = local_is l a
  owner_is None a = true

  -- a literal with a minus sign is tested as a whole
  abbrev pub one_or_literal : Option ℕ → Ty → Bool → Bool
  one_or_literal (Some n) t passes = number_is t true n
  one_or_literal None t passes = passes

  -- what is made of any number of parts that all pass
  abbrev pub many_is_of : ManyOp → Exprs → Ty → Bool
  many_is_of many_is.Tuple es t = tuple_of t es
  many_is_of many_is.Vector es t = vector_with t es
  many_is_of many_is.Set es t = set_with t es
  many_is_of many_is.Map es t = map_with t es
  many_is_of (many_is.Call f) es t = call_is (slice_get around.list.functions f) es t
  many_is_of (many_is.Convert k) es t = converts k es t
  many_is_of (many_is.Method m slot) es t = method_is m es t
  many_is_of (many_is.OfUnit unit_method.Offset at) es t = offset_is es t
  many_is_of op es t = false

  -- a node by what is done with its parts
  abbrev pub row_is_of : Row → (kept : ℕ → Bool) → (change : Method → Option ℕ → Bool) → (values : Bool) → Bool
  row_is_of (row_is.Kept l) kept change values = kept l
  row_is_of (row_is.Changes m slot) kept change values = change m slot
  row_is_of row_is.Values kept change values = values

  abbrev mutual
    -- an expression passes
    pub expr_passes : Expr → Bool
    expr_passes (leaf h) = leaf_is_of h.op h.ty
    expr_passes (one h a) = one_or_literal (negative_number h a) h.ty (expr_passes a && one_is_of h.op (type_of a) h.ty)
    expr_passes (two h a b) = expr_passes a && expr_passes b && two_is_of h.op (type_of a) (type_of b) h.ty
    expr_passes (three h c a b) = expr_passes c && expr_passes a && expr_passes b && three_is (type_of c) (type_of a) (type_of b) h.ty
    expr_passes (many h es) =
        row_is_of (row_of h.op (offset_local around.places (is_self es))) (λ l. exprs_pass es && local_is l h.ty) (λ m slot. change_passes m slot h.ty es) (exprs_pass es && many_is_of h.op es h.ty)

    -- each of several does
    pub exprs_pass : Exprs → Bool
    exprs_pass none = true
    exprs_pass (more e es) = expr_passes e && exprs_pass es

    -- the call of a method that changes its receiver
    pub change_passes : Method → Option ℕ → Ty → Exprs → Bool
    change_passes m slot t none = false
    change_passes m slot t (more r es) = place_passes (slot_local around.places slot) r && exprs_pass es && change_is m (type_of r) es t

    -- a place passes, by the local in which the owner of its member is kept
    pub place_passes : Option ℕ → Expr → Bool
    place_passes owner (leaf h) = local_place h.op h.ty
    place_passes owner (one h a) = expr_passes a && owner_is owner (type_of a) && member_place h.op (type_of a) h.ty
    place_passes owner (two h a b) = place_passes owner a && expr_passes b && is_index h.op && item_is (type_of a) (type_of b) h.ty
    place_passes owner e = false
