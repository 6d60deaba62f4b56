-- What makes a row and a tuple whole, and of what type they are then. What is not whole has no type: what is wrong with its parts
-- is refused where these stand, and nothing is asked of the row or the tuple.
use Rattle.std.specs.Prelude.{Bool, true, false, not, ◌&&◌, ◌||◌, if◌then◌else◌, List, [], ◌∷◌}
use Rattle.sp_types.specs.declared.words.Maker.{Maker}
use Rattle.sp_types.specs.declared.words.Maker.TheVariants as maker_is
use Rattle.sp_types.specs.Types.{Ty, made, none, more, tys, same, is_known, is_key}
use Rattle.sp_typed.specs.Exprs.{Expr, type_of}
use Rattle.sp_type_operands.specs.Operands.{unknown, is_valueless}
use Rattle.sp_type_operands.specs.Literals.{is_past, seen}

-- Types that parts may have: nothing in them is unknown, and they are types of values; in sets, and before the colons of
-- maps, they are types of keys.
abbrev pub may_hold : Bool → Ty → Bool
may_hold keyed t = is_known t && (not (is_valueless t) && (not keyed || is_key t))

-- A tuple is whole where each of its parts has such a type.
abbrev pub are_parts : List Ty → Bool
are_parts [] = true
are_parts (t ∷ ts) = may_hold false t && are_parts ts

abbrev pub tuple_type : List Ty → Ty
tuple_type ts = if are_parts ts then made maker_is.Tuple (tys ts) else unknown

-- whether an element has a type, and is no literal past it
abbrev pub is_of : Ty → Expr → Bool
is_of t e = same t (type_of e) && not (is_past e)

-- Elements are whole where the first of them has a type that they may have, and all have that type.
abbrev pub all_of : Ty → List Expr → Bool
all_of t [] = true
all_of t (e ∷ es) = is_of t e && all_of t es

abbrev pub first_seen : List Expr → Ty
first_seen [] = unknown
first_seen (e ∷ es) = seen e

abbrev pub has_keys_alone : Maker → Bool
has_keys_alone maker_is.Set = true
has_keys_alone _ = false

abbrev pub row_type : Maker → List Expr → Ty
row_type maker es =
    if may_hold (has_keys_alone maker) (first_seen es) && all_of (first_seen es) es then made maker (more (first_seen es) none) else unknown

-- keys and values in turn: the keys are whole, and so are the values
abbrev pub all_in_turn : Bool → Ty → Ty → List Expr → Bool
all_in_turn keyed key value [] = true
all_in_turn keyed key value (e ∷ es) = is_of (if keyed then key else value) e && all_in_turn (not keyed) key value es

abbrev pub second_seen : List Expr → Ty
second_seen [] = unknown
second_seen (e ∷ es) = first_seen es

abbrev pub are_entries : Ty → Ty → List Expr → Bool
are_entries key value es = may_hold true key && (may_hold false value && all_in_turn true key value es)

abbrev pub map_type : List Expr → Ty
map_type es =
    if are_entries (first_seen es) (second_seen es) es then made maker_is.Map (more (first_seen es) (more (second_seen es) none)) else unknown
