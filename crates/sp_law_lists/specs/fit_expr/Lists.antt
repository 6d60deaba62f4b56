-- Types by their places, and types of what stands in a row.
use Rattle.std.specs.Prelude.{ℕ, zero, suc, ◌==◌, Bool, true, false, ◌&&◌, List, [], ◌∷◌, Option, Some, None}
use Rattle.sp_types.specs.Types.{Ty, Tys, same}
use Rattle.sp_types.specs.Types as types
use Rattle.sp_typed.specs.Exprs.{Exprs, none, more, type_of}
use Rattle.sp_typed_units.specs.declared.declarations.Parameter.{Parameter}
use Rattle.sp_law_lists.specs.fit_expr.Sorts.{Sort, sort_of, same_sort}

-- no expression is left
abbrev pub is_none : Exprs → Bool
is_none none = true
is_none (more e es) = false

-- a type that is there, and is this one
abbrev pub is_type : Option Ty → Ty → Bool
is_type (Some u) t = same u t
is_type None t = false

-- the part of a type at a place is this type
abbrev pub part_is : Tys → ℕ → Ty → Bool
part_is types.none n t = false
part_is (types.more u us) zero t = same u t
part_is (types.more u us) (suc n) t = part_is us n t

-- there are two parts, both of one sort
abbrev pub are_two : Tys → Sort → Bool
are_two (types.more a (types.more b types.none)) s = same_sort (sort_of a) s && same_sort (sort_of b) s
are_two ts s = false

-- each expression is of the type at its place, and there are as many
abbrev pub members_are : Tys → Exprs → Bool
members_are types.none none = true
members_are (types.more t ts) (more e es) = same t (type_of e) && members_are ts es
members_are ts es = false

-- arguments are of the types of the parameters, and there are as many
abbrev pub arguments_are : List Parameter → Exprs → Bool
arguments_are [] none = true
arguments_are (x ∷ xs) (more e es) = same x.ty (type_of e) && arguments_are xs es
arguments_are xs es = false

-- each expression is of the first of these types
abbrev pub all_are : Tys → Exprs → Bool
all_are ts none = true
all_are ts (more e es) = part_is ts 0 (type_of e) && all_are ts es

-- Expressions are of two of these types in turn: the one at the first place is next, and the row ends before the one at 0.
abbrev pub are_in_turn : Tys → ℕ → ℕ → Exprs → Bool
are_in_turn ts m n none = m == 0
are_in_turn ts m n (more e es) = part_is ts m (type_of e) && are_in_turn ts n m es

-- each expression is of the sort at its place, and there are as many
abbrev pub sorts_are : List Sort → Exprs → Bool
sorts_are [] none = true
sorts_are (s ∷ ss) (more e es) = same_sort (sort_of (type_of e)) s && sorts_are ss es
sorts_are ss es = false
