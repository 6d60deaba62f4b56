-- Types of which all parts are known and may stand where they do, nodes of such types, and what has no value and stands where a node
-- or a statement takes it.
use Rattle.std.specs.Prelude.{Bool, true, false, not, ◌&&◌}
use Rattle.sp_types.specs.declared.words.Word.TheVariants as word_is
use Rattle.sp_types.specs.declared.words.Maker.{Maker}
use Rattle.sp_types.specs.declared.words.Maker.TheVariants as maker_is
use Rattle.sp_types.specs.Types.{Ty, Tys, word, made, is_known_word, is_key}
use Rattle.sp_types.specs.Types as types
use Rattle.sp_typed.specs.Exprs.{Expr, leaf, one, two, three, many, type_of}
use Rattle.sp_typed.specs.Nodes.{is_word, holds, all_hold}
use Rattle.sp_type_operands.specs.Operands.{is_valueless}
use Rattle.sp_rule_bodies.specs.Values.{names_no_value, is_set_key}

-- Types of values: of what is kept in a tuple, a vector or a map. A unit and an iterator are values; void, a regular expression, a
-- sink, and what a `connect` starts are none.
abbrev pub has_value : Ty → Bool
has_value t = not (is_valueless t)

abbrev pub have_values : Tys → Bool
have_values types.none = true
have_values (types.more t ts) = has_value t && have_values ts

-- Whether what is made of types has as many as it takes, a vector and a set one and a map two, and each is one that may stand in it:
-- elements of sets and keys of maps are of types of keys, and all else of types of values.
abbrev pub has_parts : Maker → Tys → Bool
has_parts maker_is.Tuple ts = have_values ts
has_parts maker_is.Vector (types.more t types.none) = has_value t
has_parts maker_is.Set (types.more t types.none) = is_key t
has_parts maker_is.Map (types.more k (types.more v types.none)) = is_key k && has_value v
has_parts _ ts = false

-- a type in which nothing is unknown, nothing is left out, and each part may stand where it does
abbrev mutual
  pub is_full : Ty → Bool
  is_full (word w) = is_known_word w
  is_full (made m ts) = has_parts m ts && are_full ts

  pub are_full : Tys → Bool
  are_full types.none = true
  are_full (types.more t ts) = is_full t && are_full ts

-- a node that is no word, and is of such a type
abbrev pub is_right : Expr → Bool
is_right e = not (is_word e) && is_full (type_of e)

abbrev pub is_unknown : Ty → Bool
is_unknown (word word_is.Unknown) = true
is_unknown _ = false

-- The name of a function, a type, a module or the decoder, and the key of a set: they have no type, and stand as a whole
-- expression alone.
abbrev pub is_bare : Expr → Bool
is_bare (leaf h) = names_no_value h.op && is_unknown h.ty
is_bare (two h a b) = is_set_key h.op (type_of a) && is_unknown h.ty
is_bare _ = false

-- whether a test holds at each node but the first one
abbrev pub holds_inside : (Expr → Bool) → Expr → Bool
holds_inside p (leaf h) = true
holds_inside p (one h a) = holds p a
holds_inside p (two h a b) = holds p a && holds p b
holds_inside p (three h a b c) = holds p a && (holds p b && holds p c)
holds_inside p (many h es) = all_hold p es
