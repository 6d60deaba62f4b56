-- What a constant of a type may be. Widths are left open: they are asked by nothing that takes a value apart.
use Rattle.std.specs.Prelude.{◌==◌, Bool, true, false, ◌&&◌}
use Rattle.sp_value.specs.Val.{Val, Vals, Entries, bool, uint, int, bytes, str, enum, tuple, vector, set, map, no_vals, val, no_entries, entry}
use Rattle.sp_types.specs.declared.words.Word.TheVariants as word_is
use Rattle.sp_types.specs.declared.words.Maker.TheVariants as maker_is
use Rattle.sp_types.specs.Types.{Ty, Tys, word, made}
use Rattle.sp_types.specs.Types as types
use Rattle.sp_type_operands.specs.Operands.{first_type, second_type}
use Rattle.sp_type_constants.specs.declared.outcome.Outcome.{Outcome}
use Rattle.sp_type_constants.specs.declared.outcome.Outcome.TheVariants as outcome_is

abbrev mutual
  pub is_of : Ty → Val → Bool
  is_of (word word_is.Bool) (bool b) = true
  is_of (word (word_is.Uint x)) (uint w n) = true
  is_of (word (word_is.Int x)) (int w n) = true
  is_of (word word_is.Bytes) (bytes b) = true
  is_of (word word_is.String) (str b) = true
  is_of (word (word_is.Enum x)) (enum k n) = k == x
  is_of (made maker_is.Tuple ts) (tuple vs) = are_of ts vs
  is_of (made maker_is.Vector ts) (vector vs) = all_of (first_type ts) vs
  is_of (made maker_is.Set ts) (set vs) = all_of (first_type ts) vs
  is_of (made maker_is.Map ts) (map es) = all_in (first_type ts) (second_type ts) es
  is_of _ _ = false

  -- members of a tuple
  pub are_of : Tys → Vals → Bool
  are_of types.none no_vals = true
  are_of (types.more t ts) (val v vs) = is_of t v && are_of ts vs
  are_of _ _ = false

  -- items of a vector
  pub all_of : Ty → Vals → Bool
  all_of t no_vals = true
  all_of t (val v vs) = is_of t v && all_of t vs

  -- keys and values of a map
  pub all_in : Ty → Ty → Entries → Bool
  all_in s t no_entries = true
  all_in s t (entry k v es) = is_of s k && (is_of t v && all_in s t es)

abbrev pub is_regex : Ty → Bool
is_regex (word word_is.Regex) = true
is_regex _ = false

-- what an expression of a type may be as a constant, where no rule is broken in it
abbrev pub fits : Ty → Outcome → Bool
fits t (outcome_is.Value v) = is_of t v
fits t (outcome_is.Regex text) = is_regex t
fits t outcome_is.NotConstant = true
fits t outcome_is.Error = true
fits t outcome_is.Unknown = false
