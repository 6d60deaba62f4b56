-- Answers of constants and labels that are of full types, and which their values fit; and trees in which all that is named has such
-- an answer.
use Rattle.std.specs.Prelude.{ℕ, Bool, true, false, ◌&&◌, List, Option, Some, None}
use Rattle.std.specs.List.{list_all}
use Rattle.sp_ast.specs.Trees.{Tree}
use Rattle.sp_types.specs.Types.{Ty}
use Rattle.sp_typed.specs.declared.words.OneOp.{OneOp}
use Rattle.sp_typed.specs.declared.words.OneOp.TheVariants as one_is
use Rattle.sp_type_values.specs.declared.answer.Answer.{Answer}
use Rattle.sp_type_values.specs.Valued.{needs_in}
use Rattle.sp_law_lists.specs.known_types.Full.{is_full}
use Rattle.sp_law_lists.specs.known_values.Values.{fits}

-- what may be done to one value where the whole is constant: no member is taken of it
abbrev pub constant_op : OneOp → Bool
constant_op one_is.Negate = true
constant_op one_is.Not = true
constant_op one_is.Complement = true
constant_op one_is.Size = true
constant_op (one_is.Cast w) = true
constant_op one_is.Widen = true
constant_op _ = false

-- an answer of a full type, which its value fits
abbrev pub is_good : Answer → Bool
is_good a = is_full a.ty && fits a.ty a.value

abbrev pub is_answered : Option Answer → Bool
is_answered None = false
is_answered (Some a) = is_good a

-- whether all of some numbers have such answers
abbrev pub are_answered : (ℕ → Option Answer) → List ℕ → Bool
are_answered known js = list_all (λ j. is_answered (known j)) js

-- a tree in which all that it names has such an answer
abbrev pub is_told : List Tree → (ℕ → Option Ty) → (ℕ → Option Answer) → ℕ → Tree → Bool
is_told list f known m t = are_answered known (needs_in list f m t)
