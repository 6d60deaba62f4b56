-- What is asked of the declarations of a list so that all that its expressions can name is known.
use Rattle.std.specs.Prelude.{ℕ, ◌≡◌, Bool, List, Option, Some, IsTrue, is_some, is_none}
use Rattle.sp_ast.specs.Trees.{Tree}
use Rattle.sp_types.specs.Types.{Ty}
use Rattle.sp_typed.specs.declared.words.OneOp.{OneOp}
use Rattle.sp_type_context.specs.declared.context.Member.{Member}
use Rattle.sp_names.specs.declared.rows.Declaration.{Declaration}
use Rattle.sp_names.specs.declared.sort.DeclSort.TheVariants as sort_is
use Rattle.sp_names.specs.Declarations.{sort_at, number_at, type_tree_of}
use Rattle.sp_names.specs.Types.{or_unknown}
use Rattle.sp_type_context.specs.declared.places.Place.TheVariants as place_is
use Rattle.sp_type_modules.specs.Heads.{function_gives}
use Rattle.sp_type_modules.specs.Written.{is_type_sort, misplaced_in}
use Rattle.sp_type_modules.specs.Arounds.{Facts, member_of}
use Rattle.sp_law_lists.specs.known_types.Full.{is_full}
use Rattle.sp_law_lists.specs.whole_list.Types.{is_type}

-- an alias that has an answer, so that it isn't made of itself, and is written as a type may be
abbrev pub Stands : List Tree → (ℕ → Option Ty) → ℕ → Declaration → Type 0
Stands list f g d =
    IsTrue (is_some (f g)) × IsTrue (is_type list f d.«module» (type_tree_of d.tree)) × IsTrue (is_none (misplaced_in list f d.«module» place_is.Whole (type_tree_of d.tree)))

-- a declaration, if it is one of a type, has a full one
abbrev pub HasType : List Tree → (ℕ → Option Ty) → ℕ → Type 0
HasType list f g = IsTrue (is_type_sort (sort_at list g)) → IsTrue (is_full (or_unknown (f g)))

-- Declarations have full types: those of types, and constants; what functions give; and the members that may be taken.
pub record AreKnown (list : List Tree) (facts : Facts) (only : OneOp → Bool) : Type 0 where
  pub types : (g : ℕ) → HasType list facts.answers g
  pub constants : (g : ℕ) → sort_at list g ≡ sort_is.Constant → IsTrue (is_full (facts.constant (number_at list g)))
  pub results : (g : ℕ) → sort_at list g ≡ sort_is.Function → IsTrue (is_full (function_gives list facts.answers (number_at list g)))
  pub members : (t : Ty) (name : List ℕ) (found : Member) → member_of list facts.stored t name ≡ Some found → IsTrue (only found.op) → IsTrue (is_full found.ty)
