-- What stands round the code of an expression keeps what is named round its text: locals, parameters and constants.
use Rattle.std.specs.Prelude.{ℕ, ◌≡◌, ◌+◌, Bool, true, List, Option, Some, None, slice_get, IsTrue}
use Rattle.std.specs.List.{list_all}
use Rattle.sp_ast.specs.Trees.{Tree}
use Rattle.sp_types.specs.Types.{Ty}
use Rattle.sp_typed.specs.declared.words.LeafOp.TheVariants as leaf_is
use Rattle.sp_typed_units.specs.declared.declarations.Parameter.{Parameter}
use Rattle.sp_names.specs.declared.sort.DeclSort.TheVariants as sort_is
use Rattle.sp_names.specs.Declarations.{sort_at, number_at}
use Rattle.sp_type_methods.specs.Methods.{number}
use Rattle.sp_type_stmts.specs.Scopes.{Local}
use Rattle.sp_law_lists.specs.fit_expr.Around.{Around}
use Rattle.sp_law_lists.specs.fit_expr.Test.{local_is, seen_parameter}
use Rattle.sp_law_lists.specs.known_kinds.Made.{leaf_made}

module _ (around : Around) where
  -- a local of the text has a slot of its type
  abbrev pub is_kept : Local → Bool
  is_kept l = local_is around (around.places.first + l.slot) l.ty

  abbrev pub LocalsKept : List Local → Type 0
  LocalsKept ls = IsTrue (list_all is_kept ls)

  -- so has each parameter of a row of which the first has a number
  abbrev pub ParametersKept : ℕ → List Parameter → Type 0
  ParametersKept first ps = (n : ℕ) (p : Parameter) → slice_get ps n ≡ Some p → IsTrue (seen_parameter around (first + n) p.ty)

  -- a declared constant is of the type that its paths have, unless it is a regular expression
  abbrev pub ConstantsKept : List Tree → (ℕ → Ty) → Type 0
  ConstantsKept list constant =
      (g : ℕ) → sort_at list g ≡ sort_is.Constant → IsTrue (leaf_made around (leaf_is.Constant (number_at list g)) (constant (number_at list g)))

  -- the local in which the offset of the field at hand stands, where one does
  abbrev pub offset_kept : Option ℕ → Bool
  offset_kept (Some l) = local_is around l number
  offset_kept None = true

  abbrev pub OffsetKept : Type 0
  OffsetKept = IsTrue (offset_kept around.places.offset)

  -- the slots of a body are its locals from a number on
  abbrev pub SlotsKept : List Ty → Type 0
  SlotsKept slots = (n : ℕ) (t : Ty) → slice_get slots n ≡ Some t → IsTrue (local_is around (around.places.first + n) t)
