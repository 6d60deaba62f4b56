-- What is wrong with a type that is written: a name in it that names nothing, and a type that can't stand where it does.
use Rattle.std.specs.Prelude.{ℕ, Bool, true, false, List, Option, Some, None}
use Rattle.std.proofs.Common.{get_or}
use Rattle.sp_base.specs.declared.places.Span.{Span}
use Rattle.sp_ast.specs.Trees.{Tree, Trees, absent, node, none, more, span_of}
use Rattle.sp_ast.specs.declared.forms.Form.TheVariants as form_is
use Rattle.sp_ast.specs.declared.forms.TypeForm.TheVariants as type_is
use Rattle.sp_types.specs.Types.{Ty}
use Rattle.sp_typed.specs.declared.words.Written.{Written}
use Rattle.sp_type_context.specs.declared.places.Place.{Place}
use Rattle.sp_type_context.specs.declared.places.Place.TheVariants as place_is
use Rattle.sp_type_context.specs.Places.{suits, standing}
use Rattle.sp_type_context.specs.Typing.{or_else}
use Rattle.sp_names.specs.declared.sort.DeclSort.{DeclSort}
use Rattle.sp_names.specs.declared.sort.DeclSort.TheVariants as sort_is
use Rattle.sp_names.specs.declared.sort.Meaning.{Meaning}
use Rattle.sp_names.specs.declared.sort.Meaning.TheVariants as meaning_is
use Rattle.sp_names.specs.Declarations.{sort_at}
use Rattle.sp_names.specs.Names.{path_means}
use Rattle.sp_names.specs.Types.{type_in}
use Rattle.sp_names.specs.Faults.{path_parts}

-- the slice of the text of the name of a path that names nothing
abbrev pub name_span : Tree → ℕ → Span
name_span path k = span_of (get_or (path_parts path) k absent)

abbrev pub nothing_at : Tree → Meaning → Option Span
nothing_at path (meaning_is.Nothing k) = Some (name_span path k)
nothing_at path _ = None

-- The first name in a type that names nothing. The names inside a unit or an enum that is written here are its own.
abbrev mutual
  pub unnamed_in : List Tree → (ℕ → Option Ty) → ℕ → Tree → Option Span
  unnamed_in list f m (node (form_is.Type type_is.Path) span (more path ts)) = nothing_at path (path_means list f m path)
  unnamed_in list f m (node (form_is.Type type_is.Tuple) span ts) = unnamed_among list f m ts
  unnamed_in list f m (node (form_is.Type type_is.Vector) span ts) = unnamed_among list f m ts
  unnamed_in list f m (node (form_is.Type type_is.Set) span ts) = unnamed_among list f m ts
  unnamed_in list f m (node (form_is.Type type_is.Map) span ts) = unnamed_among list f m ts
  unnamed_in list f m _ = None

  pub unnamed_among : List Tree → (ℕ → Option Ty) → ℕ → Trees → Option Span
  unnamed_among list f m none = None
  unnamed_among list f m (more t ts) = or_else (unnamed_in list f m t) (unnamed_among list f m ts)

-- whether a declaration is one of a type
abbrev pub is_type_sort : DeclSort → Bool
is_type_sort sort_is.Unit = true
is_type_sort sort_is.Enum = true
is_type_sort sort_is.Alias = true
is_type_sort _ = false

-- whether a path that means this may stand as a type; one that names nothing is refused for that
abbrev pub names_type : List Tree → Meaning → Bool
names_type list (meaning_is.Declaration g) = is_type_sort (sort_at list g)
names_type list (meaning_is.Label _ _) = false
names_type list _ = true

abbrev pub unless : Bool → Span → Option Span
unless true span = None
unless false span = Some span

-- The type of what is declared with a type that is written at a place.
abbrev pub type_at : List Tree → (ℕ → Option Ty) → ℕ → Place → Tree → Ty
type_at list f m place t = standing place (type_in list f m t)

-- what in a type can't stand where it does, or else the type itself, where it can't stand at its place
abbrev pub or_itself : List Tree → (ℕ → Option Ty) → ℕ → Place → Tree → Option Span → Option Span
or_itself list f m place t inside = or_else inside (unless (suits place (type_in list f m t)) (span_of t))

-- The first type in one that can't stand where it does, wherever that one stands itself. What no type is can stand nowhere, and
-- neither can a unit and an enum, which are written as the whole type of a declaration alone.
abbrev mutual
  pub misplaced_inside : List Tree → (ℕ → Option Ty) → ℕ → Tree → Option Span
  misplaced_inside list f m (node (form_is.Type type_is.Path) span (more path ts)) = unless (names_type list (path_means list f m path)) span
  misplaced_inside list f m (node (form_is.Type type_is.Tuple) span ts) = misplaced_among list f m ts
  misplaced_inside list f m (node (form_is.Type type_is.Vector) span (more t ts)) =
      or_itself list f m place_is.Value t (misplaced_inside list f m t)
  misplaced_inside list f m (node (form_is.Type type_is.Set) span (more t ts)) =
      or_itself list f m place_is.Key t (misplaced_inside list f m t)
  misplaced_inside list f m (node (form_is.Type type_is.Map) span (more k (more v ts))) =
      or_else (or_itself list f m place_is.Key k (misplaced_inside list f m k)) (or_itself list f m place_is.Value v (misplaced_inside list f m v))
  misplaced_inside list f m (node (form_is.Type type_is.Enum) span ts) = Some span
  misplaced_inside list f m (node (form_is.Type type_is.Unit) span ts) = Some span
  misplaced_inside list f m _ = None

  -- the members of a tuple
  pub misplaced_among : List Tree → (ℕ → Option Ty) → ℕ → Trees → Option Span
  misplaced_among list f m none = None
  misplaced_among list f m (more t ts) =
      or_else (or_itself list f m place_is.Value t (misplaced_inside list f m t)) (misplaced_among list f m ts)

-- the first type in one that can't stand where it does, where that one stands at a place
abbrev pub misplaced_in : List Tree → (ℕ → Option Ty) → ℕ → Place → Tree → Option Span
misplaced_in list f m place t = or_itself list f m place t (misplaced_inside list f m t)

-- a type as it is written at a place
abbrev pub written_in : List Tree → (ℕ → Option Ty) → ℕ → Place → Tree → Written
written_in list f m place t =
    record { span = span_of t; unnamed = unnamed_in list f m t; misplaced = misplaced_in list f m place t }
