-- Types as they are written in a module: each has its parts, each path in them names something, and each bitfield is one of the
-- module's.
use Rattle.std.specs.Prelude.{ℕ, Bool, true, false, ◌&&◌, List, Option, is_some}
use Rattle.sp_ast.specs.Trees.{Tree, Trees, node, none, more}
use Rattle.sp_ast.specs.declared.forms.Form.TheVariants as form_is
use Rattle.sp_ast.specs.declared.forms.TypeForm.TheVariants as type_is
use Rattle.sp_types.specs.Types.{Ty}
use Rattle.sp_names.specs.declared.sort.Meaning.{Meaning}
use Rattle.sp_names.specs.declared.sort.Meaning.TheVariants as meaning_is
use Rattle.sp_names.specs.Names.{path_means}
use Rattle.sp_names.specs.Types.{bitfield_number}

abbrev pub means_something : Meaning → Bool
means_something (meaning_is.Nothing k) = false
means_something _ = true

module _ (list : List Tree) (f : ℕ → Option Ty) (m : ℕ) where
  -- a type that is written in the module m, a line for each alternative
  abbrev mutual
    pub is_type : Tree → Bool
    is_type (node (form_is.Type type_is.Path) span (more path none)) = means_something (path_means list f m path)
    is_type (node (form_is.Type type_is.Bool) span none) = true
    is_type (node (form_is.Type type_is.Bytes) span none) = true
    is_type (node (form_is.Type type_is.String) span none) = true
    is_type (node (form_is.Type type_is.Void) span none) = true
    is_type (node (form_is.Type (type_is.Int w)) span none) = true
    is_type (node (form_is.Type type_is.Tuple) span ts) = are_types ts
    is_type (node (form_is.Type type_is.Vector) span (more t none)) = is_type t
    is_type (node (form_is.Type type_is.Set) span (more t none)) = is_type t
    is_type (node (form_is.Type type_is.Map) span (more k (more v none))) = is_type k && is_type v
    is_type (node (form_is.Type type_is.Bitfield) span ts) = is_some (bitfield_number list m span.from)
    is_type (node (form_is.Type type_is.Enum) span ts) = true
    is_type (node (form_is.Type type_is.Unit) span ts) = true
    is_type _ = false

    pub are_types : Trees → Bool
    are_types none = true
    are_types (more t ts) = is_type t && are_types ts
