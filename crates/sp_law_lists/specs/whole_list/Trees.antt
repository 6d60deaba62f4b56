-- Trees of functions: each type, each path, each expression and each parameter in one is a tree of one.
use Rattle.std.specs.Prelude.{Bool, true, false, ◌&&◌}
use Rattle.sp_ast.specs.Trees.{Tree, Trees, absent, row, node, none, more}
use Rattle.sp_ast.specs.declared.forms.Form.TheVariants as form_is
use Rattle.sp_ast.specs.declared.forms.DeclForm.TheVariants as decl_is
use Rattle.sp_law_lists.specs.known_bodies.Trees.{is_body}

module _ (is_type : Tree → Bool) where
  abbrev pub are_parameters : Trees → Bool
  are_parameters none = true
  are_parameters (more (node (form_is.Parameter inout) span (more name (more t none))) ps) = is_type t && are_parameters ps
  are_parameters (more p ps) = are_parameters ps

  -- the type of a result, which may be left out
  abbrev pub is_result : Tree → Bool
  is_result absent = true
  is_result t = is_type t

abbrev pub is_function : (Tree → Bool) → (Tree → Bool) → Tree → Bool
is_function is_type is_path (node (form_is.Decl (decl_is.Function public)) span (more name (more (row ps) (more result (more body none))))) =
    are_parameters is_type ps && (is_result is_type result && is_body is_type is_path body)
is_function is_type is_path _ = false
