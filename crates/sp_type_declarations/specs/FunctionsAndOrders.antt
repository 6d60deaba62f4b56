-- Functions and byte orders of a list of modules, where its constants and labels are answered, and so much is known of the
-- members of its units.
use Rattle.std.specs.Prelude.{ℕ, ℤ, List, [], ◌∷◌, ◌++◌, Option, Some, None}
use Rattle.sp_ast.specs.Trees.{Tree, node, more}
use Rattle.sp_ast.specs.declared.forms.Form.TheVariants as form_is
use Rattle.sp_ast.specs.declared.forms.DeclForm.TheVariants as decl_is
use Rattle.sp_types.specs.Types.{Ty}
use Rattle.sp_typed.specs.Exprs.{Expr}
use Rattle.sp_typed_units.specs.declared.declarations.Function.{Function}
use Rattle.sp_typed_units.specs.declared.declarations.OrderProperty.{OrderProperty}
use Rattle.sp_names.specs.declared.rows.Declaration.{Declaration}
use Rattle.sp_names.specs.declared.sort.DeclSort.TheVariants as sort_is
use Rattle.sp_names.specs.Declarations.{rows, all_of, module_name, module_at}
use Rattle.sp_names.specs.Names.{declaration_of}
use Rattle.sp_type_functions.specs.Functions.{function_of}
use Rattle.sp_type_constants.specs.Values.{value_of}
use Rattle.sp_type_constants.specs.Places.{signed_of}
use Rattle.sp_type_values.specs.declared.answer.Answer.{Answer}
use Rattle.sp_type_values.specs.Answers.{known_values, values}
use Rattle.sp_type_list_context.specs.Contexts.{in_module}
use Rattle.sp_type_fields.specs.Orders.{order_of}

-- the priority of a hook, where it is constant and a signed integer
abbrev pub ranks : List Tree → (ℕ → Option Ty) → (ℕ → Option Answer) → Expr → Option ℤ
ranks list f known e = signed_of (value_of (known_values list f known) e)

module _ (list : List Tree) (f : ℕ → Option Ty) (known : ℕ → Option Answer) (stored : ℕ → Option Ty) where
  -- the byte order of a module, if a declaration is one
  abbrev pub declared_order : ℕ → Tree → List OrderProperty
  declared_order m (node (form_is.Decl decl_is.ByteOrder) span (more path ts)) =
      order_of (in_module list f known stored m) (values list f known) m path ∷ []
  declared_order m _ = []

  abbrev pub orders_among : List Declaration → List OrderProperty
  orders_among [] = []
  orders_among (d ∷ ds) = declared_order d.«module» d.tree ++ orders_among ds

  -- the byte orders of all modules, in the order of the text
  abbrev pub orders : List OrderProperty
  orders = orders_among (rows list)

  -- the function of a declaration, if there is one
  abbrev pub declared_function : Option Declaration → List Function
  declared_function None = []
  declared_function (Some d) =
      function_of (in_module list f known stored d.«module») (module_name (module_at list d.«module»)) d.«module» d.tree ∷ []

  abbrev pub functions_of : List ℕ → List Function
  functions_of [] = []
  functions_of (g ∷ gs) = declared_function (declaration_of list (Some g)) ++ functions_of gs

  -- all functions, by their numbers
  abbrev pub functions : List Function
  functions = functions_of (all_of sort_is.Function list)
