-- Functions: their heads, and their bodies in what stands round them.
use Rattle.std.specs.Prelude.{ℕ, false, List, [], ◌∷◌, ◌++◌, Option, Some, None}
use Rattle.sp_ast.specs.Trees.{Tree, node, row, none, more, span_of}
use Rattle.sp_ast.specs.declared.forms.Form.TheVariants as form_is
use Rattle.sp_ast.specs.declared.forms.DeclForm.TheVariants as decl_is
use Rattle.sp_types.specs.Types.{Ty, word}
use Rattle.sp_types.specs.declared.words.Word.TheVariants as word_is
use Rattle.sp_typed.specs.Stmts.{Stmt, block, no_stmts}
use Rattle.sp_typed_units.specs.declared.declarations.Parameter.{Parameter}
use Rattle.sp_typed_units.specs.declared.declarations.Function.{Function}
use Rattle.sp_type_context.specs.declared.places.Place.TheVariants.{Value}
use Rattle.sp_type_context.specs.Contexts.{Around}
use Rattle.sp_type_context.specs.Names.{path_of}
use Rattle.sp_type_context.specs.Typing.{name_of}
use Rattle.sp_type_stmts.specs.declared.body.Body.{Body}
use Rattle.sp_type_stmts.specs.Statements.{written_type, written_of, typed_body}
use Rattle.sp_type_scopes.specs.Parameters.{parameters_in, with_parameters}

-- the type of a result: void where nothing is written
abbrev pub or_void : Option Ty → Ty
or_void None = word word_is.Void
or_void (Some t) = t

-- the body of a function that gives a value of a type, or nothing
abbrev pub body_giving : Option Ty → Body
body_giving t = record { result = t; in_foreach = false; sees_unit = false }

-- The typed body of a function, and the types of its slots. It sees its parameters.
abbrev pub function_body : Around → List Parameter → Tree → Tree → Stmt × List Ty
function_body g ps result body = typed_body (body_giving (written_type g Value result)) (with_parameters 0 false ps g) [] body

abbrev pub function_with : Around → List ℕ → ℕ → Tree → List Parameter → Tree → Stmt × List Ty → Function
function_with g owner m name ps result b = record {
  path = path_of owner (name_of name);
  «module» = m;
  span = span_of name;
  parameters = ps;
  result = or_void (written_type g Value result);
  written = written_of g Value result;
  slots = b.1;
  body = b.0;
}

-- what is no function
abbrev pub no_function : ℕ → Function
no_function m = record {
  path = [];
  «module» = m;
  span = record { from = 0; to = 0 };
  parameters = [];
  result = word word_is.Unknown;
  written = None;
  slots = [];
  body = block no_stmts;
}

-- The function that a tree declares in the module of this name and number. `self` and `$$` are what they are round it.
abbrev pub function_of : Around → List ℕ → ℕ → Tree → Function
function_of g owner m (node (form_is.Decl (decl_is.Function public)) span (more name (more (row ps) (more result (more body none))))) =
    function_with g owner m name (parameters_in g ps) result (function_body g (parameters_in g ps) result body)
function_of g owner m _ = no_function m
