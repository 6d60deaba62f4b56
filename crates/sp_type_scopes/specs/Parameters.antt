-- Parameters of functions, units and hooks: what they are, and what is seen where they are.
use Rattle.std.specs.Prelude.{ℕ, ◌+◌, suc, Bool, not, ◌&&◌, if◌then◌else◌, List, [], ◌∷◌, Option, Some, None, slice_get}
use Rattle.std.specs.Str.{bytes_eq}
use Rattle.sp_base.specs.declared.places.Span.{Span}
use Rattle.sp_ast.specs.Trees.{Tree, Trees, node, none, more, span_of}
use Rattle.sp_ast.specs.declared.forms.Form.TheVariants as form_is
use Rattle.sp_types.specs.Types.{Ty, is_plain}
use Rattle.sp_typed.specs.declared.words.LeafOp.TheVariants as leaf_is
use Rattle.sp_typed.specs.declared.words.Standing.{Standing}
use Rattle.sp_typed.specs.declared.words.Standing.TheVariants as standing_is
use Rattle.sp_typed.specs.Exprs.{Expr}
use Rattle.sp_typed_units.specs.declared.declarations.Parameter.{Parameter}
use Rattle.sp_type_context.specs.Places.{parameter_place}
use Rattle.sp_type_context.specs.Contexts.{Around}
use Rattle.sp_type_context.specs.Typing.{leaf_at, name_of}
use Rattle.sp_type_context.specs.Names.{single_name}

-- a parameter of a name and a written type
abbrev pub parameter_of : Around → Bool → Tree → Tree → Parameter
parameter_of g inout name t = record {
  name = name_of name;
  span = span_of name;
  written = g.written (parameter_place inout) t;
  ty = g.type_in (parameter_place inout) t;
  inout = inout;
}

-- the parameters of a row, in the order of the text
abbrev pub parameters_in : Around → Trees → List Parameter
parameters_in g none = []
parameters_in g (more (node (form_is.Parameter inout) span (more name (more t none))) ts) =
    parameter_of g inout name t ∷ parameters_in g ts
parameters_in g (more p ts) = parameters_in g ts

-- the number of the first parameter of a name, where the first of the row has the number k
abbrev pub numbered : List ℕ → ℕ → List Parameter → Option ℕ
numbered x k [] = None
numbered x k (p ∷ ps) = if bytes_eq x p.name then Some k else numbered x (suc k) ps

abbrev pub numbered_maybe : Option (List ℕ) → List Parameter → Option ℕ
numbered_maybe None ps = None
numbered_maybe (Some x) ps = numbered x 0 ps

-- Whether a body that uses a parameter of this type may: one that is hidden from what isn't plain sees plain ones alone.
abbrev pub standing_of : Bool → Ty → Standing
standing_of hides t = if hides && not (is_plain t) then standing_is.Hidden else standing_is.Meant

-- the parameter that stands at a place of its row, in a body in which the first of the row has the number `first`
abbrev pub parameter_at : Span → ℕ → Bool → ℕ → Option Parameter → Option Expr
parameter_at span first hides n None = None
parameter_at span first hides n (Some p) = Some (leaf_at span p.ty (leaf_is.Parameter (first + n) (standing_of hides p.ty)))

abbrev pub parameter_leaf : Span → ℕ → Bool → List Parameter → Option ℕ → Option Expr
parameter_leaf span first hides ps None = None
parameter_leaf span first hides ps (Some n) = parameter_at span first hides n (slice_get ps n)

-- a parameter where there is one, else what is said outside
abbrev pub or_outside : Option Expr → Expr → Expr
or_outside None e = e
or_outside (Some p) e = p

-- What stands round an expression, and parameters of which the first has the number `first` in its body: a path of one name that
-- is that of a parameter means the first parameter of the name. All else is as outside; so are paths behind `new` and in types,
-- which see no parameter.
abbrev pub with_parameters : ℕ → Bool → List Parameter → Around → Around
with_parameters first hides ps g = record {
  path = λ span path. or_outside (parameter_leaf span first hides ps (numbered_maybe (single_name path) ps)) (g.path span path);
  named = g.named;
  itself = g.itself;
  current = g.current;
  type_in = g.type_in;
  written = g.written;
  member = g.member;
  method = g.method;
  target = g.target;
  left_out = g.left_out;
  result = g.result;
  item = g.item;
}
