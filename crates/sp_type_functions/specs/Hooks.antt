-- Hooks: what their bodies see, and what they are.
use Rattle.std.specs.Prelude.{ℤ, pos, Bool, false, not, if◌then◌else◌, List, [], length, Option, Some, None}
use Rattle.sp_numbers.specs.declared.width.Width.TheVariants as width
use Rattle.sp_ast.specs.Trees.{Tree, node, row, none, more}
use Rattle.sp_ast.specs.declared.forms.Form.TheVariants as form_is
use Rattle.sp_types.specs.Types.{Ty, word}
use Rattle.sp_types.specs.declared.words.Word.TheVariants as word_is
use Rattle.sp_typed.specs.declared.words.Standing.{Standing}
use Rattle.sp_typed.specs.declared.words.Standing.TheVariants as standing_is
use Rattle.sp_typed.specs.Exprs.{Expr}
use Rattle.sp_typed.specs.Stmts.{Stmt, block, no_stmts}
use Rattle.sp_typed_units.specs.declared.declarations.Parameter.{Parameter}
use Rattle.sp_typed_units.specs.declared.declarations.Hook.{Hook}
use Rattle.sp_typed_units.specs.declared.declarations.HookOf.{HookOf}
use Rattle.sp_typed_units.specs.declared.declarations.HookOf.TheVariants as hook_of
use Rattle.sp_type_context.specs.Contexts.{Around}
use Rattle.sp_type_operands.specs.Literals.{taken}
use Rattle.sp_type_context.specs.Typing.{typed}
use Rattle.sp_ast.specs.Views.{present}
use Rattle.sp_type_scopes.specs.Decorators.{with_current, with_self}
use Rattle.sp_type_stmts.specs.declared.body.Body.{Body}
use Rattle.sp_type_stmts.specs.Statements.{typed_body}
use Rattle.sp_type_functions.specs.declared.site.Site.{Site}
use Rattle.sp_type_functions.specs.Events.{is_of_sink, is_of_elements, fits}
use Rattle.sp_type_scopes.specs.Parameters.{parameters_in, with_parameters}

-- `self` is the unit, which a hook of a sink can't see. In a hook of nothing nothing is known of it.
abbrev pub self_type : HookOf → Ty
self_type hook_of.Nothing = word word_is.Unknown
self_type (hook_of.Unit u e) = word (word_is.Unit u)
self_type (hook_of.Field u m) = word (word_is.Unit u)
self_type (hook_of.Elements u m) = word (word_is.Unit u)
self_type (hook_of.Anonymous u) = word (word_is.Unit u)
self_type (hook_of.AnonymousElements u) = word (word_is.Unit u)

abbrev pub self_standing : HookOf → Standing
self_standing of = if is_of_sink of then standing_is.Hidden else standing_is.Meant

-- `$$` is the value of the field or the element. An event of a unit has none, and in a hook of nothing nothing is known of it.
abbrev pub current_type : HookOf → Ty → Ty
current_type hook_of.Nothing t = word word_is.Unknown
current_type (hook_of.Unit u e) t = word word_is.Unknown
current_type _ t = t

abbrev pub current_standing : HookOf → Standing
current_standing (hook_of.Unit u e) = standing_is.Unmeant
current_standing _ = standing_is.Meant

-- What stands round a body of a hook, where `g` stands round its tree: its own parameters, and those of its unit, which are
-- numbered behind its own ones.
abbrev pub hook_around : HookOf → Ty → List Parameter → List Parameter → Around → Around
hook_around of current units own g =
    with_parameters 0 false own (with_current (current_type of current) (current_standing of) (with_self (self_type of) (self_standing of) (with_parameters (length own) (is_of_sink of) units g)))

-- a body of a hook gives nothing, and is the body of a unit that sees it unless it is of a sink
abbrev pub hook_body : HookOf → Body
hook_body of = record { result = None; in_foreach = is_of_elements of; sees_unit = not (is_of_sink of) }

-- What stands round the priority of a hook: the parameters that its body sees, and neither `self` nor `$$` more than round it.
abbrev pub priority_around : HookOf → List Parameter → List Parameter → Around → Around
priority_around of units own g = with_parameters 0 false own (with_parameters (length own) (is_of_sink of) units g)

-- the priority, a literal of which is a signed integer
abbrev pub priority_in : Around → Option Tree → Option Expr
priority_in g None = None
priority_in g (Some e) = Some (taken (word (word_is.Int width.W64)) (typed g e))

-- the number that a priority is, where it is one; 0 without one
abbrev pub rank_of : (Expr → Option ℤ) → Option Expr → Option ℤ
rank_of ranks None = Some (pos 0)
rank_of ranks (Some e) = ranks e

abbrev pub hook_with : Site → Bool → List Parameter → Option Expr → Option ℤ → Stmt × List Ty → Hook
hook_with s each own priority rank b = record {
  «module» = s.«module»;
  span = s.span;
  of = s.of;
  fits = fits s.of each s.container own;
  parameters = own;
  priority = priority;
  rank = rank;
  slots = b.1;
  body = b.0;
}

-- what is no hook
abbrev pub no_hook : Site → Hook
no_hook s = hook_with s false [] None (Some (pos 0)) (block no_stmts, [])

-- The hook that a tree is with these parameters of its own. It is of what its site says, and `units` are the parameters of its
-- unit.
abbrev pub hook_of_body : Around → (Expr → Option ℤ) → Site → List Parameter → List Parameter → Tree → Hook
hook_of_body g ranks s units own (node (form_is.HookBody each) span (more priority (more body none))) =
    let inside = hook_around s.of s.current units own g in
    let p = priority_in (priority_around s.of units own g) (present priority) in
    hook_with s each own p (rank_of ranks p) (typed_body (hook_body s.of) inside [] body)
hook_of_body g ranks s units own _ = no_hook s

-- the hook that is written behind a field, without parameters
abbrev pub hook_behind : Around → (Expr → Option ℤ) → Site → List Parameter → Tree → Hook
hook_behind g ranks s units t = hook_of_body g ranks s units [] t

-- the hook that is written with `on`
abbrev pub hook_on : Around → (Expr → Option ℤ) → Site → List Parameter → Tree → Hook
hook_on g ranks s units (node form_is.Hook span (more (row ps) (more body none))) =
    hook_of_body g ranks s units (parameters_in g ps) body
hook_on g ranks s units _ = no_hook s
