-- The hooks of the typed list.
use Rattle.std.specs.Prelude.{ℕ, ℤ, List, [], ◌∷◌, Option, Some, None, is_some, slice_get}
use Rattle.sp_ast.specs.Trees.{Tree}
use Rattle.sp_types.specs.Types.{Ty}
use Rattle.sp_typed.specs.Exprs.{Expr}
use Rattle.sp_typed_units.specs.declared.declarations.Parameter.{Parameter}
use Rattle.sp_typed_units.specs.declared.declarations.Hook.{Hook}
use Rattle.sp_typed_units.specs.declared.declarations.HookOf.{HookOf}
use Rattle.sp_typed_units.specs.declared.declarations.HookOf.TheVariants as of_is
use Rattle.sp_type_context.specs.Contexts.{Around}
use Rattle.sp_type_operands.specs.Operands.{unknown}
use Rattle.sp_names.specs.Types.{or_unknown}
use Rattle.sp_type_functions.specs.declared.site.Site.{Site}
use Rattle.sp_type_functions.specs.Hooks.{no_hook, hook_behind, hook_on}
use Rattle.sp_type_hook_order.specs.Order.{rank_or}
use Rattle.sp_type_hook_rows.specs.declared.rows.HookRow.{HookRow}
use Rattle.sp_type_hook_rows.specs.HookRows.{key_of}
use Rattle.sp_type_hooks.specs.Fields.{mark_of}
use Rattle.sp_typed_units.specs.Hooks.{unit_of}

-- what a hook sees of its field, if it is of one
abbrev pub seen_at : (ℕ × ℕ × ℕ → Option Ty × Option Ty) → Option (ℕ × ℕ × ℕ) → Option Ty × Option Ty
seen_at f None = (None, None)
seen_at f (Some x) = f x

abbrev pub seen_by : (ℕ × ℕ × ℕ → Option Ty × Option Ty) → HookRow → Option Ty × Option Ty
seen_by f r = seen_at f (mark_of (key_of r.of r.field))

-- The type of `$$`: what the field stores, or an element of what it reads. A hook of no field has none.
abbrev pub current_of : HookOf → Option Ty → Option Ty → Ty
current_of (of_is.Field n k) stored element = or_unknown stored
current_of (of_is.Anonymous n) stored element = or_unknown stored
current_of (of_is.Elements n k) stored element = or_unknown element
current_of (of_is.AnonymousElements n) stored element = or_unknown element
current_of _ stored element = unknown

-- Where a hook stands, what it is of, and what it sees of its field: it stands on a container where it sees an element.
abbrev pub site_of : Option Ty × Option Ty → HookRow → Site
site_of seen r = record {
  «module» = r.«module»;
  span = r.span;
  of = r.of;
  container = is_some seen.1;
  current = current_of r.of seen.0 seen.1;
}

-- the parameters of a unit, where those of each unit are these; a hook of nothing sees none
abbrev pub or_none : Option (List Parameter) → List Parameter
or_none None = []
or_none (Some ps) = ps

abbrev pub parameters_of : List (List Parameter) → Option ℕ → List Parameter
parameters_of units None = []
parameters_of units (Some n) = or_none (slice_get units n)

-- one that is written with `on`, or stands behind a field
abbrev pub written_hook : Around → (Expr → Option ℤ) → Site → List Parameter → Option Tree → Tree → Hook
written_hook g ranks s ps (Some hook) body = hook_on g ranks s ps hook
written_hook g ranks s ps None body = hook_behind g ranks s ps body

abbrev pub seen_hook : Around → (Expr → Option ℤ) → List (List Parameter) → HookRow → Option Ty × Option Ty → Hook
seen_hook g ranks units r seen = written_hook g ranks (site_of seen r) (parameters_of units (unit_of r.of)) r.hook r.body

-- The hook of a row, where `g` stands round the expressions of its module, and `f` tells what hooks see of the fields of a mark.
abbrev pub hook_of : Around → (Expr → Option ℤ) → (ℕ × ℕ × ℕ → Option Ty × Option Ty) → List (List Parameter) → HookRow → Hook
hook_of g ranks f units r = seen_hook g ranks units r (seen_by f r)

-- in a module that has no context it is no hook
abbrev pub hook_in : Option Around → (Expr → Option ℤ) → List (List Parameter) → HookRow → Option Ty × Option Ty → Hook
hook_in None ranks units r seen = no_hook (site_of seen r)
hook_in (Some g) ranks units r seen = seen_hook g ranks units r seen

-- All hooks of a list, where the modules have these contexts.
abbrev pub typed_hooks : List Around → (Expr → Option ℤ) → (ℕ × ℕ × ℕ → Option Ty × Option Ty) → List (List Parameter) → List HookRow → List Hook
typed_hooks contexts ranks f units [] = []
typed_hooks contexts ranks f units (r ∷ rs) =
    hook_in (slice_get contexts r.«module») ranks units r (seen_by f r) ∷ typed_hooks contexts ranks f units rs

-- The rank of each; 0 where its priority has none.
abbrev pub ranks_of : List Hook → List ℤ
ranks_of [] = []
ranks_of (h ∷ hs) = rank_or h.rank ∷ ranks_of hs
