-- Members whose types aren't known yet, in what is typed.
use Rattle.std.specs.Prelude.{ℕ, ◌+◌, nat_lt, if◌then◌else◌, List, Option, Some, None}
use Rattle.sp_ast.specs.Trees.{Tree, row, node, none, more}
use Rattle.sp_ast.specs.declared.forms.Form.TheVariants as form_is
use Rattle.sp_ast.specs.declared.forms.BaseForm.TheVariants as base_is
use Rattle.sp_types.specs.Types.{Ty, word}
use Rattle.sp_types.specs.declared.words.Word.TheVariants as word_is
use Rattle.sp_typed.specs.declared.words.OneOp.{OneOp}
use Rattle.sp_typed.specs.declared.words.OneOp.TheVariants as one_is
use Rattle.sp_typed.specs.Exprs.{Expr, Exprs, leaf, one, two, three, many}
use Rattle.sp_typed.specs.Exprs as typed_is
use Rattle.sp_type_context.specs.Contexts.{Around}
use Rattle.sp_type_operands.specs.Literals.{seen}
use Rattle.sp_type_context.specs.Typing.{typed}
use Rattle.sp_type_fields.specs.Values.{Values}
use Rattle.sp_type_scopes.specs.Decorators.{meant}
use Rattle.sp_type_fields.specs.Attributes.{conversion}
use Rattle.sp_type_fields.specs.Readings.{counted_read}
use Rattle.sp_type_modules.specs.Members.{first_member}
use Rattle.sp_type_modules.specs.Arounds.{stored_by, member_of}

-- What stands round an expression, where so much is known of the members of units, in one row.
abbrev pub with_members : List Tree → (ℕ → Option Ty) → Around → Around
with_members list f g = record {
  path = g.path;
  named = g.named;
  itself = g.itself;
  current = g.current;
  type_in = g.type_in;
  written = g.written;
  member = member_of list (stored_by list f);
  method = g.method;
  target = g.target;
  left_out = g.left_out;
  result = g.result;
  item = g.item;
}

-- the first of two that is there
abbrev pub or_else : Option ℕ → Option ℕ → Option ℕ
or_else None y = y
or_else (Some j) y = Some j

-- a question of the row that has no answer
abbrev pub unanswered : Option Ty → ℕ → Option ℕ
unanswered None j = Some j
unanswered (Some t) j = None

-- the row has so many questions
abbrev pub open_at : ℕ → (ℕ → Option Ty) → ℕ → Option ℕ
open_at count f j = if nat_lt j count then unanswered (f j) j else None

-- the member of a number of a unit
abbrev pub open_of : List Tree → ℕ → (ℕ → Option Ty) → ℕ → Ty → Option ℕ
open_of list count f k (word (word_is.Unit n)) = open_at count f (first_member list n + k)
open_of list count f k _ = None

-- a field or variable; a sink is known, and whether a field is set hangs on no type
abbrev pub open_member : List Tree → ℕ → (ℕ → Option Ty) → OneOp → Ty → Option ℕ
open_member list count f (one_is.Field k) t = open_of list count f k t
open_member list count f (one_is.Variable k) t = open_of list count f k t
open_member list count f _ t = None

-- The first member in an expression whose type isn't known yet: parts before the node round them.
abbrev mutual
  pub open_in : List Tree → ℕ → (ℕ → Option Ty) → Expr → Option ℕ
  open_in list count f (leaf h) = None
  open_in list count f (one h a) = or_else (open_in list count f a) (open_member list count f h.op (seen a))
  open_in list count f (two h a b) = or_else (open_in list count f a) (open_in list count f b)
  open_in list count f (three h a b c) = or_else (open_in list count f a) (or_else (open_in list count f b) (open_in list count f c))
  open_in list count f (many h es) = open_among list count f es

  pub open_among : List Tree → ℕ → (ℕ → Option Ty) → Exprs → Option ℕ
  open_among list count f typed_is.none = None
  open_among list count f (typed_is.more e es) = or_else (open_in list count f e) (open_among list count f es)

-- What is read has this type, and a conversion of it may hang on members.
abbrev pub conversion_open : List Tree → ℕ → (ℕ → Option Ty) → Around → Ty → Option Tree → Option ℕ
conversion_open list count f g t None = None
conversion_open list count f g t (Some e) = open_in list count f (typed (meant t g) e)

-- Conversions in groups count, from the inside.
abbrev pub base_open : List Tree → ℕ → (ℕ → Option Ty) → Around → Values → Tree → Option ℕ
base_open list count f g v (node (form_is.Base base_is.Group) at (more inner (more (row counts) (more (row ts) none)))) =
    or_else (base_open list count f g v inner) (conversion_open list count f g (counted_read g v inner counts).ty (conversion ts))
base_open list count f g v t = None

-- the first member without a type on which the type of a field hangs
abbrev pub field_open : List Tree → ℕ → (ℕ → Option Ty) → Around → Values → Tree → Option ℕ
field_open list count f g v (node form_is.Field span (more name (more base (more (row counts) (more (row ts) rest))))) =
    or_else (base_open list count f g v base) (conversion_open list count f g (counted_read g v base counts).ty (conversion ts))
field_open list count f g v t = None
