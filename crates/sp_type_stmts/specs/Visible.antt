-- What is seen from a body that has locals.
use Rattle.std.specs.Prelude.{ℕ, List, Option, Some, None}
use Rattle.sp_base.specs.declared.places.Span.{Span}
use Rattle.sp_typed.specs.Exprs.{Expr}
use Rattle.sp_typed.specs.declared.words.LeafOp.TheVariants as leaf_is
use Rattle.sp_type_context.specs.Contexts.{Around}
use Rattle.sp_type_context.specs.Names.{single_name}
use Rattle.sp_type_context.specs.Typing.{leaf_at}
use Rattle.sp_type_stmts.specs.Scopes.{Local, found}

abbrev pub found_maybe : Option (List ℕ) → List Local → Option Local
found_maybe None ls = None
found_maybe (Some x) ls = found x ls

-- a local where there is one, else what is said outside
abbrev pub local_or : Span → Option Local → Expr → Expr
local_or span None e = e
local_or span (Some l) e = leaf_at span l.ty (leaf_is.Local l.slot)

-- What stands round an expression in a body: a path of one name that is an open local means that local. All else is as
-- outside; so is a path behind `new`, which sees no local.
abbrev pub with_locals : List Local → Around → Around
with_locals ls g = record {
  path = λ span path. local_or span (found_maybe (single_name path) ls) (g.path span path);
  named = g.named;
  itself = g.itself;
  current = g.current;
  type_in = g.type_in;
  written = g.written;
  member = g.member;
  method = g.method;
  target = g.target;
  left_out = g.left_out;
  result = g.result;
  item = g.item;
}
