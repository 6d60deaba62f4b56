-- `$$`, `self`, parameters and locals are placed where they are written.
use Rattle.std.specs.Prelude.{ℕ, Bool, true, List, Option, Some, None, slice_get}
use Rattle.std.proofs.Common.{◌≡◌}
use Rattle.sp_base.specs.declared.places.Span.{Span}
use Rattle.sp_lex.specs.declared.tokens.Token.{Token}
use Rattle.sp_types.specs.Types.{Ty}
use Rattle.sp_typed.specs.declared.words.Standing.{Standing}
use Rattle.sp_typed.specs.Exprs.{Expr}
use Rattle.sp_typed.specs.Nodes.{holds}
use Rattle.sp_typed_units.specs.declared.declarations.Parameter.{Parameter}
use Rattle.sp_type_context.specs.Contexts.{Around}
use Rattle.sp_type_context.specs.Names.{single_name}
use Rattle.sp_type_scopes.specs.Decorators.{with_current, with_self}
use Rattle.sp_type_scopes.specs.Parameters.{numbered_maybe, parameter_at, parameter_leaf, or_outside, with_parameters}
use Rattle.sp_type_stmts.specs.Scopes.{Local}
use Rattle.sp_type_stmts.specs.Visible.{found_maybe, local_or, with_locals}
use Rattle.sp_law_rules.specs.Spans.{is_placed, node_placed, NamesPlaced}

module _ (tokens : List Token) (g : Around) (names : NamesPlaced tokens g) where
  abbrev p : Expr → Bool
  p = node_placed tokens

  abbrev At : Span → Type 0
  At span = is_placed tokens span ≡ true

  pub current_places : (t : Ty) (standing : Standing) → NamesPlaced tokens (with_current t standing g)
  current_places t standing = record {
    path = names.path;
    named = names.named;
    itself = names.itself;
    current = λ span i. i;
    written = names.written;
    member = names.member;
    method = names.method;
    left_out = names.left_out;
  }

  pub self_places : (t : Ty) (standing : Standing) → NamesPlaced tokens (with_self t standing g)
  self_places t standing = record {
    path = names.path;
    named = names.named;
    itself = λ span i. i;
    current = names.current;
    written = names.written;
    member = names.member;
    method = names.method;
    left_out = names.left_out;
  }

  parameter_placed : (span : Span) (first : ℕ) (hides : Bool) (n : ℕ) (o : Option Parameter) (e : Expr) → At span → holds p e ≡ true → holds p (or_outside (parameter_at span first hides n o) e) ≡ true
  parameter_placed span first hides n None e i j = j
  parameter_placed span first hides n (Some x) e i j = i

  leaf_placed : (span : Span) (first : ℕ) (hides : Bool) (ps : List Parameter) (o : Option ℕ) (e : Expr) → At span → holds p e ≡ true → holds p (or_outside (parameter_leaf span first hides ps o) e) ≡ true
  leaf_placed span first hides ps None e i j = j
  leaf_placed span first hides ps (Some n) e i j = parameter_placed span first hides n (slice_get ps n) e i j

  pub parameters_place : (first : ℕ) (hides : Bool) (ps : List Parameter) → NamesPlaced tokens (with_parameters first hides ps g)
  parameters_place first hides ps = record {
    path = λ span t i b. leaf_placed span first hides ps (numbered_maybe (single_name t) ps) (g.path span t) i (names.path span t i b);
    named = names.named;
    itself = names.itself;
    current = names.current;
    written = names.written;
    member = names.member;
    method = names.method;
    left_out = names.left_out;
  }

  local_placed : (span : Span) (o : Option Local) (e : Expr) → At span → holds p e ≡ true → holds p (local_or span o e) ≡ true
  local_placed span None e i j = j
  local_placed span (Some l) e i j = i

  pub locals_place : (ls : List Local) → NamesPlaced tokens (with_locals ls g)
  locals_place ls = record {
    path = λ span t i b. local_placed span (found_maybe (single_name t) ls) (g.path span t) i (names.path span t i b);
    named = names.named;
    itself = names.itself;
    current = names.current;
    written = names.written;
    member = names.member;
    method = names.method;
    left_out = names.left_out;
  }
