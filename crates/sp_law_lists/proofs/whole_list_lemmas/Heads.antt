-- Where all that can be named is known, it is so where parameters of full types are seen, and where `self` and `$$` are of full
-- types or aren't meant.
use Rattle.std.specs.Prelude.{slice_get}
use Rattle.std.specs.List.{list_all}
use Rattle.std.proofs.Common.{ℕ, ◌≡◌, zero, suc, Bool, true, ◌||◌, List, [], ◌∷◌, Option, Some, None}
use Rattle.std.proofs.lemmas.Bool.{and_parts}
use Rattle.sp_base.specs.declared.places.Span.{Span}
use Rattle.sp_ast.specs.Trees.{Tree}
use Rattle.sp_types.specs.Types.{Ty}
use Rattle.sp_typed.specs.declared.words.OneOp.{OneOp}
use Rattle.sp_typed.specs.declared.words.Standing.{Standing}
use Rattle.sp_typed.specs.Exprs.{Expr}
use Rattle.sp_typed_units.specs.declared.declarations.Parameter.{Parameter}
use Rattle.sp_type_context.specs.Contexts.{Around}
use Rattle.sp_type_context.specs.Names.{single_name}
use Rattle.sp_type_scopes.specs.Decorators.{with_current, with_self}
use Rattle.sp_type_scopes.specs.Parameters.{numbered_maybe, parameter_at, parameter_leaf, or_outside, with_parameters}
use Rattle.sp_rule_bodies.specs.Known.{Known}
use Rattle.sp_rule_bodies.specs.ExprTests.{is_unmeant}
use Rattle.sp_law_lists.specs.known_types.Full.{is_full}
use Rattle.sp_law_lists.specs.known_types.Given.{is_named, IsKnown}
use Rattle.sp_law_lists.specs.known_bodies.Decided.{Decides}
use Rattle.sp_law_lists.specs.whole_list.Whole.{is_known_parameter}

-- parameters of full types
abbrev pub parameters_full : List Parameter → Bool
parameters_full ps = list_all is_known_parameter ps

at_named : (result : ℕ → Ty) (span : Span) (first : ℕ) (hides : Bool) (k : ℕ) (ps : List Parameter) (n : ℕ) (e : Expr) → parameters_full ps ≡ true → is_named result e ≡ true → is_named result (or_outside (parameter_at span first hides k (slice_get ps n)) e) ≡ true
at_named result span first hides k [] n e f named = named
at_named result span first hides k (p ∷ ps) zero e f named = (and_parts (is_full p.ty) (parameters_full ps) f).0
at_named result span first hides k (p ∷ ps) (suc n) e f named = at_named result span first hides k ps n e (and_parts (is_full p.ty) (parameters_full ps) f).1 named

leaf_named : (result : ℕ → Ty) (span : Span) (first : ℕ) (hides : Bool) (ps : List Parameter) (o : Option ℕ) (e : Expr) → parameters_full ps ≡ true → is_named result e ≡ true → is_named result (or_outside (parameter_leaf span first hides ps o) e) ≡ true
leaf_named result span first hides ps None e f named = named
leaf_named result span first hides ps (Some n) e f named = at_named result span first hides n ps n e f named

module _ (g : Around) (only : OneOp → Bool) (k : Known) (m : ℕ) (is_type is_path : Tree → Bool) (known : IsKnown g only k m is_type is_path) where
  pub parameters_known : (first : ℕ) (hides : Bool) (ps : List Parameter) → Decides (with_parameters first hides ps g) only k m is_type is_path → parameters_full ps ≡ true → IsKnown (with_parameters first hides ps g) only k m is_type is_path
  parameters_known first hides ps decides f = record {
    path = λ span path is. leaf_named g.result span first hides ps (numbered_maybe (single_name path) ps) (g.path span path) f (known.path span path is);
    named = known.named;
    itself = known.itself;
    current = known.current;
    names_types = known.names_types;
    type_in = known.type_in;
    kept = known.kept;
    key = known.key;
    member = known.member;
    method = known.method;
    gives = known.gives;
    left_out = known.left_out;
    index = decides;
  }

  pub self_known : (t : Ty) (s : Standing) → Decides (with_self t s g) only k m is_type is_path → (is_unmeant s || is_full t) ≡ true → IsKnown (with_self t s g) only k m is_type is_path
  self_known t s decides f = record {
    path = known.path;
    named = known.named;
    itself = λ span. f;
    current = known.current;
    names_types = known.names_types;
    type_in = known.type_in;
    kept = known.kept;
    key = known.key;
    member = known.member;
    method = known.method;
    gives = known.gives;
    left_out = known.left_out;
    index = decides;
  }

  pub current_known : (t : Ty) (s : Standing) → Decides (with_current t s g) only k m is_type is_path → (is_unmeant s || is_full t) ≡ true → IsKnown (with_current t s g) only k m is_type is_path
  current_known t s decides f = record {
    path = known.path;
    named = known.named;
    itself = known.itself;
    current = λ span. f;
    names_types = known.names_types;
    type_in = known.type_in;
    kept = known.kept;
    key = known.key;
    member = known.member;
    method = known.method;
    gives = known.gives;
    left_out = known.left_out;
    index = decides;
  }
