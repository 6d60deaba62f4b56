-- Whether an index is constant is known, where it is known what names mean as constants.
use Rattle.std.specs.Prelude.{ℕ, zero, suc, Bool, true, List, [], ◌∷◌, Option, Some, None, slice_get}
use Rattle.std.proofs.Common.{◌≡◌, refl}
use Rattle.sp_base.specs.declared.places.Span.{Span}
use Rattle.sp_ast.specs.Trees.{Tree}
use Rattle.sp_types.specs.declared.words.Word.TheVariants as word_is
use Rattle.sp_types.specs.Types.{Ty, word}
use Rattle.sp_typed.specs.declared.words.OneOp.{OneOp}
use Rattle.sp_typed.specs.Exprs.{Expr, type_of}
use Rattle.sp_typed_units.specs.declared.declarations.Parameter.{Parameter}
use Rattle.sp_typed_units.specs.declared.declarations.Typed.{Typed}
use Rattle.sp_type_operands.specs.Operands.{is_unsigned}
use Rattle.sp_type_context.specs.Contexts.{Around}
use Rattle.sp_type_context.specs.Typing.{typed}
use Rattle.sp_type_stmts.specs.Scopes.{Local}
use Rattle.sp_type_stmts.specs.Visible.{found_maybe, local_or, with_locals}
use Rattle.sp_type_context.specs.Names.{single_name}
use Rattle.sp_type_scopes.specs.Parameters.{numbered_maybe, parameter_at, parameter_leaf, or_outside, with_parameters}
use Rattle.sp_type_constants.specs.declared.outcome.Outcome.{Outcome}
use Rattle.sp_type_constants.specs.declared.outcome.Outcome.TheVariants as outcome_is
use Rattle.sp_type_constants.specs.Known.{Known as Values}
use Rattle.sp_type_constants.specs.Values.{value_of}
use Rattle.sp_rule_bodies.specs.Known.{Known}
use Rattle.sp_rule_lists.specs.Told.{constancy_of, known_in}
use Rattle.sp_law_lists.specs.known_types.Given.{is_decided}
use Rattle.sp_law_lists.proofs.known_types_lemmas.Full.{never}
use Rattle.sp_law_lists.specs.known_values.Values.{fits}
use Rattle.sp_law_lists.specs.known_values.Given.{IsTold, AreTold}
use Rattle.sp_law_lists.proofs.known_values_lemmas.Typed.{typed_told}
use Rattle.sp_law_lists.specs.known_bodies.Decided.{Decides, DecidesUnder}

decided_when : (t : Ty) (o : Outcome) → is_unsigned t ≡ true → fits t o ≡ true → is_decided (constancy_of o) ≡ true
decided_when t (outcome_is.Value v) u f = refl
decided_when t outcome_is.NotConstant u f = refl
decided_when t outcome_is.Error u f = refl
decided_when t outcome_is.Unknown u f = never f
decided_when (word (word_is.Uint x)) (outcome_is.Regex text) u f = never f
decided_when _ (outcome_is.Regex text) u f = never u

module _ (t : Typed) (values : Values) (slots : List ℕ) (only : OneOp → Bool) (m : ℕ) (is_type is_path : Tree → Bool) where
  abbrev told_in : Known
  told_in = known_in t values slots

  pub decides : (g : Around) → AreTold g only told_in m values is_path → Decides g only told_in m is_type is_path
  decides g names = λ i is c r p u. decided_when (type_of (typed g i)) (value_of values (typed g i)) u (typed_told g only told_in m values is_type is_path names i is c r p)

  local_told : (span : Span) (o : Option Local) (e : Expr) → IsTold only told_in m values e → IsTold only told_in m values (local_or span o e)
  local_told span None e h = h
  local_told span (Some l) e h = λ c r p. refl

  locals_told : (g : Around) → AreTold g only told_in m values is_path → (ls : List Local) → AreTold (with_locals ls g) only told_in m values is_path
  locals_told g names ls = record {
    path = λ span path is. local_told span (found_maybe (single_name path) ls) (g.path span path) (names.path span path is);
    itself = names.itself;
    current = names.current;
    member = names.member;
    method = names.method;
  }

  pub decides_under : (g : Around) → AreTold g only told_in m values is_path → DecidesUnder g only told_in m is_type is_path
  decides_under g names = λ ls f. decides (with_locals ls g) (locals_told g names ls)

  at_told : (span : Span) (first : ℕ) (hides : Bool) (k : ℕ) (o : Option Parameter) (e : Expr) → IsTold only told_in m values e → IsTold only told_in m values (or_outside (parameter_at span first hides k o) e)
  at_told span first hides k None e h = h
  at_told span first hides k (Some p) e h = λ c r q. refl

  leaf_told : (span : Span) (first : ℕ) (hides : Bool) (ps : List Parameter) (o : Option ℕ) (e : Expr) → IsTold only told_in m values e → IsTold only told_in m values (or_outside (parameter_leaf span first hides ps o) e)
  leaf_told span first hides ps None e h = h
  leaf_told span first hides ps (Some n) e h = at_told span first hides n (slice_get ps n) e h

  pub parameters_told : (g : Around) → AreTold g only told_in m values is_path → (first : ℕ) (hides : Bool) (ps : List Parameter) → AreTold (with_parameters first hides ps g) only told_in m values is_path
  parameters_told g names first hides ps = record {
    path = λ span path is. leaf_told span first hides ps (numbered_maybe (single_name path) ps) (g.path span path) (names.path span path is);
    itself = names.itself;
    current = names.current;
    member = names.member;
    method = names.method;
  }
