-- What is named round the expressions of a list in which no rule is broken is kept by the bodies of its functions, hooks and units, and
-- widens no literal past its type.
use Rattle.std.specs.Prelude.{Bool, true, false, ◌==◌, if◌then◌else◌, slice_get}
use Rattle.std.specs.List.{list_all}
use Rattle.std.proofs.Common.{ℕ, ◌≡◌, refl, List, [], ◌∷◌, Option, Some, None}
use Rattle.sp_base.specs.declared.places.Span.{Span}
use Rattle.sp_words.specs.declared.methods.Method.{Method}
use Rattle.sp_words.specs.declared.methods.Method.TheVariants as method_is
use Rattle.sp_ast.specs.Trees.{Tree}
use Rattle.sp_ast.specs.Slots.{is_formed}
use Rattle.sp_rules.specs.declared.fault.Fault.{Fault}
use Rattle.sp_types.specs.Types.{Ty}
use Rattle.sp_typed.specs.declared.words.OneOp.{OneOp}
use Rattle.sp_typed.specs.declared.words.OneOp.TheVariants as one_is
use Rattle.sp_typed.specs.declared.words.ManyOp.{ManyOp}
use Rattle.sp_typed.specs.declared.words.ManyOp.TheVariants as many_is
use Rattle.sp_typed.specs.declared.words.Standing.{Standing}
use Rattle.sp_typed.specs.Exprs.{Expr, exprs}
use Rattle.sp_typed.specs.Nodes.{holds, all_hold}
use Rattle.sp_typed_units.specs.declared.declarations.Parameter.{Parameter}
use Rattle.sp_typed_units.specs.declared.declarations.Typed.{Typed}
use Rattle.sp_solver.specs.Told.{told}
use Rattle.sp_names.specs.declared.sort.DeclSort.{DeclSort}
use Rattle.sp_names.specs.declared.sort.DeclSort.TheVariants as sort_is
use Rattle.sp_names.specs.declared.sort.Meaning.{Meaning}
use Rattle.sp_names.specs.declared.sort.Meaning.TheVariants as meaning_is
use Rattle.sp_names.specs.Declarations.{sort_at}
use Rattle.sp_names.specs.Names.{path_means}
use Rattle.sp_type_context.specs.Contexts.{Around as Names}
use Rattle.sp_type_scopes.specs.Decorators.{with_current, with_self}
use Rattle.sp_type_context.specs.Names.{single_name}
use Rattle.sp_type_scopes.specs.Parameters.{numbered_maybe, parameter_at, parameter_leaf, or_outside, with_parameters}
use Rattle.sp_type_methods.specs.Methods.{base_ten, utf8, replace, left_out_of}
use Rattle.sp_type_modules.specs.Arounds.{Facts, declared_at, meaning_at, slice_of, left_out_by, around as module_names}
use Rattle.sp_type_list_context.specs.Contexts.{facts, in_module}
use Rattle.sp_type_answers.specs.Settled.{Answers}
use Rattle.sp_type_answers.specs.Lists.{typed_of}
use Rattle.sp_type_answers.specs.Rules.{Breaks}
use Rattle.sp_law_lists.specs.known_types.Given.{is_member_op}
use Rattle.sp_law_lists.proofs.known_types_lemmas.Full.{never}
use Rattle.sp_law_lists.specs.known_literals.Widened.{is_widen, widens_value, AreWidened}
use Rattle.sp_law_lists.proofs.whole_list_lemmas.Modules.{member_op}
use Rattle.sp_code_meaning.specs.Layouts.{Layout}
use Rattle.sp_law_lists.specs.known_kinds.Made.{AreMade}
use Rattle.sp_law_lists.proofs.known_kinds_lemmas.Names.{module_made}
use Rattle.sp_law_lists.proofs.passing_list_lemmas.Functions.{gives, takes}
use Rattle.sp_law_lists.proofs.passing_list_lemmas.Members.{round_of, members_made}
use Rattle.sp_law_lists.proofs.passing_list_lemmas.Constants.{constants_kept}

-- nothing that is named is widened
abbrev Still : Expr → Type 0
Still e = holds widens_value e ≡ true

no_widen : (op : OneOp) → is_member_op op ≡ true → is_widen op ≡ false
no_widen one_is.Widen h = never h
no_widen _ h = refl

either_still : (b : Bool) (xs ys : List Expr) → all_hold widens_value (exprs xs) ≡ true → all_hold widens_value (exprs ys) ≡ true → all_hold widens_value (exprs (if b then xs else ys)) ≡ true
either_still true xs ys h i = h
either_still false xs ys h i = i

left_out_still : (m : Method) (span : Span) (n : ℕ) → all_hold widens_value (exprs (left_out_of m span n)) ≡ true
left_out_still method_is.ToUint span n = either_still (n == 0) (base_ten span ∷ []) [] refl refl
left_out_still method_is.ToInt span n = either_still (n == 0) (base_ten span ∷ []) [] refl refl
left_out_still method_is.Decode span n =
    either_still (n == 0) (utf8 span ∷ replace span ∷ []) (if n == 1 then replace span ∷ [] else []) refl (either_still (n == 1) (replace span ∷ []) [] refl refl)
left_out_still _ span n = refl

all_still : (op : ManyOp) (span : Span) (n : ℕ) → all_hold widens_value (exprs (left_out_by op span n)) ≡ true
all_still (many_is.Method m slot) span n = left_out_still m span n
all_still _ span n = refl

module _ (list : List Tree) (facts : Facts) (m : ℕ) where
  declared_still : (span : Span) (g : ℕ) (s : DeclSort) → Still (declared_at list facts.answers facts.constant span g s)
  declared_still span g sort_is.Constant = refl
  declared_still span g sort_is.Function = refl
  declared_still span g _ = refl

  meaning_still : (span : Span) (path : Tree) (meaning : Meaning) → Still (meaning_at list facts.answers facts.constant span path meaning)
  meaning_still span path (meaning_is.Declaration g) = declared_still span g (sort_at list g)
  meaning_still span path (meaning_is.LibraryEnum n) = refl
  meaning_still span path (meaning_is.Label owner label) = refl
  meaning_still span path meaning_is.Decoder = refl
  meaning_still span path (meaning_is.Nothing n) = refl

  pub module_widens : AreWidened (module_names list facts m)
  module_widens = record {
    path = λ span path. meaning_still (slice_of list span path (path_means list facts.answers m path)) path (path_means list facts.answers m path);
    named = λ span path. meaning_still (slice_of list span path (path_means list facts.answers m path)) path (path_means list facts.answers m path);
    itself = λ span. refl;
    current = λ span. refl;
    member = λ t name found e. no_widen found.op (member_op list facts.stored t name found e);
    left_out = all_still;
  }

at_still : (span : Span) (first : ℕ) (hides : Bool) (n : ℕ) (o : Option Parameter) (e : Expr) → Still e → Still (or_outside (parameter_at span first hides n o) e)
at_still span first hides n None e h = h
at_still span first hides n (Some p) e h = refl

leaf_still : (span : Span) (first : ℕ) (hides : Bool) (ps : List Parameter) (o : Option ℕ) (e : Expr) → Still e → Still (or_outside (parameter_leaf span first hides ps o) e)
leaf_still span first hides ps None e h = h
leaf_still span first hides ps (Some n) e h = at_still span first hides n (slice_get ps n) e h

pub parameters_widen : (g : Names) (first : ℕ) (hides : Bool) (ps : List Parameter) → AreWidened g → AreWidened (with_parameters first hides ps g)
parameters_widen g first hides ps known = record {
  path = λ span path. leaf_still span first hides ps (numbered_maybe (single_name path) ps) (g.path span path) (known.path span path);
  named = known.named;
  itself = known.itself;
  current = known.current;
  member = known.member;
  left_out = known.left_out;
}

pub self_widens : (g : Names) (t : Ty) (s : Standing) → AreWidened g → AreWidened (with_self t s g)
self_widens g t s known = record {
  path = known.path;
  named = known.named;
  itself = λ span. refl;
  current = known.current;
  member = known.member;
  left_out = known.left_out;
}

pub current_widens : (g : Names) (t : Ty) (s : Standing) → AreWidened g → AreWidened (with_current t s g)
current_widens g t s known = record {
  path = known.path;
  named = known.named;
  itself = known.itself;
  current = λ span. refl;
  member = known.member;
  left_out = known.left_out;
}

module _ (list : List Tree) (a : Answers list) (formed_list : list_all is_formed list ≡ true) (unbroken : (x : Fault) → Breaks list x → ⊥) where
  abbrev f : ℕ → Option Ty
  f = told a.types

  abbrev pub t : Typed
  t = typed_of list a

  -- what stands round the expressions of a module
  abbrev pub home : ℕ → Names
  home m = in_module list f (told a.values) (told a.stored) m

  pub home_widens : (m : ℕ) → AreWidened (home m)
  home_widens m = module_widens list (facts list f (told a.values) (told a.stored)) m

  pub home_made : (places : Layout) (locals : List Ty) (unit : Option ℕ) (m : ℕ) → AreMade (round_of t places locals unit) (home m)
  home_made places locals unit m =
      module_made (round_of t places locals unit) list (facts list f (told a.values) (told a.stored)) m (constants_kept list a formed_list unbroken places locals unit) (gives list a formed_list unbroken) (takes list a formed_list unbroken)
      (members_made list a places locals unit)
