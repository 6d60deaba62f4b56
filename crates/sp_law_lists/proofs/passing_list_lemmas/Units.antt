-- The units of a list in which no rule is broken and all is built: their variables pass, and their fields read integers.
use Rattle.std.specs.Prelude.{true, not, ◌++◌}
use Rattle.std.specs.List.{list_all}
use Rattle.std.proofs.Common.{ℕ, ◌≡◌, refl, sym, subst, List, [], ◌∷◌, Option, Some, None, slice_get}
use Rattle.std.proofs.lemmas.Bool.{and_parts}
use Rattle.sp_ast.specs.Trees.{Tree, Trees, absent, row, node, none, more}
use Rattle.sp_ast.specs.declared.forms.Form.TheVariants as form_is
use Rattle.sp_ast.specs.declared.forms.ItemForm.TheVariants as item_is
use Rattle.sp_types.specs.Types.{Ty}
use Rattle.sp_typed.specs.Exprs.{Expr, type_of}
use Rattle.sp_typed.specs.Nodes.{holds, nodes}
use Rattle.sp_typed_units.specs.declared.declarations.Member.{Member}
use Rattle.sp_typed_units.specs.declared.declarations.Variable.{Variable}
use Rattle.sp_type_context.specs.declared.places.Place.TheVariants.{Value}
use Rattle.sp_type_context.specs.Contexts.{Around as Names}
use Rattle.sp_type_context.specs.Typing.{typed, to_target}
use Rattle.sp_type_fields.specs.Attributes.{maybe_typed}
use Rattle.sp_ast.specs.Views.{present}
use Rattle.sp_type_fields.specs.Parts.{Fields}
use Rattle.sp_type_units.specs.Items.{brought, variable_in, variables_in}
use Rattle.sp_rule_lists.specs.Lists.{all_tests, option_tests}
use Rattle.sp_rule_lists.specs.Names.{expr_names, variable_names}
use Rattle.sp_rule_lists.specs.Bodies.{member_type, inside_tests, first_value_tests, variable_tests}
use Rattle.sp_rule_bodies.specs.Known.{Known}
use Rattle.sp_rule_bodies.specs.Values.{target_tests, written_tests}
use Rattle.sp_rule_bodies.specs.ExprTests.{expr_tests}
use Rattle.sp_law_lists.specs.known_types.Full.{is_right}
use Rattle.sp_law_lists.specs.known_types.Clear.{none_hold}
use Rattle.sp_law_lists.specs.known_literals.Widened.{AreWidened}
use Rattle.sp_law_lists.proofs.known_literals_lemmas.Widening.{typed_is}
use Rattle.sp_law_lists.specs.whole_list.Whole.{is_known_if, is_known_variable}
use Rattle.sp_law_lists.proofs.whole_list_lemmas.None.{none_parts, none_all, expr_clear}
use Rattle.sp_law_lists.proofs.known_constants_lemmas.Declarations.{AllOf, both_of}
use Rattle.sp_law_lists.proofs.known_units_lemmas.Values.{target_value}
use Rattle.sp_law_lists.specs.fit_expr.Around.{Around}
use Rattle.sp_law_lists.specs.fit_expr.Test.{expr_passes}
use Rattle.sp_law_lists.specs.known_kinds.Made.{AreMade, IsAsked as CallsAsked, is_built}
use Rattle.sp_law_lists.specs.known_kinds.Kept.{OffsetKept}
use Rattle.sp_law_lists.proofs.known_kinds_lemmas.Making.{typed_made}
use Rattle.sp_law_lists.proofs.known_kinds_lemmas.Operations.{joined, passes}
use Rattle.sp_law_lists.proofs.known_kinds_lemmas.Values.{has_type, no_regex}
use Rattle.sp_law_lists.proofs.known_statements_lemmas.Typing.{Here, here_target}
use Rattle.sp_law_lists.specs.passing_list.Built.{value_built, variable_built}
use Rattle.sp_law_lists.proofs.passing_list_lemmas.Owned.{AreOwned, typed_owned}

-- the value of a variable goes to its type
abbrev IsBrought : Names → Option Expr → Type 0
IsBrought g None = Unit {0}
IsBrought g (Some e) = (t : Ty) × (x : Tree) × (e ≡ to_target t (typed g x))

brought_is : (g : Names) (t : Ty) (o : Option Tree) → IsBrought g (brought t (maybe_typed g o))
brought_is g t None = tt
brought_is g t (Some x) = (t, x, refl)

abbrev VariableIs : Names → Variable → Type 0
VariableIs g v = IsBrought g v.value

variable_is : (g : Names) (fields : Fields) (x : Tree) → AllOf (VariableIs g) (variable_in g fields x)
variable_is g fields (node (form_is.Item item_is.Variable) span (more name (more t (more value none)))) = (brought_is g (g.type_in Value t) (present value), tt)
variable_is g fields (node (form_is.Item item_is.Variable) span none) = tt
variable_is g fields (node (form_is.Item item_is.Variable) span (more name none)) = tt
variable_is g fields (node (form_is.Item item_is.Variable) span (more name (more t none))) = tt
variable_is g fields (node (form_is.Item item_is.Variable) span (more name (more t (more value (more y ys))))) = tt
variable_is g fields (node (form_is.Item form) span ts) = tt
variable_is g fields (node form span ts) = tt
variable_is g fields absent = tt
variable_is g fields (row ts) = tt

pub variables_are : (g : Names) (fields : Fields) (xs : Trees) → AllOf (VariableIs g) (variables_in g fields xs)
variables_are g fields none = tt
variables_are g fields (more x xs) = both_of (VariableIs g) (variable_in g fields x) (variables_in g fields xs) (variable_is g fields x) (variables_are g fields xs)

-- a value that passes, if there is one
abbrev pub ValuePasses : Around → Option Expr → Type 0
ValuePasses around None = Unit {0}
ValuePasses around (Some e) = expr_passes around e ≡ true

abbrev pub VariablePasses : Around → Variable → Type 0
VariablePasses around v = ValuePasses around v.value

module _ (around : Around) (g : Names) (made : AreMade around g) (wide : AreWidened g) (owned : AreOwned around g) (k : Known) (m : ℕ) (asked : CallsAsked around k) (offset : OffsetKept around) where
  value_here : (t : Ty) (x : Tree) → Here around (to_target t (typed g x))
  value_here t x = here_target around t (typed g x) (record { of_form = typed_made around g made x; wide = typed_is g wide x; owned = typed_owned around g made owned x })

  one_passes : (target : Ty) (e : Expr) → Here around e → holds is_built e ≡ true → holds is_right e ≡ true → none_hold (expr_names m e) ≡ true → none_hold (target_tests m target e ++ inside_tests k m e) ≡ true → expr_passes around e ≡ true
  one_passes target e here built right names tests =
      let is = target_value k m target e names tests in
      let clear = expr_clear k m e names (none_all (expr_tests k m) (nodes e) is.tests) in
      passes around k m asked offset e (joined around k m e built here.of_form clear right here.wide here.owned) is.within (no_regex (type_of e) (has_type e is.valued))

  value_passes : (target : Ty) (o : Option Expr) → IsBrought g o → value_built o ≡ true → is_known_if o ≡ true → none_hold (option_tests (expr_names m) o) ≡ true → none_hold (option_tests (first_value_tests k m target) o) ≡ true → ValuePasses around o
  value_passes target None is built right names tests = tt
  value_passes target (Some e) is built right names tests = one_passes target e (subst (Here around) (sym is.2) (value_here is.0 is.1)) built right names tests

  pub each_passes : (members : List Member) (vs : List Variable) → AllOf (VariableIs g) vs → list_all variable_built vs ≡ true → list_all is_known_variable vs ≡ true → none_hold (all_tests (variable_names m) vs) ≡ true → none_hold (all_tests (variable_tests k m members) vs) ≡ true
      → AllOf (VariablePasses around) vs
  each_passes members [] are built known names tests = tt
  each_passes members (v ∷ vs) are built known names tests =
      let target = member_type (slice_get members v.member) in
      let b = and_parts (variable_built v) (list_all variable_built vs) built in
      let r = and_parts (is_known_variable v) (list_all is_known_variable vs) known in
      let n = none_parts (variable_names m v) (all_tests (variable_names m) vs) names in
      let own = and_parts (not v.taken) (none_hold (option_tests (expr_names m) v.value)) n.0 in
      let q = none_parts (variable_tests k m members v) (all_tests (variable_tests k m members) vs) tests in
      let p = none_parts (written_tests m v.written) (option_tests (first_value_tests k m target) v.value) q.0 in
      (value_passes target v.value are.0 b.0 r.0 own.1 p.1, each_passes members vs are.1 b.1 r.1 n.1 q.1)
