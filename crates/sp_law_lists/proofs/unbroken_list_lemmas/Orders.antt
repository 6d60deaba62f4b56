-- All is known of the byte orders of the modules of a list in which no rule is broken.
use Rattle.std.specs.Prelude.{not}
use Rattle.std.specs.List.{list_all}
use Rattle.std.proofs.Common.{ℕ, ◌≡◌, Bool, true, ◌&&◌, refl, List, [], ◌∷◌, ◌++◌, Option}
use Rattle.std.proofs.lemmas.Bool.{and_parts, and_from, not-true}
use Rattle.sp_base.specs.declared.places.Span.{Span}
use Rattle.sp_ast.specs.Trees.{Tree, absent, row, node, none, more, span_of}
use Rattle.sp_ast.specs.Slots.{is_formed}
use Rattle.sp_ast.specs.declared.forms.Form.TheVariants as form_is
use Rattle.sp_ast.specs.declared.forms.ExprForm.TheVariants as expr_is
use Rattle.sp_ast.specs.declared.forms.DeclForm.TheVariants as decl_is
use Rattle.sp_rules.specs.declared.fault.Fault.{Fault}
use Rattle.sp_types.specs.Types.{Ty}
use Rattle.sp_typed.specs.Exprs.{type_of, span_of as place_of}
use Rattle.sp_typed.specs.Nodes.{holds}
use Rattle.sp_typed_units.specs.declared.declarations.OrderProperty.{OrderProperty}
use Rattle.sp_solver.specs.Told.{told}
use Rattle.sp_type_context.specs.Contexts.{Around}
use Rattle.sp_type_fields.specs.Values.{Values}
use Rattle.sp_names.specs.declared.rows.Declaration.{Declaration}
use Rattle.sp_names.specs.declared.sort.DeclSort.{DeclSort}
use Rattle.sp_names.specs.declared.sort.DeclSort.TheVariants as sort_is
use Rattle.sp_names.specs.declared.sort.Meaning.{Meaning}
use Rattle.sp_names.specs.declared.sort.Meaning.TheVariants as meaning_is
use Rattle.sp_names.specs.Declarations.{rows, sort_at}
use Rattle.sp_names.specs.Names.{path_means}
use Rattle.sp_type_modules.specs.Arounds.{stored_by, declared_at, meaning_at, slice_of}
use Rattle.sp_type_operands.specs.Literals.{is_past}
use Rattle.sp_rule_bodies.specs.Known.{Known}
use Rattle.sp_rules.specs.declared.rule.Rule.TheVariants as rule_is
use Rattle.sp_rule_bodies.specs.Values.{is_no_value, wrong, right_tests}
use Rattle.sp_rules.specs.Faults.{at}
use Rattle.sp_rule_bodies.specs.ExprTests.{is_not_constant}
use Rattle.sp_rule_lists.specs.Lists.{all_tests}
use Rattle.sp_rule_lists.specs.Told.{values_of}
use Rattle.sp_rule_lists.specs.Names.{order_names}
use Rattle.sp_rule_lists.specs.Bodies.{inside_tests, is_enum_of, order_tests}
use Rattle.sp_type_values.specs.Answers.{constant_type, number_of, values}
use Rattle.sp_type_list_context.specs.Contexts.{facts, in_module}
use Rattle.sp_type_answers.specs.Settled.{Answers}
use Rattle.sp_type_answers.specs.Lists.{typed_of}
use Rattle.sp_type_declarations.specs.FunctionsAndOrders.{declared_order, orders_among}
use Rattle.sp_type_fields.specs.Orders.{order_of}
use Rattle.sp_type_answers.specs.Rules.{Breaks}
use Rattle.sp_law_lists.specs.known_types.Clear.{none_hold, may_stand}
use Rattle.sp_law_lists.specs.known_types.Given.{IsKnown}
use Rattle.sp_law_lists.proofs.known_types_lemmas.Tests.{value_of, whole_of}
use Rattle.sp_law_lists.proofs.known_types_lemmas.Typed.{typed_holds}
use Rattle.sp_law_lists.specs.whole_list.Types.{is_type}
use Rattle.sp_law_lists.specs.whole_list.Whole.{is_known, is_known_order}
use Rattle.sp_law_lists.proofs.whole_list_lemmas.None.{none_parts, expr_named}
use Rattle.sp_law_lists.proofs.whole_list_lemmas.Modules.{member_op, paths_known}
use Rattle.sp_law_lists.proofs.whole_list_lemmas.Decided.{decides}
use Rattle.sp_law_lists.specs.known_constants.Good.{constant_op, is_told}
use Rattle.sp_law_lists.specs.known_constants.Given.{asked}
use Rattle.sp_law_lists.proofs.known_constants_lemmas.Clear.{all_clear}
use Rattle.sp_law_lists.proofs.known_constants_lemmas.Paths.{no_member, path_named, list_told}
use Rattle.sp_law_lists.proofs.known_constants_lemmas.Named.{tree_told}
use Rattle.sp_law_lists.proofs.unbroken_list_lemmas.Split.{are_named, are_asked}
use Rattle.sp_law_lists.proofs.unbroken_list_lemmas.Lists.{all_types, all_results, are_unbroken}

-- paths take no members
declared_stands : (list : List Tree) (f : ℕ → Option Ty) (constant : ℕ → Ty) (span : Span) (g : ℕ) (s : DeclSort) → holds (may_stand constant_op) (declared_at list f constant span g s) ≡ true
declared_stands list f constant span g sort_is.Constant = refl
declared_stands list f constant span g sort_is.Function = refl
declared_stands list f constant span g _ = refl

meaning_stands : (list : List Tree) (f : ℕ → Option Ty) (constant : ℕ → Ty) (span : Span) (path : Tree) (w : Meaning) → holds (may_stand constant_op) (meaning_at list f constant span path w) ≡ true
meaning_stands list f constant span path (meaning_is.Declaration g) = declared_stands list f constant span g (sort_at list g)
meaning_stands list f constant span path (meaning_is.LibraryEnum n) = refl
meaning_stands list f constant span path (meaning_is.Label owner n) = refl
meaning_stands list f constant span path meaning_is.Decoder = refl
meaning_stands list f constant span path (meaning_is.Nothing n) = refl

module _ (list : List Tree) (a : Answers list) (formed : list_all is_formed list ≡ true) (unbroken : (x : Fault) → Breaks list x → ⊥) where
  abbrev k : Known
  k = asked (typed_of list a)

  abbrev home : ℕ → Around
  home m = in_module list (told a.types) (told a.values) (told a.stored) m

  paths_are_known : (m : ℕ) → IsKnown (home m) constant_op k m (is_type list (told a.types) m) (is_told list (told a.types) (told a.values) m)
  paths_are_known m =
      let f = told a.types in
      let known = told a.values in
      let t = typed_of list a in
      let it = are_unbroken list a formed unbroken in
      let stored = stored_by list (told a.stored) in
      paths_known list (facts list f known (told a.stored)) constant_op k m m (is_told list f known m) (all_types list a formed unbroken)
      (λ u name found e may. no_member found.op (member_op list stored u name found e) may)
      (λ span path is. path_named list f known (all_results list a formed unbroken) m span path is)
      (decides t (values_of t) [] constant_op m (is_type list f m) (is_told list f known m) (home m) (list_told list f known it.settled t refl refl constant_op k m m stored (number_of list f known)))

  abbrev worth : Values
  worth = values list (told a.types) (told a.values)

  order_known : (m : ℕ) (path : Tree) → none_hold (order_names (order_of (home m) worth m path)) ≡ true → none_hold (order_tests k (order_of (home m) worth m path)) ≡ true → is_known ((home m).path (span_of path) path) ≡ true
  order_known m path names tests =
      let f = told a.types in
      let known = told a.values in
      let e = (home m).path (span_of path) path in
      let w = wrong m (is_enum_of 0 (type_of e)) e in
      let constant_ : Bool × Fault = (is_not_constant (k.constancy e), at m rule_is.NotConstant (place_of e)) in
      let p = none_parts (right_tests m (is_enum_of 0 (type_of e)) e) (constant_ ∷ inside_tests k m e) tests in
      let valued = and_parts (not (is_no_value e)) (not (is_past e) && (not w.0 && true)) p.0 in
      let within = and_parts (not (is_past e)) (not w.0 && true) valued.1 in
      let inside = (and_parts (not constant_.0) (none_hold (inside_tests k m e)) p.1).1 in
      let clear = all_clear constant_op k m e (expr_named m e names) (meaning_stands list f (constant_type list f known) (slice_of list (span_of path) path (path_means list f m path)) path (path_means list f m path)) inside in
      let tree = node (form_is.Expr expr_is.Path) (span_of path) (more path none) in
      let holding = typed_holds (home m) constant_op k m (is_type list f m) (is_told list f known m) (paths_are_known m) tree (tree_told list f known (typed_of list a) (are_unbroken list a formed unbroken) m path) in
      whole_of e (value_of constant_op k m e holding clear (not-true (is_no_value e) valued.0) (not-true (is_past e) within.0))

  -- the byte orders of some declarations
  abbrev orders_in : List Declaration → List OrderProperty
  orders_in ds = orders_among list (told a.types) (told a.values) (told a.stored) ds

  abbrev Known_ : Tree → ℕ → List Declaration → Type 0
  Known_ t m ds =
      none_hold (all_tests order_names (declared_order list (told a.types) (told a.values) (told a.stored) m t ++ orders_in ds)) ≡ true → none_hold (all_tests (order_tests k) (declared_order list (told a.types) (told a.values) (told a.stored) m t ++ orders_in ds)) ≡ true
      → (none_hold (all_tests order_names (orders_in ds)) ≡ true → none_hold (all_tests (order_tests k) (orders_in ds)) ≡ true → list_all is_known_order (orders_in ds) ≡ true)
      → list_all is_known_order (declared_order list (told a.types) (told a.values) (told a.stored) m t ++ orders_in ds) ≡ true

  declared_known : (t : Tree) (m : ℕ) (ds : List Declaration) → Known_ t m ds
  declared_known (node (form_is.Decl decl_is.ByteOrder) span (more path ts)) m ds names tests rest =
      let o = order_of (home m) worth m path in
      let x = none_parts (order_names o) (all_tests order_names (orders_in ds)) names in
      let y = none_parts (order_tests k o) (all_tests (order_tests k) (orders_in ds)) tests in
      and_from (is_known_order o) (list_all is_known_order (orders_in ds)) (order_known m path x.0 y.0) (rest x.1 y.1)
  declared_known (node (form_is.Decl decl_is.ByteOrder) span none) m ds names tests rest = rest names tests
  declared_known (node (form_is.Decl _) span ts) m ds names tests rest = rest names tests
  declared_known (node _ span ts) m ds names tests rest = rest names tests
  declared_known absent m ds names tests rest = rest names tests
  declared_known (row ts) m ds names tests rest = rest names tests

  orders_known : (ds : List Declaration) → none_hold (all_tests order_names (orders_in ds)) ≡ true → none_hold (all_tests (order_tests k) (orders_in ds)) ≡ true → list_all is_known_order (orders_in ds) ≡ true
  orders_known [] names tests = refl
  orders_known (d ∷ ds) names tests = declared_known d.tree d.«module» ds names tests (λ x y. orders_known ds x y)

  -- All byte orders of modules are known.
  pub all_orders_known : list_all is_known_order (typed_of list a).orders ≡ true
  all_orders_known = orders_known (rows list) (are_named list a unbroken).orders (are_asked list a unbroken).orders
