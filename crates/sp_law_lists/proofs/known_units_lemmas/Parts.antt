-- The parts, the variables and the byte orders of a unit in which no rule is broken: all is known of them.
use Rattle.std.specs.Prelude.{not, ◌&&◌, map}
use Rattle.std.specs.List.{list_all}
use Rattle.std.proofs.Common.{ℕ, ◌≡◌, ◌<◌, true, refl, sym, subst, List, ◌++◌, length, Option, Some, None, slice_get}
use Rattle.std.proofs.lemmas.Bool.{and_parts, and_from}
use Rattle.sp_base.specs.declared.places.Span.{Span}
use Rattle.sp_ast.specs.Trees.{Tree, Trees, absent, row, node, none, more, span_of}
use Rattle.sp_ast.specs.Slots.{is_formed}
use Rattle.sp_ast.specs.Groups.{is_of, are_of, fits as stands_as}
use Rattle.sp_ast.specs.declared.groups.Group.TheVariants as group_is
use Rattle.sp_ast.specs.declared.groups.Sort.TheVariants as stands
use Rattle.sp_ast.specs.declared.forms.Form.TheVariants as form_is
use Rattle.sp_ast.specs.declared.forms.ExprForm.TheVariants as expr_is
use Rattle.sp_ast.specs.declared.forms.ItemForm.TheVariants as item_is
use Rattle.sp_ast.specs.declared.forms.PartForm.TheVariants as part_is
use Rattle.sp_ast.specs.declared.forms.GuardForm.TheVariants as guard_is
use Rattle.sp_ast.specs.declared.forms.BodyForm.TheVariants as body_is
use Rattle.sp_rules.specs.declared.fault.Fault.{Fault}
use Rattle.sp_types.specs.Types.{Ty}
use Rattle.sp_typed.specs.Exprs.{Expr, exprs, type_of}
use Rattle.sp_typed_units.specs.declared.declarations.Parameter.{Parameter}
use Rattle.sp_typed_units.specs.declared.declarations.Member.{Member}
use Rattle.sp_typed_units.specs.declared.declarations.Unit.{Unit}
use Rattle.sp_typed_units.specs.declared.items.Arm.{Arm}
use Rattle.sp_typed_units.specs.Parts.{Part, Parts, Arms, no_parts, more_parts, parts}
use Rattle.sp_type_operands.specs.declared.operators.OperatorSort.TheVariants as operator_is
use Rattle.sp_type_operands.specs.Operands.{stands_before}
use Rattle.sp_type_operands.specs.Literals.{seen, taken}
use Rattle.sp_type_context.specs.declared.places.Place.TheVariants.{Value}
use Rattle.sp_type_context.specs.Contexts.{Around}
use Rattle.sp_type_context.specs.Typing.{typed, typed_all, to_target}
use Rattle.sp_type_fields.specs.Values.{Values}
use Rattle.sp_type_fields.specs.Attributes.{maybe_typed}
use Rattle.sp_ast.specs.Views.{present}
use Rattle.sp_type_fields.specs.Parts.{Fields, arm_of, field_in, part_of, parts_of, body_of, arms_of}
use Rattle.sp_solver.specs.Told.{told}
use Rattle.sp_names.specs.Types.{or_unknown}
use Rattle.sp_rule_bodies.specs.Known.{Known}
use Rattle.sp_rule_bodies.specs.Values.{value_tests, written_tests}
use Rattle.sp_rule_bodies.specs.StmtTests.{case_tests}
use Rattle.sp_rule_lists.specs.Lists.{all_tests, option_tests}
use Rattle.sp_rule_lists.specs.Names.{expr_names, part_names, parts_names, arms_names, variable_names, order_names}
use Rattle.sp_rule_lists.specs.Bodies.{inside_tests, is_enum_of, order_tests, member_type, first_value_tests, variable_tests}
use Rattle.sp_rule_lists.specs.Fields.{subject_tests, arm_tests, part_tests, parts_tests, arms_tests}
use Rattle.sp_type_modules.specs.Sources.{questions}
use Rattle.sp_rule_units.specs.declared.here.Here.{Here}
use Rattle.sp_rule_units.specs.Readings.{maybe_tests, exprs_tests}
use Rattle.sp_rule_units.specs.Units.{part_tests as part_rules, parts_tests as parts_rules, arms_tests as arms_rules}
use Rattle.sp_type_units.specs.Items.{variable_of, variables_in, orders_in, parts_in}
use Rattle.sp_type_fields.specs.Orders.{order_with}
use Rattle.sp_type_answers.specs.Settled.{Answers}
use Rattle.sp_type_answers.specs.Lists.{typed_of}
use Rattle.sp_type_answers.specs.Rules.{Breaks}
use Rattle.sp_law_lists.specs.known_types.Full.{is_full}
use Rattle.sp_law_lists.specs.known_types.Clear.{none_hold, any_op}
use Rattle.sp_law_lists.proofs.known_types_lemmas.Full.{never}
use Rattle.sp_law_lists.proofs.known_types_lemmas.Kept.{target_holds}
use Rattle.sp_law_lists.specs.whole_list.Whole.{is_known as is_known_value, is_known_if, is_known_part, are_known_parts, are_known_arms, is_known_order, is_known_variable}
use Rattle.sp_law_lists.proofs.whole_list_lemmas.Heads.{parameters_full}
use Rattle.sp_law_lists.proofs.whole_list_lemmas.None.{none_parts}
use Rattle.sp_law_lists.specs.known_constants.Fine.{IsFine, AreFine}
use Rattle.sp_law_lists.specs.known_constants.Given.{asked}
use Rattle.sp_law_lists.proofs.known_constants_lemmas.Fine.{inside as parts_fine, first, rest, formed}
use Rattle.sp_law_lists.proofs.known_constants_lemmas.Named.{tree_told}
use Rattle.sp_law_lists.proofs.unbroken_list_lemmas.Lists.{are_unbroken}
use Rattle.sp_law_lists.specs.known_members.Given.{part_reads, parts_read, arms_read}
use Rattle.sp_law_lists.proofs.known_members_lemmas.Shapes.{field_parts, field_whole}
use Rattle.sp_law_lists.proofs.known_members_lemmas.Contexts.{FullMembers}
use Rattle.sp_law_lists.proofs.known_members_lemmas.Fields.{AllFull, v, last}
use Rattle.sp_law_lists.proofs.known_units_lemmas.Values.{value_known, constant_value, target_value, values_known, compared_known, taken_all, typed_here, tree_here, all_here}
use Rattle.sp_law_lists.proofs.known_units_lemmas.Fields.{maybe_known, field_known}

module _ (list : List Tree) (a : Answers list) (formed_list : list_all is_formed list ≡ true) (unbroken : (x : Fault) → Breaks list x → ⊥) (n m : ℕ) (ps : List Parameter) (full : parameters_full ps ≡ true)
    (any_members : (s : ℕ → Option Ty) → ((i : ℕ) → is_full (or_unknown (s i)) ≡ true) → FullMembers list s) (members : FullMembers list (told a.stored)) (answers : AllFull (told a.stored)) (stored_full : (i : ℕ) → i < length (questions list) → is_full (or_unknown (told a.stored i)) ≡ true)
    (us : List Unit) (d : Here) (fields : Fields) where
  abbrev f : ℕ → Option Ty
  f = told a.types

  abbrev k : Known
  k = asked (typed_of list a)

  abbrev g : Around
  g = last list a formed_list unbroken n m ps

  abbrev worth : Values
  worth = v list a formed_list unbroken n m ps

  abbrev Fine : Tree → Type 0
  Fine x = IsFine list f m x

  abbrev AllFine : Trees → Type 0
  AllFine xs = AreFine list f m xs

  abbrev PartSound : Part → Type 0
  PartSound p = (none_hold (part_tests k m p) ≡ true) × (none_hold (part_names m p) ≡ true) × (part_reads p ≡ true) × (none_hold (part_rules us d p) ≡ true)

  abbrev pub PartsSound : Parts → Type 0
  PartsSound xs = (none_hold (parts_tests k m xs) ≡ true) × (none_hold (parts_names m xs) ≡ true) × (parts_read xs ≡ true) × (none_hold (parts_rules us d xs) ≡ true)

  abbrev ArmsSound : Option Expr → Arms → Type 0
  ArmsSound subject rows = (none_hold (arms_tests k m subject rows) ≡ true) × (none_hold (arms_names m rows) ≡ true) × (arms_read rows ≡ true) × (none_hold (arms_rules us d rows) ≡ true)

  first_sound : (p : Part) (xs : Parts) → PartsSound (more_parts p xs) → PartSound p × PartsSound xs
  first_sound p xs h =
      let x = none_parts (part_tests k m p) (parts_tests k m xs) h.0 in
      let y = none_parts (part_names m p) (parts_names m xs) h.1 in
      let z = and_parts (part_reads p) (parts_read xs) h.2 in
      let w = none_parts (part_rules us d p) (parts_rules us d xs) h.3 in
      ((x.0, y.0, z.0, w.0), (x.1, y.1, z.1, w.1))

  whole_known : (span : Span) (name base : Tree) (counts ts : Trees) (condition sink hooks : Tree) → Fine (node form_is.Field span (field_parts name base counts ts condition sink hooks))
      → PartSound (field_in g worth fields (node form_is.Field span (field_parts name base counts ts condition sink hooks))) → is_known_part (field_in g worth fields (node form_is.Field span (field_parts name base counts ts condition sink hooks))) ≡ true
  whole_known span name base counts ts condition sink hooks h good =
      field_known list a formed_list unbroken n m ps full any_members members answers stored_full us d fields span name base counts ts condition sink hooks h good

  one_field : (x : Tree) → is_of group_is.Fields x ≡ true → Fine x → PartSound (field_in g worth fields x) → is_known_part (field_in g worth fields x) ≡ true
  one_field (node form_is.Field span ws) of h good =
      let w = field_whole ws (formed list f m form_is.Field span ws h) in
      subst (λ xs. Fine (node form_is.Field span xs) → PartSound (field_in g worth fields (node form_is.Field span xs)) → is_known_part (field_in g worth fields (node form_is.Field span xs)) ≡ true) (sym w.is)
      (whole_known span w.name w.base w.counts w.attributes w.condition w.sink w.hooks) h good
  one_field (node _ span ws) of h good = never of
  one_field absent of h good = never of
  one_field (row ws) of h good = never of

  -- what is compared, and with what
  arm_known : (subject : Option Expr) (guard : Tree) → is_of group_is.Guards guard ≡ true → Fine guard → none_hold (arm_tests k m subject (arm_of g subject guard)) ≡ true → none_hold (all_tests (expr_names m) (arm_of g subject guard).values) ≡ true
      → list_all is_known_value (arm_of g subject guard).values ≡ true
  arm_known subject (node (form_is.Guard guard_is.Otherwise) span ts) of h tests names = refl
  arm_known subject (node (form_is.Guard guard_is.LookAhead) span ts) of h tests names = refl
  arm_known None (node (form_is.Guard guard_is.Values) span ts) of h tests names =
      let es = typed_all g ts in
      let p = none_parts (all_tests (value_tests m) es) (all_tests (inside_tests k m) es) tests in
      let holding = all_here list a formed_list unbroken n m ps full members ts (formed list f m (form_is.Guard guard_is.Values) span ts h) (parts_fine list f m (form_is.Guard guard_is.Values) span ts h) in
      values_known k m es holding names p.0 p.1
  arm_known (Some e) (node (form_is.Guard guard_is.Values) span ts) of h tests names =
      let es = map (taken (seen e)) (typed_all g ts) in
      let p = none_parts (case_tests m e (exprs es)) (all_tests (inside_tests k m) es) tests in
      let holding = all_here list a formed_list unbroken n m ps full members ts (formed list f m (form_is.Guard guard_is.Values) span ts h) (parts_fine list f m (form_is.Guard guard_is.Values) span ts h) in
      compared_known k m e es (taken_all k m (seen e) (typed_all g ts) holding) names p.0 p.1
  arm_known subject (node _ span ts) of h tests names = never of
  arm_known subject absent of h tests names = never of
  arm_known subject (row ts) of h tests names = never of

  mutual
    part_known : (x : Tree) → is_of group_is.Parts x ≡ true → Fine x → PartSound (part_of g worth fields x) → is_known_part (part_of g worth fields x) ≡ true
    part_known (node (form_is.Part part_is.Field) at none) of h good = refl
    part_known (node (form_is.Part part_is.Field) at (more x none)) of h good =
        let p = and_parts (is_of group_is.Fields x) true (formed list f m (form_is.Part part_is.Field) at (more x none) h) in
        one_field x p.0 (first list f m x none (parts_fine list f m (form_is.Part part_is.Field) at (more x none) h)) good
    part_known (node (form_is.Part part_is.Field) at (more x (more y z))) of h good = refl
    part_known (node (form_is.Part part_is.Switch) at (more subject (more (row ts) none))) of h good =
        let ws = more subject (more (row ts) none) in
        let subject_ = maybe_typed g (present subject) in
        let rows = arms_of g worth fields subject_ ts in
        let p = and_parts (stands_as (stands.Optional group_is.Expressions) subject) (are_of group_is.Arms ts && true) (formed list f m (form_is.Part part_is.Switch) at ws h) in
        let fine = parts_fine list f m (form_is.Part part_is.Switch) at ws h in
        let x = none_parts (option_tests (subject_tests k m) subject_) (arms_tests k m subject_ rows) good.0 in
        let y = none_parts (option_tests (expr_names m) subject_) (arms_names m rows) good.1 in
        let w = none_parts (maybe_tests us d subject_) (arms_rules us d rows) good.3 in
        and_from (is_known_if subject_) (are_known_arms rows)
        (maybe_known list a formed_list unbroken n m ps full any_members members answers stored_full us d (λ e. stands_before operator_is.Alike (type_of e)) subject p.0 (first list f m subject (more (row ts) none) fine) y.0 x.0)
        (arms_known ts subject_ (and_parts (are_of group_is.Arms ts) true p.1).0 (first list f m (row ts) none (rest list f m subject (more (row ts) none) fine)) (x.1, y.1, good.2, w.1))
    part_known (node (form_is.Part _) at xs) of h good = refl
    part_known (node _ at xs) of h good = never of
    part_known absent of h good = never of
    part_known (row xs) of h good = never of

    all_known : (xs : Trees) → are_of group_is.Parts xs ≡ true → AllFine xs → PartsSound (parts (parts_of g worth fields xs)) → are_known_parts (parts (parts_of g worth fields xs)) ≡ true
    all_known none of h good = refl
    all_known (more x xs) of h good =
        let o = and_parts (is_of group_is.Parts x) (are_of group_is.Parts xs) of in
        let s = first_sound (part_of g worth fields x) (parts (parts_of g worth fields xs)) good in
        and_from (is_known_part (part_of g worth fields x)) (are_known_parts (parts (parts_of g worth fields xs))) (part_known x o.0 (first list f m x xs h) s.0) (all_known xs o.1 (rest list f m x xs h) s.1)

    body_known : (x : Tree) → is_of group_is.Bodies x ≡ true → Fine x → PartsSound (parts (body_of g worth fields x)) → are_known_parts (parts (body_of g worth fields x)) ≡ true
    body_known (node (form_is.Body body_is.One) span none) of h good = refl
    body_known (node (form_is.Body body_is.One) span (more x none)) of h good =
        let p = and_parts (is_of group_is.Parts x) true (formed list f m (form_is.Body body_is.One) span (more x none) h) in
        let s = first_sound (part_of g worth fields x) no_parts good in
        and_from (is_known_part (part_of g worth fields x)) true (part_known x p.0 (first list f m x none (parts_fine list f m (form_is.Body body_is.One) span (more x none) h)) s.0) refl
    body_known (node (form_is.Body body_is.One) span (more x (more y z))) of h good = refl
    body_known (node (form_is.Body body_is.Many) span xs) of h good =
        all_known xs (formed list f m (form_is.Body body_is.Many) span xs h) (parts_fine list f m (form_is.Body body_is.Many) span xs h) good
    body_known (node (form_is.Body body_is.Nothing) span xs) of h good = refl
    body_known (node _ span xs) of h good = never of
    body_known absent of h good = never of
    body_known (row xs) of h good = never of

    arms_known : (xs : Trees) (subject : Option Expr) → are_of group_is.Arms xs ≡ true → AllFine xs → ArmsSound subject (arms_of g worth fields subject xs) → are_known_arms (arms_of g worth fields subject xs) ≡ true
    arms_known none subject of h good = refl
    arms_known (more (node form_is.Arm span (more guard (more body none))) xs) subject of h good =
        let ws = more guard (more body none) in
        let x = node form_is.Arm span ws in
        let fine = first list f m x xs h in
        let inner = parts_fine list f m form_is.Arm span ws fine in
        let p = and_parts (is_of group_is.Guards guard) (is_of group_is.Bodies body && true) (formed list f m form_is.Arm span ws fine) in
        let arm = arm_of g subject guard in
        let ys = parts (body_of g worth fields body) in
        let later = arms_of g worth fields subject xs in
        let i = none_parts (arm_tests k m subject arm) (parts_tests k m ys ++ arms_tests k m subject later) good.0 in
        let j = none_parts (parts_tests k m ys) (arms_tests k m subject later) i.1 in
        let c = none_parts (all_tests (expr_names m) arm.values) (parts_names m ys ++ arms_names m later) good.1 in
        let e = none_parts (parts_names m ys) (arms_names m later) c.1 in
        let z = and_parts (parts_read ys) (arms_read later) good.2 in
        let r = none_parts (exprs_tests us d (exprs arm.values)) (parts_rules us d ys ++ arms_rules us d later) good.3 in
        let s = none_parts (parts_rules us d ys) (arms_rules us d later) r.1 in
        and_from (list_all is_known_value arm.values) (are_known_parts ys && are_known_arms later) (arm_known subject guard p.0 (first list f m guard (more body none) inner) i.0 c.0)
        (and_from (are_known_parts ys) (are_known_arms later) (body_known body (and_parts (is_of group_is.Bodies body) true p.1).0 (first list f m body none (rest list f m guard (more body none) inner)) (j.0, e.0, z.0, s.0))
        (arms_known xs subject of (rest list f m x xs h) (j.1, e.1, z.1, s.1)))
    arms_known (more (node form_is.Arm span none) xs) subject of h good = arms_known xs subject of (rest list f m (node form_is.Arm span none) xs h) good
    arms_known (more (node form_is.Arm span (more guard none)) xs) subject of h good = arms_known xs subject of (rest list f m (node form_is.Arm span (more guard none)) xs h) good
    arms_known (more (node form_is.Arm span (more guard (more body (more y z)))) xs) subject of h good =
        arms_known xs subject of (rest list f m (node form_is.Arm span (more guard (more body (more y z)))) xs h) good
    arms_known (more (node _ span ys) xs) subject of h good = never of
    arms_known (more absent xs) subject of h good = never of
    arms_known (more (row ys) xs) subject of h good = never of

  -- variables
  variable_known : (rows : List Member) (name x value : Tree) → stands_as (stands.Optional group_is.Expressions) value ≡ true → Fine value → none_hold (variable_tests k m rows (variable_of g fields name x (present value))) ≡ true
      → none_hold (variable_names m (variable_of g fields name x (present value))) ≡ true → is_known_variable (variable_of g fields name x (present value)) ≡ true
  variable_known rows name x absent of h tests names = refl
  variable_known rows name x (row ts) of h tests names = never of
  variable_known rows name x (node form span ts) of h tests names =
      let value = node form span ts in
      let var = variable_of g fields name x (Some value) in
      let t = member_type (slice_get rows var.member) in
      let e = to_target (g.type_in Value x) (typed g value) in
      let p = none_parts (written_tests m var.written) (first_value_tests k m t e) tests in
      let n_ = and_parts (not var.taken) (none_hold (expr_names m e)) names in
      value_known k m e (target_holds any_op k m (g.type_in Value x) (typed g value) (typed_here list a formed_list unbroken n m ps full members value of h)) (target_value k m t e n_.1 p.1)

  pub variables_known : (rows : List Member) (xs : Trees) → are_of group_is.Items xs ≡ true → AllFine xs → none_hold (all_tests (variable_tests k m rows) (variables_in g fields xs)) ≡ true → none_hold (all_tests (variable_names m) (variables_in g fields xs)) ≡ true
      → list_all is_known_variable (variables_in g fields xs) ≡ true
  variables_known rows none of h tests names = refl
  variables_known rows (more (node (form_is.Item item_is.Variable) span (more name (more x (more value none)))) xs) of h tests names =
      let ws = more name (more x (more value none)) in
      let u = node (form_is.Item item_is.Variable) span ws in
      let fine = first list f m u xs h in
      let var = variable_of g fields name x (present value) in
      let later = variables_in g fields xs in
      let p = and_parts (is_of group_is.Names name) (is_of group_is.Types x && (stands_as (stands.Optional group_is.Expressions) value && true)) (formed list f m (form_is.Item item_is.Variable) span ws fine) in
      let q = and_parts (is_of group_is.Types x) (stands_as (stands.Optional group_is.Expressions) value && true) p.1 in
      let o = (and_parts (stands_as (stands.Optional group_is.Expressions) value) true q.1).0 in
      let fine_value = first list f m value none (rest list f m x (more value none) (rest list f m name (more x (more value none)) (parts_fine list f m (form_is.Item item_is.Variable) span ws fine))) in
      let y = none_parts (variable_tests k m rows var) (all_tests (variable_tests k m rows) later) tests in
      let z = none_parts (variable_names m var) (all_tests (variable_names m) later) names in
      and_from (is_known_variable var) (list_all is_known_variable later) (variable_known rows name x value o fine_value y.0 z.0) (variables_known rows xs of (rest list f m u xs h) y.1 z.1)
  variables_known rows (more x xs) of h tests names = variables_known rows xs (and_parts (is_of group_is.Items x) (are_of group_is.Items xs) of).1 (rest list f m x xs h) tests names

  -- byte orders
  order_known : (path : Tree) → none_hold (order_names (order_with worth m (g.path (span_of path) path))) ≡ true → none_hold (order_tests k (order_with worth m (g.path (span_of path) path))) ≡ true → is_known_order (order_with worth m (g.path (span_of path) path)) ≡ true
  order_known path names tests =
      let e = g.path (span_of path) path in
      let tree = node (form_is.Expr expr_is.Path) (span_of path) (more path none) in
      let it = are_unbroken list a formed_list unbroken in
      value_known k m e (tree_here list a formed_list unbroken n m ps full members tree (tree_told list f (told a.values) (typed_of list a) it m path)) (constant_value k m (is_enum_of 0 (type_of e)) e names tests)

  pub orders_known : (xs : Trees) → none_hold (all_tests order_names (orders_in g worth m xs)) ≡ true → none_hold (all_tests (order_tests k) (orders_in g worth m xs)) ≡ true → list_all is_known_order (orders_in g worth m xs) ≡ true
  orders_known none names tests = refl
  orders_known (more (node (form_is.Item item_is.ByteOrder) span (more path none)) xs) names tests =
      let o = order_with worth m (g.path (span_of path) path) in
      let later = orders_in g worth m xs in
      let x = none_parts (order_names o) (all_tests order_names later) names in
      let y = none_parts (order_tests k o) (all_tests (order_tests k) later) tests in
      and_from (is_known_order o) (list_all is_known_order later) (order_known path x.0 y.0) (orders_known xs x.1 y.1)
  orders_known (more x xs) names tests = orders_known xs names tests

  -- All that the items of a unit read.
  pub items_known : (xs : Trees) → are_of group_is.Items xs ≡ true → AllFine xs → PartsSound (parts (parts_in g worth fields xs)) → are_known_parts (parts (parts_in g worth fields xs)) ≡ true
  items_known none of h good = refl
  items_known (more (node (form_is.Item item_is.Part) span (more x none)) xs) of h good =
      let u = node (form_is.Item item_is.Part) span (more x none) in
      let fine = first list f m u xs h in
      let p = and_parts (is_of group_is.Parts x) true (formed list f m (form_is.Item item_is.Part) span (more x none) fine) in
      let s = first_sound (part_of g worth fields x) (parts (parts_in g worth fields xs)) good in
      and_from (is_known_part (part_of g worth fields x)) (are_known_parts (parts (parts_in g worth fields xs))) (part_known x p.0 (first list f m x none (parts_fine list f m (form_is.Item item_is.Part) span (more x none) fine)) s.0) (items_known xs of (rest list f m u xs h) s.1)
  items_known (more (node (form_is.Item item_is.Part) span none) xs) of h good = items_known xs of (rest list f m (node (form_is.Item item_is.Part) span none) xs h) good
  items_known (more (node (form_is.Item item_is.Part) span (more x (more y z))) xs) of h good = items_known xs of (rest list f m (node (form_is.Item item_is.Part) span (more x (more y z))) xs h) good
  items_known (more (node (form_is.Item form) span ys) xs) of h good = items_known xs of (rest list f m (node (form_is.Item form) span ys) xs h) good
  items_known (more (node _ span ys) xs) of h good = never of
  items_known (more absent xs) of h good = never of
  items_known (more (row ys) xs) of h good = never of
