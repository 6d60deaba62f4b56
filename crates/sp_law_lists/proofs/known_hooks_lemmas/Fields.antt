-- The fields of a unit of which all is known, and in which no rule is broken: what each stores has a full type, and an element
-- where it has brackets.
use Rattle.std.specs.Prelude.{not, ◌&&◌}
use Rattle.std.specs.List.{list_all}
use Rattle.std.proofs.Common.{ℕ, ◌≡◌, true, sym, ap, subst, ◌∙◌, List, [], ◌++◌, Option, Some, slice_get}
use Rattle.std.proofs.lemmas.Bool.{and_parts}
use Rattle.sp_base.specs.declared.places.Span.{Span}
use Rattle.sp_ast.specs.Trees.{Tree, Trees, absent, row, node, none, more}
use Rattle.sp_ast.specs.Slots.{are_formed}
use Rattle.sp_ast.specs.Groups.{is_of, are_of, fits as stands_as}
use Rattle.sp_ast.specs.declared.groups.Group.TheVariants as group_is
use Rattle.sp_ast.specs.declared.groups.Sort.TheVariants as stands
use Rattle.sp_ast.specs.declared.forms.Form.TheVariants as form_is
use Rattle.sp_ast.specs.declared.forms.ItemForm.TheVariants as item_is
use Rattle.sp_ast.specs.declared.forms.PartForm.TheVariants as part_is
use Rattle.sp_ast.specs.declared.forms.BodyForm.TheVariants as body_is
use Rattle.sp_types.specs.Types.{Ty}
use Rattle.sp_typed.specs.Exprs.{Expr}
use Rattle.sp_typed_units.specs.Parts.{Part, Parts, Arms, no_parts, more_parts, parts}
use Rattle.sp_type_context.specs.Contexts.{Around}
use Rattle.sp_type_fields.specs.Values.{Values}
use Rattle.sp_type_fields.specs.Attributes.{maybe_typed, element_of}
use Rattle.sp_ast.specs.Views.{present}
use Rattle.sp_type_fields.specs.Parts.{Fields, field_of, arm_of, field_in, part_of, parts_of, body_of, arms_of}
use Rattle.sp_type_fields.specs.Readings.{counted_read}
use Rattle.sp_type_fields.specs.Fields.{field_type}
use Rattle.sp_type_units.specs.Items.{parts_in}
use Rattle.sp_rule_bodies.specs.Known.{Known}
use Rattle.sp_rule_lists.specs.Lists.{all_tests, option_tests}
use Rattle.sp_rule_lists.specs.Names.{expr_names, spec_names, part_names, parts_names, arms_names}
use Rattle.sp_rule_lists.specs.Fields.{spec_tests, subject_tests, arm_tests, part_tests, parts_tests, arms_tests}
use Rattle.sp_type_hook_rows.specs.declared.sites.Site.{Site}
use Rattle.sp_type_hook_rows.specs.Sites.{sites_in, sites_among}
use Rattle.sp_type_hook_rows.specs.HookRows.{is_some_tree}
use Rattle.sp_type_hooks.specs.Fields.{element_type, types_in, is_container}
use Rattle.sp_law_lists.specs.known_types.Full.{is_full}
use Rattle.sp_law_lists.specs.known_types.Clear.{none_hold}
use Rattle.sp_law_lists.proofs.known_types_lemmas.Full.{never}
use Rattle.sp_law_lists.specs.whole_list.Whole.{is_known as is_known_value, is_known_if, is_known_part, are_known_parts, are_known_arms}
use Rattle.sp_law_lists.proofs.whole_list_lemmas.None.{none_parts}
use Rattle.sp_law_lists.specs.known_constants.Fine.{IsFine, AreFine}
use Rattle.sp_law_lists.proofs.known_constants_lemmas.Fine.{inside as parts_fine, first, rest, formed}
use Rattle.sp_law_lists.proofs.known_constants_lemmas.Declarations.{AllOf, both_of}
use Rattle.sp_law_lists.specs.known_members.Given.{is_read, part_reads, parts_read, arms_read}
use Rattle.sp_law_lists.proofs.known_members_lemmas.Shapes.{field_parts, field_whole, no_first, no_second}
use Rattle.sp_law_lists.proofs.known_hooks_lemmas.Marks.{SiteFull}

module _ (list : List Tree) (f : ℕ → Option Ty) (m n : ℕ) (g : Around) (v : Values) (fields : Fields) (k : Known) (contexts : List Around) (here : slice_get contexts n ≡ Some g)
    (elements : (x : Tree) (counts : Trees) → is_of group_is.Bases x ≡ true → IsFine list f m x → are_of group_is.Counts counts ≡ true → AreFine list f m counts
    → (none_hold (spec_tests k m (counted_read g v x counts).spec) ≡ true) × (none_hold (spec_names m (counted_read g v x counts).spec) ≡ true) × (is_read (counted_read g v x counts).spec ≡ true)
    → is_some_tree counts ≡ true → is_full (element_of (counted_read g v x counts).ty) ≡ true) where
  abbrev Full : Site → Type 0
  Full s = SiteFull contexts v s

  abbrev Fine : Tree → Type 0
  Fine x = IsFine list f m x

  abbrev AllFine : Trees → Type 0
  AllFine xs = AreFine list f m xs

  abbrev part : Tree → Part
  part x = part_of g v fields x

  abbrev later : Trees → Parts
  later xs = parts (parts_of g v fields xs)

  -- all is known of what is read, and no rule is broken in it
  abbrev PartGood : Part → Type 0
  PartGood p = (is_known_part p ≡ true) × (none_hold (part_tests k m p) ≡ true) × (none_hold (part_names m p) ≡ true) × (part_reads p ≡ true)

  abbrev pub PartsGood : Parts → Type 0
  PartsGood xs = (are_known_parts xs ≡ true) × (none_hold (parts_tests k m xs) ≡ true) × (none_hold (parts_names m xs) ≡ true) × (parts_read xs ≡ true)

  abbrev ArmsGood : Option Expr → Arms → Type 0
  ArmsGood subject rows = (are_known_arms rows ≡ true) × (none_hold (arms_tests k m subject rows) ≡ true) × (none_hold (arms_names m rows) ≡ true) × (arms_read rows ≡ true)

  first_good : (p : Part) (xs : Parts) → PartsGood (more_parts p xs) → PartGood p × PartsGood xs
  first_good p xs h =
      let w = and_parts (is_known_part p) (are_known_parts xs) h.0 in
      let x = none_parts (part_tests k m p) (parts_tests k m xs) h.1 in
      let y = none_parts (part_names m p) (parts_names m xs) h.2 in
      let z = and_parts (part_reads p) (parts_read xs) h.3 in
      ((w.0, x.0, y.0, z.0), (w.1, x.1, y.1, z.1))

  -- what a field stores, and an element of it where it has brackets
  abbrev FieldFull : Tree → Type 0
  FieldFull x = (is_full (field_type g v x) ≡ true) × (is_container x ≡ true → is_full (element_type g v x) ≡ true)

  whole_full : (span : Span) (name base : Tree) (counts ts : Trees) (condition sink hooks : Tree) → Fine (node form_is.Field span (field_parts name base counts ts condition sink hooks))
      → PartGood (field_in g v fields (node form_is.Field span (field_parts name base counts ts condition sink hooks))) → FieldFull (node form_is.Field span (field_parts name base counts ts condition sink hooks))
  whole_full span name base counts ts condition sink hooks h good =
      let optional = stands.Optional group_is.Expressions in
      let ws = field_parts name base counts ts condition sink hooks in
      let at_ends = more condition (more sink (more hooks none)) in
      let ends = stands_as optional condition && (stands_as optional sink && (stands_as (stands.Rows group_is.HookBodies) hooks && true)) in
      let x = field_of g v fields span (present name) (counted_read g v base counts) ts (present condition) (present sink) in
      let r = counted_read g v base counts in
      let at_name = and_parts (stands_as (stands.Optional group_is.Names) name) (is_of group_is.Bases base && (are_of group_is.Counts counts && (are_of group_is.Attributes ts && ends))) (formed list f m form_is.Field span ws h) in
      let at_base = and_parts (is_of group_is.Bases base) (are_of group_is.Counts counts && (are_of group_is.Attributes ts && ends)) at_name.1 in
      let at_counts = and_parts (are_of group_is.Counts counts) (are_of group_is.Attributes ts && ends) at_base.1 in
      let fine = rest list f m name (more base (more (row counts) (more (row ts) at_ends))) (parts_fine list f m form_is.Field span ws h) in
      let fine_base = first list f m base (more (row counts) (more (row ts) at_ends)) fine in
      let fine_counts = first list f m (row counts) (more (row ts) at_ends) (rest list f m base (more (row counts) (more (row ts) at_ends)) fine) in
      let tests = none_parts (spec_tests k m r.spec) _ good.1 in
      let names = none_parts (spec_names m r.spec) _ (and_parts (not x.taken) _ good.2).1 in
      ((and_parts (is_full x.ty) _ good.0).0, λ some. elements base counts at_base.0 fine_base at_counts.0 fine_counts (tests.0, names.0, good.3) some)

  field_full : (x : Tree) → is_of group_is.Fields x ≡ true → Fine x → PartGood (field_in g v fields x) → FieldFull x
  field_full (node form_is.Field span ws) of h good =
      let w = field_whole ws (formed list f m form_is.Field span ws h) in
      subst (λ us. Fine (node form_is.Field span us) → PartGood (field_in g v fields (node form_is.Field span us)) → FieldFull (node form_is.Field span us)) (sym w.is)
      (whole_full span w.name w.base w.counts w.attributes w.condition w.sink w.hooks) h good
  field_full (node _ span ws) of h good = never of
  field_full absent of h good = never of
  field_full (row ws) of h good = never of

  mutual
    part_full : (x : Tree) → is_of group_is.Parts x ≡ true → Fine x → PartGood (part x) → AllOf Full (sites_in m n x)
    part_full (node (form_is.Part part_is.Field) at none) of h known = tt
    part_full (node (form_is.Part part_is.Field) at (more x none)) of h known =
        let p = and_parts (is_of group_is.Fields x) true (formed list f m (form_is.Part part_is.Field) at (more x none) h) in
        let full = field_full x p.0 (first list f m x none (parts_fine list f m (form_is.Part part_is.Field) at (more x none) h)) known in
        ((ap (λ o. is_full (types_in o v x).stored) here ∙ full.0, λ some. ap (λ o. is_full (types_in o v x).element) here ∙ full.1 some), tt)
    part_full (node (form_is.Part part_is.Field) at (more x (more y us))) of h known = no_first (is_of group_is.Fields x) (are_formed (more x (more y us))) h.0
    part_full (node (form_is.Part part_is.Switch) at none) of h known = tt
    part_full (node (form_is.Part part_is.Switch) at (more subject none)) of h known = tt
    part_full (node (form_is.Part part_is.Switch) at (more subject (more (row ts) none))) of h known =
        let ws = more subject (more (row ts) none) in
        let subject_ = maybe_typed g (present subject) in
        let p = and_parts (stands_as (stands.Optional group_is.Expressions) subject) (are_of group_is.Arms ts && true) (formed list f m (form_is.Part part_is.Switch) at ws h) in
        let fine = first list f m (row ts) none (rest list f m subject (more (row ts) none) (parts_fine list f m (form_is.Part part_is.Switch) at ws h)) in
        let rows = arms_of g v fields subject_ ts in
        let c = and_parts (is_known_if subject_) (are_known_arms rows) known.0 in
        let x = none_parts (option_tests (subject_tests k m) subject_) (arms_tests k m subject_ rows) known.1 in
        let y = none_parts (option_tests (expr_names m) subject_) (arms_names m rows) known.2 in
        arms_full ts subject_ (and_parts (are_of group_is.Arms ts) true p.1).0 fine (c.1, x.1, y.1, known.3)
    part_full (node (form_is.Part part_is.Switch) at (more subject (more (row ts) (more y us)))) of h known =
        no_second (stands_as (stands.Optional group_is.Expressions) subject) (are_of group_is.Arms ts) (are_formed (more subject (more (row ts) (more y us)))) h.0
    part_full (node (form_is.Part part_is.Switch) at (more subject (more absent us))) of h known = tt
    part_full (node (form_is.Part part_is.Switch) at (more subject (more (node form span ts) us))) of h known = tt
    part_full (node _ at us) of h known = never of
    part_full absent of h known = never of
    part_full (row us) of h known = never of

    all_full : (xs : Trees) → are_of group_is.Parts xs ≡ true → AllFine xs → PartsGood (later xs) → AllOf Full (sites_among m n xs)
    all_full none of h known = tt
    all_full (more x xs) of h known =
        let o = and_parts (is_of group_is.Parts x) (are_of group_is.Parts xs) of in
        let q = first_good (part x) (later xs) known in
        both_of Full (sites_in m n x) (sites_among m n xs) (part_full x o.0 (first list f m x xs h) q.0) (all_full xs o.1 (rest list f m x xs h) q.1)

    body_full : (x : Tree) → is_of group_is.Bodies x ≡ true → Fine x → PartsGood (parts (body_of g v fields x)) → AllOf Full (sites_in m n x)
    body_full (node (form_is.Body body_is.One) span none) of h known = tt
    body_full (node (form_is.Body body_is.One) span (more x none)) of h known =
        let p = and_parts (is_of group_is.Parts x) true (formed list f m (form_is.Body body_is.One) span (more x none) h) in
        let q = first_good (part x) no_parts known in
        both_of Full (sites_in m n x) [] (part_full x p.0 (first list f m x none (parts_fine list f m (form_is.Body body_is.One) span (more x none) h)) q.0) tt
    body_full (node (form_is.Body body_is.One) span (more x (more y us))) of h known = no_first (is_of group_is.Parts x) (are_formed (more x (more y us))) h.0
    body_full (node (form_is.Body body_is.Many) span xs) of h known =
        all_full xs (formed list f m (form_is.Body body_is.Many) span xs h) (parts_fine list f m (form_is.Body body_is.Many) span xs h) known
    body_full (node (form_is.Body body_is.Nothing) span xs) of h known = tt
    body_full (node _ span us) of h known = never of
    body_full absent of h known = never of
    body_full (row us) of h known = never of

    arms_full : (xs : Trees) (subject : Option Expr) → are_of group_is.Arms xs ≡ true → AllFine xs → ArmsGood subject (arms_of g v fields subject xs) → AllOf Full (sites_among m n xs)
    arms_full none subject of h known = tt
    arms_full (more (node form_is.Arm span none) xs) subject of h known = never (first list f m (node form_is.Arm span none) xs h).0
    arms_full (more (node form_is.Arm span (more guard none)) xs) subject of h known =
        no_first (is_of group_is.Guards guard) (are_formed (more guard none)) (first list f m (node form_is.Arm span (more guard none)) xs h).0
    arms_full (more (node form_is.Arm span (more guard (more body none))) xs) subject of h known =
        let ws = more guard (more body none) in
        let x = node form_is.Arm span ws in
        let fine = first list f m x xs h in
        let p = and_parts (is_of group_is.Guards guard) (is_of group_is.Bodies body && true) (formed list f m form_is.Arm span ws fine) in
        let q = first list f m body none (rest list f m guard (more body none) (parts_fine list f m form_is.Arm span ws fine)) in
        let arm = arm_of g subject guard in
        let ys = parts (body_of g v fields body) in
        let behind = arms_of g v fields subject xs in
        let c = and_parts (list_all is_known_value arm.values) (are_known_parts ys && are_known_arms behind) known.0 in
        let e = and_parts (are_known_parts ys) (are_known_arms behind) c.1 in
        let i = none_parts (arm_tests k m subject arm) (parts_tests k m ys ++ arms_tests k m subject behind) known.1 in
        let j = none_parts (parts_tests k m ys) (arms_tests k m subject behind) i.1 in
        let u = none_parts (all_tests (expr_names m) arm.values) (parts_names m ys ++ arms_names m behind) known.2 in
        let w = none_parts (parts_names m ys) (arms_names m behind) u.1 in
        let z = and_parts (parts_read ys) (arms_read behind) known.3 in
        both_of Full (sites_in m n x) (sites_among m n xs) (body_full body (and_parts (is_of group_is.Bodies body) true p.1).0 q (e.0, j.0, w.0, z.0)) (arms_full xs subject of (rest list f m x xs h) (e.1, j.1, w.1, z.1))
    arms_full (more (node form_is.Arm span (more guard (more body (more y us)))) xs) subject of h known =
        no_second (is_of group_is.Guards guard) (is_of group_is.Bodies body) (are_formed (more guard (more body (more y us)))) (first list f m (node form_is.Arm span (more guard (more body (more y us)))) xs h).0
    arms_full (more (node _ span us) xs) subject of h known = never of
    arms_full (more absent xs) subject of h known = never of
    arms_full (more (row us) xs) subject of h known = never of

  pub items_full : (xs : Trees) → are_of group_is.Items xs ≡ true → AllFine xs → PartsGood (parts (parts_in g v fields xs)) → AllOf Full (sites_among m n xs)
  items_full none of h known = tt
  items_full (more (node (form_is.Item item_is.On) span us) xs) of h known = (tt, items_full xs of (rest list f m (node (form_is.Item item_is.On) span us) xs h) known)
  items_full (more (node (form_is.Item item_is.Part) span none) xs) of h known = never (first list f m (node (form_is.Item item_is.Part) span none) xs h).0
  items_full (more (node (form_is.Item item_is.Part) span (more x none)) xs) of h known =
      let u = node (form_is.Item item_is.Part) span (more x none) in
      let fine = first list f m u xs h in
      let p = and_parts (is_of group_is.Parts x) true (formed list f m (form_is.Item item_is.Part) span (more x none) fine) in
      let q = first_good (part x) (parts (parts_in g v fields xs)) known in
      both_of Full (sites_in m n x) (sites_among m n xs) (part_full x p.0 (first list f m x none (parts_fine list f m (form_is.Item item_is.Part) span (more x none) fine)) q.0)
      (items_full xs of (rest list f m u xs h) q.1)
  items_full (more (node (form_is.Item item_is.Part) span (more x (more y us))) xs) of h known =
      no_first (is_of group_is.Parts x) (are_formed (more x (more y us))) (first list f m (node (form_is.Item item_is.Part) span (more x (more y us))) xs h).0
  items_full (more (node (form_is.Item form) span us) xs) of h known = items_full xs of (rest list f m (node (form_is.Item form) span us) xs h) known
  items_full (more (node _ span us) xs) of h known = never of
  items_full (more absent xs) of h known = never of
  items_full (more (row us) xs) of h known = never of
