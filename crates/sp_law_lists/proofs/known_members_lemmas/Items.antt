-- The members that a unit declares: each has its type from a variable, a sink or a field in which no rule is broken.
use Rattle.std.specs.Prelude.{not, ◌&&◌, if◌then◌else◌, filter, slice_get}
use Rattle.std.specs.List.{list_all}
use Rattle.std.proofs.Common.{ℕ, ◌≡◌, Bool, true, false, refl, sym, subst, List, [], ◌∷◌, ◌++◌, Option}
use Rattle.std.proofs.lemmas.Bool.{and_parts}
use Rattle.sp_base.specs.declared.places.Span.{Span}
use Rattle.sp_ast.specs.Trees.{Tree, Trees, absent, row, node, none, more}
use Rattle.sp_ast.specs.Slots.{is_formed, are_formed}
use Rattle.sp_ast.specs.Groups.{is_of, are_of, fits as stands_as}
use Rattle.sp_ast.specs.declared.groups.Group.TheVariants as group_is
use Rattle.sp_ast.specs.declared.groups.Sort.TheVariants as stands
use Rattle.sp_ast.specs.declared.forms.Form.TheVariants as form_is
use Rattle.sp_ast.specs.declared.forms.ItemForm.TheVariants as item_is
use Rattle.sp_ast.specs.declared.forms.PartForm.TheVariants as part_is
use Rattle.sp_ast.specs.declared.forms.BodyForm.TheVariants as body_is
use Rattle.sp_rules.specs.declared.fault.Fault.{Fault}
use Rattle.sp_types.specs.Types.{Ty}
use Rattle.sp_typed.specs.Exprs.{Expr}
use Rattle.sp_typed_units.specs.declared.declarations.Parameter.{Parameter}
use Rattle.sp_typed_units.specs.declared.declarations.Member.{Member}
use Rattle.sp_typed_units.specs.Parts.{Part, Parts, Arms, field, no_parts, more_parts, parts}
use Rattle.sp_type_context.specs.Contexts.{Around}
use Rattle.sp_type_fields.specs.Values.{Values}
use Rattle.sp_type_fields.specs.Attributes.{maybe_typed}
use Rattle.sp_ast.specs.Views.{present}
use Rattle.sp_type_fields.specs.Parts.{Fields, arm_of, field_in, part_of, parts_of, body_of, arms_of}
use Rattle.sp_solver.specs.Told.{told}
use Rattle.sp_names.specs.Types.{or_unknown, mentions_in}
use Rattle.sp_type_context.specs.declared.places.Place.TheVariants as place_is
use Rattle.sp_rule_bodies.specs.Known.{Known}
use Rattle.sp_rule_bodies.specs.Values.{written_tests}
use Rattle.sp_rule_lists.specs.Lists.{all_tests, option_tests}
use Rattle.sp_rule_lists.specs.Names.{expr_names, part_names, parts_names, arms_names}
use Rattle.sp_rule_lists.specs.Bodies.{member_type, variable_tests}
use Rattle.sp_rule_lists.specs.Fields.{subject_tests, arm_tests, part_tests, parts_tests, arms_tests}
use Rattle.sp_type_modules.specs.declared.sources.Source.{Source}
use Rattle.sp_type_modules.specs.declared.sources.Source.TheVariants as source_is
use Rattle.sp_type_modules.specs.Sources.{Named, field_named, declared_in, declared_among, has_name, firsts, sources_of}
use Rattle.sp_type_units.specs.Items.{variable_of, variables_in, parts_in}
use Rattle.sp_type_answers.specs.Settled.{Answers}
use Rattle.sp_type_answers.specs.Lists.{typed_of}
use Rattle.sp_type_answers.specs.Rules.{Breaks}
use Rattle.sp_law_lists.specs.known_types.Full.{is_full}
use Rattle.sp_law_lists.specs.known_types.Clear.{none_hold}
use Rattle.sp_law_lists.proofs.known_types_lemmas.Full.{never}
use Rattle.sp_law_lists.proofs.whole_list_lemmas.Heads.{parameters_full}
use Rattle.sp_law_lists.proofs.whole_list_lemmas.None.{none_parts}
use Rattle.sp_law_lists.proofs.whole_list_lemmas.Types.{type_full, each_has}
use Rattle.sp_law_lists.proofs.whole_list_lemmas.Functions.{placed}
use Rattle.sp_law_lists.specs.known_constants.Fine.{IsFine, AreFine}
use Rattle.sp_law_lists.specs.known_constants.Given.{asked}
use Rattle.sp_law_lists.proofs.known_constants_lemmas.Fine.{inside as parts_fine, first, rest, formed, type_fine}
use Rattle.sp_law_lists.proofs.known_constants_lemmas.Declarations.{AllOf, both_of}
use Rattle.sp_law_lists.proofs.unbroken_list_lemmas.Lists.{all_types}
use Rattle.sp_law_lists.specs.known_members.Given.{part_reads, parts_read, arms_read}
use Rattle.sp_law_lists.proofs.known_members_lemmas.Shapes.{no_first, no_second, no_third, field_parts, field_whole}
use Rattle.sp_law_lists.proofs.known_members_lemmas.Contexts.{FullMembers}
use Rattle.sp_law_lists.proofs.known_members_lemmas.Fields.{v, last, IsSound, field_sound}

-- the first of each name
abbrev pub NamedAs : (Source → Type 0) → Named → Type 0
NamedAs P d = P d.source

filtered : {A : Type 0} (P : A → Type 0) (p : A → Bool) (xs : List A) → AllOf P xs → AllOf P (filter p xs)
filtered P p [] h = tt
filtered {A} P p (x ∷ xs) h = by (p x) (filtered P p xs h.1)
  where
    by : (b : Bool) → AllOf P (filter p xs) → AllOf P (if b then x ∷ filter p xs else filter p xs)
    by true behind = (h.0, behind)
    by false behind = behind

firsts_all : (P : Named → Type 0) (ds : List Named) → AllOf P ds → AllOf P (firsts ds)
firsts_all P [] h = tt
firsts_all P (d ∷ ds) h = (h.0, filtered P (λ e. not (has_name e.name d)) (firsts ds) (firsts_all P ds h.1))

sources_all : (P : Source → Type 0) (ds : List Named) → AllOf (NamedAs P) ds → AllOf P (sources_of ds)
sources_all P [] h = tt
sources_all P (d ∷ ds) h = (h.0, sources_all P ds h.1)

pub first_sources : (P : Source → Type 0) (ds : List Named) → AllOf (NamedAs P) ds → AllOf P (sources_of (firsts ds))
first_sources P ds h = sources_all P (firsts ds) (firsts_all (NamedAs P) ds h)

module _ (list : List Tree) (a : Answers list) (formed_list : list_all is_formed list ≡ true) (unbroken : (x : Fault) → Breaks list x → ⊥) (n m : ℕ) (ps : List Parameter) (full : parameters_full ps ≡ true)
    (members : (s : ℕ → Option Ty) → ((i : ℕ) → is_full (or_unknown (s i)) ≡ true) → FullMembers list s) (fields : Fields) where
  abbrev f : ℕ → Option Ty
  f = told a.types

  abbrev k : Known
  k = asked (typed_of list a)

  abbrev worth : Values
  worth = v list a formed_list unbroken n m ps

  abbrev round_unit : Around
  round_unit = last list a formed_list unbroken n m ps

  abbrev pub IsGood : Source → Type 0
  IsGood s = IsSound list a formed_list unbroken n m ps s

  abbrev Good : Named → Type 0
  Good d = NamedAs IsGood d

  abbrev Fine : Tree → Type 0
  Fine x = IsFine list f m x

  abbrev AllFine : Trees → Type 0
  AllFine ts = AreFine list f m ts

  -- parts in which no rule is broken
  abbrev PartGood : Part → Type 0
  PartGood p = (none_hold (part_tests k m p) ≡ true) × (none_hold (part_names m p) ≡ true) × (part_reads p ≡ true)

  abbrev pub PartsGood : Parts → Type 0
  PartsGood xs = (none_hold (parts_tests k m xs) ≡ true) × (none_hold (parts_names m xs) ≡ true) × (parts_read xs ≡ true)

  abbrev ArmsGood : Option Expr → Arms → Type 0
  ArmsGood subject rows = (none_hold (arms_tests k m subject rows) ≡ true) × (none_hold (arms_names m rows) ≡ true) × (arms_read rows ≡ true)

  first_good : (p : Part) (xs : Parts) → PartsGood (more_parts p xs) → PartGood p × PartsGood xs
  first_good p xs h =
      let x = none_parts (part_tests k m p) (parts_tests k m xs) h.0 in
      let y = none_parts (part_names m p) (parts_names m xs) h.1 in
      let z = and_parts (part_reads p) (parts_read xs) h.2 in
      ((x.0, y.0, z.0), (x.1, y.1, z.1))

  -- a field
  named_good : (span : Span) (name base : Tree) (counts ts : Trees) (condition sink hooks : Tree) → IsGood (source_is.Field (node form_is.Field span (field_parts name base counts ts condition sink hooks))) → AllOf Good (field_named (node form_is.Field span (field_parts name base counts ts condition sink hooks)))
  named_good span (node (form_is.Name x) s us) base counts ts condition sink hooks h = (h, tt)
  named_good span (node _ s us) base counts ts condition sink hooks h = tt
  named_good span absent base counts ts condition sink hooks h = tt
  named_good span (row us) base counts ts condition sink hooks h = tt

  field_whole_good : (span : Span) (name base : Tree) (counts ts : Trees) (condition sink hooks : Tree) → Fine (node form_is.Field span (field_parts name base counts ts condition sink hooks))
      → PartGood (field_in round_unit worth fields (node form_is.Field span (field_parts name base counts ts condition sink hooks))) → AllOf Good (field_named (node form_is.Field span (field_parts name base counts ts condition sink hooks)))
  field_whole_good span name base counts ts condition sink hooks h good =
      named_good span name base counts ts condition sink hooks (field_sound list a formed_list unbroken n m ps full members fields span name base counts ts condition sink hooks h good)

  field_good : (x : Tree) → is_of group_is.Fields x ≡ true → Fine x → PartGood (field_in round_unit worth fields x) → AllOf Good (field_named x)
  field_good (node form_is.Field span ws) of h good =
      let w = field_whole ws (formed list f m form_is.Field span ws h) in
      subst (λ us. Fine (node form_is.Field span us) → PartGood (field_in round_unit worth fields (node form_is.Field span us)) → AllOf Good (field_named (node form_is.Field span us))) (sym w.is)
      (field_whole_good span w.name w.base w.counts w.attributes w.condition w.sink w.hooks) h good
  field_good (node _ span ws) of h good = never of
  field_good absent of h good = never of
  field_good (row ws) of h good = never of

  -- what stands in switches
  mutual
    part_good : (x : Tree) → is_of group_is.Parts x ≡ true → Fine x → PartGood (part_of round_unit worth fields x) → AllOf Good (declared_in x)
    part_good (node (form_is.Part part_is.Field) at none) of h good = tt
    part_good (node (form_is.Part part_is.Field) at (more x none)) of h good =
        let p = and_parts (is_of group_is.Fields x) true (formed list f m (form_is.Part part_is.Field) at (more x none) h) in
        field_good x p.0 (first list f m x none (parts_fine list f m (form_is.Part part_is.Field) at (more x none) h)) good
    part_good (node (form_is.Part part_is.Field) at (more x (more y us))) of h good = no_first (is_of group_is.Fields x) (are_formed (more x (more y us))) h.0
    part_good (node (form_is.Part part_is.Switch) at none) of h good = tt
    part_good (node (form_is.Part part_is.Switch) at (more subject none)) of h good = tt
    part_good (node (form_is.Part part_is.Switch) at (more subject (more (row ts) none))) of h good =
        let ws = more subject (more (row ts) none) in
        let subject_ = maybe_typed round_unit (present subject) in
        let p = and_parts (stands_as (stands.Optional group_is.Expressions) subject) (are_of group_is.Arms ts && true) (formed list f m (form_is.Part part_is.Switch) at ws h) in
        let fine = first list f m (row ts) none (rest list f m subject (more (row ts) none) (parts_fine list f m (form_is.Part part_is.Switch) at ws h)) in
        let x = none_parts (option_tests (subject_tests k m) subject_) (arms_tests k m subject_ (arms_of round_unit worth fields subject_ ts)) good.0 in
        let y = none_parts (option_tests (expr_names m) subject_) (arms_names m (arms_of round_unit worth fields subject_ ts)) good.1 in
        arms_good ts subject_ (and_parts (are_of group_is.Arms ts) true p.1).0 fine (x.1, y.1, good.2)
    part_good (node (form_is.Part part_is.Switch) at (more subject (more (row ts) (more y us)))) of h good =
        no_second (stands_as (stands.Optional group_is.Expressions) subject) (are_of group_is.Arms ts) (are_formed (more subject (more (row ts) (more y us)))) h.0
    part_good (node (form_is.Part part_is.Switch) at (more subject (more absent us))) of h good = tt
    part_good (node (form_is.Part part_is.Switch) at (more subject (more (node form span ts) us))) of h good = tt
    part_good (node _ at us) of h good = never of
    part_good absent of h good = never of
    part_good (row us) of h good = never of

    parts_good : (xs : Trees) → are_of group_is.Parts xs ≡ true → AllFine xs → PartsGood (parts (parts_of round_unit worth fields xs)) → AllOf Good (declared_among xs)
    parts_good none of h good = tt
    parts_good (more x xs) of h good =
        let o = and_parts (is_of group_is.Parts x) (are_of group_is.Parts xs) of in
        let g = first_good (part_of round_unit worth fields x) (parts (parts_of round_unit worth fields xs)) good in
        both_of Good (declared_in x) (declared_among xs) (part_good x o.0 (first list f m x xs h) g.0) (parts_good xs o.1 (rest list f m x xs h) g.1)

    body_good : (x : Tree) → is_of group_is.Bodies x ≡ true → Fine x → PartsGood (parts (body_of round_unit worth fields x)) → AllOf Good (declared_in x)
    body_good (node (form_is.Body body_is.One) span none) of h good = tt
    body_good (node (form_is.Body body_is.One) span (more x none)) of h good =
        let p = and_parts (is_of group_is.Parts x) true (formed list f m (form_is.Body body_is.One) span (more x none) h) in
        let g = first_good (part_of round_unit worth fields x) no_parts good in
        both_of Good (declared_in x) [] (part_good x p.0 (first list f m x none (parts_fine list f m (form_is.Body body_is.One) span (more x none) h)) g.0) tt
    body_good (node (form_is.Body body_is.One) span (more x (more y us))) of h good = no_first (is_of group_is.Parts x) (are_formed (more x (more y us))) h.0
    body_good (node (form_is.Body body_is.Many) span xs) of h good =
        parts_good xs (formed list f m (form_is.Body body_is.Many) span xs h) (parts_fine list f m (form_is.Body body_is.Many) span xs h) good
    body_good (node (form_is.Body body_is.Nothing) span xs) of h good = tt
    body_good (node _ span us) of h good = never of
    body_good absent of h good = never of
    body_good (row us) of h good = never of

    arms_good : (xs : Trees) (subject : Option Expr) → are_of group_is.Arms xs ≡ true → AllFine xs → ArmsGood subject (arms_of round_unit worth fields subject xs) → AllOf Good (declared_among xs)
    arms_good none subject of h good = tt
    arms_good (more (node form_is.Arm span none) xs) subject of h good = never (first list f m (node form_is.Arm span none) xs h).0
    arms_good (more (node form_is.Arm span (more guard none)) xs) subject of h good =
        no_first (is_of group_is.Guards guard) (are_formed (more guard none)) (first list f m (node form_is.Arm span (more guard none)) xs h).0
    arms_good (more (node form_is.Arm span (more guard (more body none))) xs) subject of h good =
        let ws = more guard (more body none) in
        let x = node form_is.Arm span ws in
        let fine = first list f m x xs h in
        let p = and_parts (is_of group_is.Guards guard) (is_of group_is.Bodies body && true) (formed list f m form_is.Arm span ws fine) in
        let q = first list f m body none (rest list f m guard (more body none) (parts_fine list f m form_is.Arm span ws fine)) in
        let arm = arm_of round_unit subject guard in
        let ys = parts (body_of round_unit worth fields body) in
        let later = arms_of round_unit worth fields subject xs in
        let i = none_parts (arm_tests k m subject arm) (parts_tests k m ys ++ arms_tests k m subject later) good.0 in
        let j = none_parts (parts_tests k m ys) (arms_tests k m subject later) i.1 in
        let c = none_parts (all_tests (expr_names m) arm.values) (parts_names m ys ++ arms_names m later) good.1 in
        let e = none_parts (parts_names m ys) (arms_names m later) c.1 in
        let z = and_parts (parts_read ys) (arms_read later) good.2 in
        both_of Good (declared_in x) (declared_among xs) (body_good body (and_parts (is_of group_is.Bodies body) true p.1).0 q (j.0, e.0, z.0)) (arms_good xs subject of (rest list f m x xs h) (j.1, e.1, z.1))
    arms_good (more (node form_is.Arm span (more guard (more body (more y us)))) xs) subject of h good =
        no_second (is_of group_is.Guards guard) (is_of group_is.Bodies body) (are_formed (more guard (more body (more y us)))) (first list f m (node form_is.Arm span (more guard (more body (more y us)))) xs h).0
    arms_good (more (node _ span us) xs) subject of h good = never of
    arms_good (more absent xs) subject of h good = never of
    arms_good (more (row us) xs) subject of h good = never of

  -- variables
  variable_good : (x : Tree) (rows : List Member) (name value : Tree) → is_of group_is.Types x ≡ true → Fine x → none_hold (variable_tests k m rows (variable_of round_unit fields name x (present value))) ≡ true → IsGood (source_is.Variable x)
  variable_good x rows name value of h tests r w all open_ =
      let var = variable_of round_unit fields name x (present value) in
      let p = none_parts (written_tests m var.written) _ tests in
      type_full list f m place_is.Value x (type_fine list f m x of h) (placed m var.written.misplaced p.0) (each_has list f m (all_types list a formed_list unbroken) (mentions_in list m x))

  -- All that is declared in the items of a unit.
  pub items_good : (rows : List Member) (xs : Trees) → are_of group_is.Items xs ≡ true → AllFine xs → none_hold (all_tests (variable_tests k m rows) (variables_in round_unit fields xs)) ≡ true → PartsGood (parts (parts_in round_unit worth fields xs))
      → AllOf Good (declared_among xs)
  items_good rows none of h tests good = tt
  items_good rows (more (node (form_is.Item item_is.Variable) span none) xs) of h tests good = never (first list f m (node (form_is.Item item_is.Variable) span none) xs h).0
  items_good rows (more (node (form_is.Item item_is.Variable) span (more name none)) xs) of h tests good =
      no_first (is_of group_is.Names name) (are_formed (more name none)) (first list f m (node (form_is.Item item_is.Variable) span (more name none)) xs h).0
  items_good rows (more (node (form_is.Item item_is.Variable) span (more name (more x none))) xs) of h tests good =
      no_second (is_of group_is.Names name) (is_of group_is.Types x) (are_formed (more name (more x none))) (first list f m (node (form_is.Item item_is.Variable) span (more name (more x none))) xs h).0
  items_good rows (more (node (form_is.Item item_is.Variable) span (more name (more x (more value none)))) xs) of h tests good =
      let ws = more name (more x (more value none)) in
      let u = node (form_is.Item item_is.Variable) span ws in
      let fine = first list f m u xs h in
      let var = variable_of round_unit fields name x (present value) in
      let p = and_parts (is_of group_is.Names name) (is_of group_is.Types x && (stands_as (stands.Optional group_is.Expressions) value && true)) (formed list f m (form_is.Item item_is.Variable) span ws fine) in
      let o = (and_parts (is_of group_is.Types x) (stands_as (stands.Optional group_is.Expressions) value && true) p.1).0 in
      let q = first list f m x (more value none) (rest list f m name (more x (more value none)) (parts_fine list f m (form_is.Item item_is.Variable) span ws fine)) in
      let y = none_parts (variable_tests k m rows var) (all_tests (variable_tests k m rows) (variables_in round_unit fields xs)) tests in
      (variable_good x rows name value o q y.0, items_good rows xs of (rest list f m u xs h) y.1 good)
  items_good rows (more (node (form_is.Item item_is.Variable) span (more name (more x (more value (more y us))))) xs) of h tests good =
      no_third (is_of group_is.Names name) (is_of group_is.Types x) (stands_as (stands.Optional group_is.Expressions) value) (are_formed (more name (more x (more value (more y us)))))
      (first list f m (node (form_is.Item item_is.Variable) span (more name (more x (more value (more y us))))) xs h).0
  items_good rows (more (node (form_is.Item item_is.Sink) span none) xs) of h tests good = items_good rows xs of (rest list f m (node (form_is.Item item_is.Sink) span none) xs h) tests good
  items_good rows (more (node (form_is.Item item_is.Sink) span (more name us)) xs) of h tests good =
      ((λ r w all open_. refl), items_good rows xs of (rest list f m (node (form_is.Item item_is.Sink) span (more name us)) xs h) tests good)
  items_good rows (more (node (form_is.Item item_is.Part) span none) xs) of h tests good = never (first list f m (node (form_is.Item item_is.Part) span none) xs h).0
  items_good rows (more (node (form_is.Item item_is.Part) span (more x none)) xs) of h tests good =
      let u = node (form_is.Item item_is.Part) span (more x none) in
      let fine = first list f m u xs h in
      let p = and_parts (is_of group_is.Parts x) true (formed list f m (form_is.Item item_is.Part) span (more x none) fine) in
      let g = first_good (part_of round_unit worth fields x) (parts (parts_in round_unit worth fields xs)) good in
      both_of Good (declared_in x) (declared_among xs) (part_good x p.0 (first list f m x none (parts_fine list f m (form_is.Item item_is.Part) span (more x none) fine)) g.0)
      (items_good rows xs of (rest list f m u xs h) tests g.1)
  items_good rows (more (node (form_is.Item item_is.Part) span (more x (more y us))) xs) of h tests good =
      no_first (is_of group_is.Parts x) (are_formed (more x (more y us))) (first list f m (node (form_is.Item item_is.Part) span (more x (more y us))) xs h).0
  items_good rows (more (node (form_is.Item form) span us) xs) of h tests good = items_good rows xs of (rest list f m (node (form_is.Item form) span us) xs h) tests good
  items_good rows (more (node _ span us) xs) of h tests good = never of
  items_good rows (more absent xs) of h tests good = never of
  items_good rows (more (row us) xs) of h tests good = never of
