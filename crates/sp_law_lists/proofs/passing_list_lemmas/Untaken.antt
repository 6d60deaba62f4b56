-- The variables and fields of a unit of which no name comes twice: the member of each is of the type that it stores.
use Rattle.std.specs.Prelude.{Bool, true, false, not, ◌&&◌, ◌||◌, ◌==◌}
use Rattle.std.proofs.Common.{ℕ, ◌≡◌, refl, sym, ap, subst, ◌∙◌, List, [], ◌∷◌, ◌++◌, append_assoc, Option, Some, None, slice_get}
use Rattle.std.proofs.lemmas.Bool.{and_parts, and_from, or_parts}
use Rattle.sp_base.specs.declared.places.Span.{Span}
use Rattle.sp_ast.specs.Trees.{Tree, Trees, absent, row, node, none, more, span_of}
use Rattle.sp_ast.specs.Slots.{fill, slots, are_formed}
use Rattle.sp_ast.specs.Groups.{is_of, are_of, fits as stands_as}
use Rattle.sp_ast.specs.declared.groups.Group.TheVariants as group_is
use Rattle.sp_ast.specs.declared.groups.Sort.TheVariants as stands
use Rattle.sp_ast.specs.declared.forms.Form.TheVariants as form_is
use Rattle.sp_ast.specs.declared.forms.ItemForm.TheVariants as item_is
use Rattle.sp_ast.specs.declared.forms.PartForm.TheVariants as part_is
use Rattle.sp_types.specs.Types.{Ty}
use Rattle.sp_typed.specs.Exprs.{Expr}
use Rattle.sp_typed_units.specs.declared.declarations.Member.{Member}
use Rattle.sp_typed_units.specs.declared.declarations.Variable.{Variable}
use Rattle.sp_typed_units.specs.declared.items.Field.{Field}
use Rattle.sp_typed_units.specs.Parts.{Part, Parts, field, choice, no_parts, more_parts, parts}
use Rattle.sp_type_context.specs.declared.places.Place.TheVariants.{Value}
use Rattle.sp_type_context.specs.Contexts.{Around}
use Rattle.sp_type_context.specs.Typing.{name_of, typed, to_target}
use Rattle.sp_type_fields.specs.Values.{Values}
use Rattle.sp_type_fields.specs.Attributes.{maybe_typed}
use Rattle.sp_ast.specs.Views.{present}
use Rattle.sp_type_fields.specs.Readings.{counted_read}
use Rattle.sp_type_fields.specs.Parts.{Fields, field_of, field_in, part_of}
use Rattle.sp_type_modules.specs.Members.{unit_items}
use Rattle.sp_type_modules.specs.declared.sources.Source.{Source}
use Rattle.sp_type_modules.specs.declared.sources.Source.TheVariants as source_is
use Rattle.sp_type_modules.specs.Sources.{Named, declared_in, declared_among}
use Rattle.sp_type_fields.specs.Fields.{field_type}
use Rattle.sp_type_members.specs.Tries.{source_type}
use Rattle.sp_type_modules.specs.Taken.{Kept, has, same_place, has_place, with_number, has_number, number_differs, place_if, numbers_of, kept_of, taken_in, taken_among, taken_places, parameter_numbers, member_number}
use Rattle.sp_type_modules.specs.Heads.{unit_parameters}
use Rattle.sp_type_units.specs.Items.{brought, variables_in, parts_in}
use Rattle.sp_rule_lists.specs.Lists.{all_tests}
use Rattle.sp_rule_lists.specs.Names.{variable_names, field_names, part_names, parts_names}
use Rattle.sp_law_lists.specs.known_types.Clear.{none_hold}
use Rattle.sp_law_lists.proofs.known_types_lemmas.Full.{never}
use Rattle.sp_law_lists.proofs.whole_list_lemmas.None.{none_parts}
use Rattle.sp_law_lists.specs.known_constants.Fine.{IsFine, AreFine}
use Rattle.sp_law_lists.proofs.known_constants_lemmas.Fine.{formed, inside, first, rest}
use Rattle.sp_law_lists.proofs.known_constants_lemmas.Declarations.{AllOf}
use Rattle.sp_law_lists.proofs.known_members_lemmas.Shapes.{no_first, field_parts, field_whole}
use Rattle.sp_law_lists.proofs.passing_list_lemmas.Seen.{equal_itself}
use Rattle.sp_law_lists.proofs.passing_list_lemmas.FirstNames.{or_right, IsOwn, is_own}

-- places among more
place_before : (at : Span) (xs ys : List Span) → has_place at xs ≡ true → has_place at (xs ++ ys) ≡ true
place_before at [] ys e = never e
place_before at (p ∷ xs) ys e = by (same_place p at) e (place_before at xs ys)
  where
    by : (b : Bool) → (b || has_place at xs) ≡ true → (has_place at xs ≡ true → has_place at (xs ++ ys) ≡ true) → (b || has_place at (xs ++ ys)) ≡ true
    by true e later = refl
    by false e later = later e

place_behind : (at : Span) (xs ys : List Span) → has_place at ys ≡ true → has_place at (xs ++ ys) ≡ true
place_behind at [] ys e = e
place_behind at (p ∷ xs) ys e = or_right (same_place p at) (has_place at (xs ++ ys)) (place_behind at xs ys e)

itself : (at : Span) → same_place at at ≡ true
itself at = and_from (at.from == at.from) (at.to == at.to) (equal_itself at.from) (equal_itself at.to)

placed : (at : Span) (b : Bool) → b ≡ true → has_place at (place_if b at) ≡ true
placed at b e = ap (λ c. has_place at (place_if c at)) e ∙ ap (λ c. c || false) (itself at)

-- numbers among more
in_two : (k : ℕ) (xs ys zs : List ℕ) → (has k xs ≡ true → has k zs ≡ true) → has k (xs ++ ys) ≡ true → has k (zs ++ ys) ≡ true
in_two k xs ys zs wider e = by (has k xs) (sym (both xs ys) ∙ e) wider
  where
    or_assoc : (a b c : Bool) → ((a || b) || c) ≡ (a || (b || c))
    or_assoc true b c = refl
    or_assoc false b c = refl

    both : (us vs : List ℕ) → has k (us ++ vs) ≡ (has k us || has k vs)
    both [] vs = refl
    both (j ∷ us) vs = ap (λ b. (j == k) || b) (both us vs) ∙ sym (or_assoc (j == k) (has k us) (has k vs))

    by : (b : Bool) → (b || has k ys) ≡ true → (b ≡ true → has k zs ≡ true) → has k (zs ++ ys) ≡ true
    by true e w = both zs ys ∙ ap (λ c. c || has k ys) (w refl)
    by false e w = both zs ys ∙ or_right (has k zs) (has k ys) e

-- a value of a type
abbrev pub IsBroughtTo : Around → Ty → Option Expr → Type 0
IsBroughtTo g t None = Unit {0}
IsBroughtTo g t (Some e) = (x : Tree) × (e ≡ to_target t (typed g x))

brought_to : (g : Around) (t : Ty) (o : Option Tree) → IsBroughtTo g t (brought t (maybe_typed g o))
brought_to g t None = tt
brought_to g t (Some x) = (x, refl)

-- what has a type of its own: variables and fields
abbrev pub is_stored : Source → Bool
is_stored source_is.Sink = false
is_stored _ = true

module _ (g : Around) (v : Values) (fields : Fields) (members : List Member) where
  -- the member of a number is of a type
  abbrev pub IsMember : ℕ → Ty → Type 0
  IsMember k t = (y : Member) × (slice_get members k ≡ Some y) × (y.ty ≡ t)

  -- a variable has a member, and a value of its type
  pub record VariableIs (x : Variable) : Type 0 where
    pub member : Member
    pub stands : slice_get members x.member ≡ Some member
    pub value : IsBroughtTo g member.ty x.value

  -- a field that has a member has one of the type that it stores
  abbrev pub MemberIs : Option ℕ → Ty → Type 0
  MemberIs None t = Unit {0}
  MemberIs (Some k) t = IsMember k t

  abbrev pub FieldIs : Field → Type 0
  FieldIs x = MemberIs x.member x.ty

  abbrev PartIs : Part → Type 0
  PartIs (field x) = FieldIs x
  PartIs (choice span subject rows) = Unit {0}

  abbrev pub PartsAre : Parts → Type 0
  PartsAre no_parts = Unit {0}
  PartsAre (more_parts (field x) xs) = FieldIs x × PartsAre xs
  PartsAre (more_parts (choice span subject rows) xs) = PartsAre xs

  joined : (p : Part) (xs : Parts) → PartIs p → PartsAre xs → PartsAre (more_parts p xs)
  joined (field x) xs one all = (one, all)
  joined (choice span subject rows) xs one all = all

  module _ (unit : Tree) (taken : (at : Span) → fields.taken at ≡ has_place at (taken_places (field_type g v) unit)) (stored : (d : Named) → is_stored d.source ≡ true → IsOwn unit (field_type g v) d → IsMember (fields.number d.name) (source_type g v d.source)) where
    abbrev number : List ℕ → Option ℕ
    number = member_number unit

    abbrev numbers : List Named → List ℕ
    numbers ds = numbers_of number (field_type g v) ds

    abbrev kept_in : List Named → List Kept
    kept_in ds = kept_of number (field_type g v) ds

    -- some of its items, before which these are named
    record Passed (near : List ℕ) (kept : List Kept) (before : List Named) (xs : Trees) : Type 0 where
      whole : declared_among (unit_items unit) ≡ before ++ declared_among xs
      holds : (k : ℕ) → has k (numbers before) ≡ true → has k near ≡ true
      seen : (at : Span) → has_place at (taken_among number (field_type g v) near kept xs) ≡ true → has_place at (taken_places (field_type g v) unit) ≡ true

    one_number : (o : Option ℕ) (ks js : List ℕ) → with_number o (ks ++ js) ≡ with_number o ks ++ js
    one_number None ks js = refl
    one_number (Some k) ks js = refl

    numbers_more : (ds es : List Named) → numbers (ds ++ es) ≡ numbers ds ++ numbers es
    numbers_more [] es = refl
    numbers_more (d ∷ ds) es = ap (with_number (number d.name)) (numbers_more ds es) ∙ one_number (number d.name) (numbers ds) (numbers es)

    next : (near : List ℕ) (kept : List Kept) (before : List Named) (x : Tree) (xs : Trees) → Passed near kept before (more x xs) → Passed (near ++ numbers (declared_in x)) (kept ++ kept_in (declared_in x)) (before ++ declared_in x) xs
    next near kept before x xs p = record {
      whole = p.whole ∙ sym (append_assoc before (declared_in x) (declared_among xs));
      holds = λ k e. in_two k (numbers before) (numbers (declared_in x)) near (p.holds k) (sym (ap (has k) (numbers_more before (declared_in x))) ∙ e);
      seen = λ at e. p.seen at (place_behind at (taken_in number (field_type g v) near kept x) (taken_among number (field_type g v) (near ++ numbers (declared_in x)) (kept ++ kept_in (declared_in x)) xs) e);
    }

    -- what isn't taken has another name than all before it
    is_new : (at : Span) (b : Bool) → fields.taken at ≡ false → (has_place at (place_if b at) ≡ true → has_place at (taken_places (field_type g v) unit) ≡ true) → b ≡ false
    is_new at false free seen = refl
    is_new at true free seen = never (sym free ∙ taken at ∙ seen (placed at true refl))

    here : (near : List ℕ) (kept : List Kept) (before : List Named) (x : Tree) (xs : Trees) → Passed near kept before (more x xs) → (at : Span) → has_place at (taken_in number (field_type g v) near kept x) ≡ true → has_place at (taken_places (field_type g v) unit) ≡ true
    here near kept before x xs p at e =
        p.seen at (place_before at (taken_in number (field_type g v) near kept x) (taken_among number (field_type g v) (near ++ numbers (declared_in x)) (kept ++ kept_in (declared_in x)) xs) e)

    free_of : (b rest : Bool) → (not b && rest) ≡ true → b ≡ false
    free_of true rest e = never e
    free_of false rest e = refl

    -- variables
    variable_so : (m : ℕ) (near : List ℕ) (kept : List Kept) (before : List Named) (span : Span) (name t value : Tree) (xs : Trees) → Passed near kept before (more (node (form_is.Item item_is.Variable) span (more name (more t (more value none)))) xs) → fields.taken (span_of name) ≡ false
        → (y : Member) × (slice_get members (fields.number (name_of name)) ≡ Some y) × (y.ty ≡ g.type_in Value t)
    variable_so m near kept before span name t value xs p free =
        let x = node (form_is.Item item_is.Variable) span (more name (more t (more value none))) in
        let d : Named = record { name = name_of name; source = source_is.Variable t } in
        let new = is_new (span_of name) (has_number (number (name_of name)) near) free (here near kept before x xs p (span_of name)) in
        stored d refl (is_own unit (field_type g v) before d (declared_among xs) near p.whole p.holds new)

    variables_so : (m : ℕ) (xs : Trees) (near : List ℕ) (kept : List Kept) (before : List Named) → Passed near kept before xs → none_hold (all_tests (variable_names m) (variables_in g fields xs)) ≡ true → AllOf VariableIs (variables_in g fields xs)
    variables_so m none near kept before p names = tt
    variables_so m (more (node (form_is.Item item_is.Variable) span (more name (more t (more value none)))) xs) near kept before p names =
        let x = node (form_is.Item item_is.Variable) span (more name (more t (more value none))) in
        let w : Variable = record { member = fields.number (name_of name); span = span_of name; written = g.written Value t; taken = fields.taken (span_of name); value = brought (g.type_in Value t) (maybe_typed g (present value)) } in
        let q = none_parts (variable_names m w) (all_tests (variable_names m) (variables_in g fields xs)) names in
        let own = variable_so m near kept before span name t value xs p (free_of w.taken _ q.0) in (
          record { member = own.0; stands = own.1; value = subst (λ u. IsBroughtTo g u w.value) (sym own.2) (brought_to g (g.type_in Value t) (present value)) },
          variables_so m xs _ _ _ (next near kept before x xs p) q.1,
        )
    variables_so m (more (node (form_is.Item item_is.Variable) span none) xs) near kept before p names = variables_so m xs _ _ _ (next near kept before (node (form_is.Item item_is.Variable) span none) xs p) names
    variables_so m (more (node (form_is.Item item_is.Variable) span (more name none)) xs) near kept before p names = variables_so m xs _ _ _ (next near kept before (node (form_is.Item item_is.Variable) span (more name none)) xs p) names
    variables_so m (more (node (form_is.Item item_is.Variable) span (more name (more t none))) xs) near kept before p names =
        variables_so m xs _ _ _ (next near kept before (node (form_is.Item item_is.Variable) span (more name (more t none))) xs p) names
    variables_so m (more (node (form_is.Item item_is.Variable) span (more name (more t (more value (more y ys))))) xs) near kept before p names =
        variables_so m xs _ _ _ (next near kept before (node (form_is.Item item_is.Variable) span (more name (more t (more value (more y ys))))) xs p) names
    variables_so m (more (node (form_is.Item form) span us) xs) near kept before p names = variables_so m xs _ _ _ (next near kept before (node (form_is.Item form) span us) xs p) names
    variables_so m (more (node form span us) xs) near kept before p names = variables_so m xs _ _ _ (next near kept before (node form span us) xs p) names
    variables_so m (more absent xs) near kept before p names = variables_so m xs _ _ _ (next near kept before absent xs p) names
    variables_so m (more (row us) xs) near kept before p names = variables_so m xs _ _ _ (next near kept before (row us) xs p) names

    -- fields
    module _ (list : List Tree) (f : ℕ → Option Ty) (m : ℕ) where
      abbrev the_field : Span → Tree → Tree → Trees → Trees → Tree → Tree → Field
      the_field span name base counts ts condition sink = field_of g v fields span (present name) (counted_read g v base counts) ts (present condition) (present sink)

      abbrev Before : List ℕ → List Kept → List Named → Span → Span → Span → Trees → Trees → Type 0
      Before near kept before at place span us xs =
          Passed near kept before (more (node (form_is.Item item_is.Part) at (more (node (form_is.Part part_is.Field) place (more (node form_is.Field span us) none)) none)) xs)

      whole_field : (near : List ℕ) (kept : List Kept) (before : List Named) (at place span : Span) (name base : Tree) (counts ts : Trees) (condition sink hooks : Tree) (xs : Trees) → stands_as (stands.Optional group_is.Names) name ≡ true
          → Before near kept before at place span (field_parts name base counts ts condition sink hooks) xs → none_hold (field_names m (the_field span name base counts ts condition sink)) ≡ true → FieldIs (the_field span name base counts ts condition sink)
      whole_field near kept before at place span (node (form_is.Name x) s us) base counts ts condition sink hooks xs of p names =
          let tree = node form_is.Field span (field_parts (node (form_is.Name x) s us) base counts ts condition sink hooks) in
          let item = node (form_is.Item item_is.Part) at (more (node (form_is.Part part_is.Field) place (more tree none)) none) in
          let d : Named = record { name = x; source = source_is.Field tree } in
          let new = is_new s (has_number (number x) near || number_differs (number x) (field_type g v tree) kept) (free_of (fields.taken s) _ names) (here near kept before item xs p s) in
          stored d refl (is_own unit (field_type g v) before d (declared_among xs) near p.whole p.holds (or_parts (has_number (number x) near) (number_differs (number x) (field_type g v tree) kept) new).0)
      whole_field near kept before at place span absent base counts ts condition sink hooks xs of p names = tt
      whole_field near kept before at place span (row us) base counts ts condition sink hooks xs of p names = never of
      whole_field near kept before at place span (node _ s us) base counts ts condition sink hooks xs of p names = never of

      field_so : (near : List ℕ) (kept : List Kept) (before : List Named) (at place : Span) (x : Tree) (xs : Trees) → is_of group_is.Fields x ≡ true → IsFine list f m x
          → Passed near kept before (more (node (form_is.Item item_is.Part) at (more (node (form_is.Part part_is.Field) place (more x none)) none)) xs) → none_hold (part_names m (field_in g v fields x)) ≡ true → PartIs (field_in g v fields x)
      field_so near kept before at place (node form_is.Field span ws) xs of h p names =
          let filled = formed list f m form_is.Field span ws h in
          let w = field_whole ws filled in
          let suits = (and_parts (stands_as (stands.Optional group_is.Names) w.name) _ (subst (λ us. fill (slots form_is.Field) us ≡ true) w.is filled)).0 in
          subst (λ us. Before near kept before at place span us xs → none_hold (part_names m (field_in g v fields (node form_is.Field span us))) ≡ true → PartIs (field_in g v fields (node form_is.Field span us))) (sym w.is)
          (whole_field near kept before at place span w.name w.base w.counts w.attributes w.condition w.sink w.hooks xs suits) p names
      field_so near kept before at place (node _ span ws) xs of h p names = never of
      field_so near kept before at place absent xs of h p names = never of
      field_so near kept before at place (row ws) xs of h p names = never of

      part_so : (near : List ℕ) (kept : List Kept) (before : List Named) (at : Span) (x : Tree) (xs : Trees) → is_of group_is.Parts x ≡ true → IsFine list f m x → Passed near kept before (more (node (form_is.Item item_is.Part) at (more x none)) xs) → none_hold (part_names m (part_of g v fields x)) ≡ true
          → PartIs (part_of g v fields x)
      part_so near kept before at (node (form_is.Part part_is.Field) place (more x none)) xs of h p names =
          let suits = and_parts (is_of group_is.Fields x) true (formed list f m (form_is.Part part_is.Field) place (more x none) h) in
          field_so near kept before at place x xs suits.0 (first list f m x none (inside list f m (form_is.Part part_is.Field) place (more x none) h)) p names
      part_so near kept before at (node (form_is.Part part_is.Field) place none) xs of h p names = never h.0
      part_so near kept before at (node (form_is.Part part_is.Field) place (more x (more y us))) xs of h p names = no_first (is_of group_is.Fields x) (are_formed (more x (more y us))) h.0
      part_so near kept before at (node (form_is.Part part_is.Switch) place none) xs of h p names = tt
      part_so near kept before at (node (form_is.Part part_is.Switch) place (more subject none)) xs of h p names = tt
      part_so near kept before at (node (form_is.Part part_is.Switch) place (more subject (more (row ts) none))) xs of h p names = tt
      part_so near kept before at (node (form_is.Part part_is.Switch) place (more subject (more (row ts) (more y us)))) xs of h p names = tt
      part_so near kept before at (node (form_is.Part part_is.Switch) place (more subject (more absent us))) xs of h p names = tt
      part_so near kept before at (node (form_is.Part part_is.Switch) place (more subject (more (node form span ts) us))) xs of h p names = tt
      part_so near kept before at (node _ place us) xs of h p names = never of
      part_so near kept before at absent xs of h p names = never of
      part_so near kept before at (row us) xs of h p names = never of

      items_so : (xs : Trees) (near : List ℕ) (kept : List Kept) (before : List Named) → are_of group_is.Items xs ≡ true → AreFine list f m xs → Passed near kept before xs → none_hold (parts_names m (parts (parts_in g v fields xs))) ≡ true → PartsAre (parts (parts_in g v fields xs))
      items_so none near kept before of h p names = tt
      items_so (more (node (form_is.Item item_is.Part) at (more x none)) xs) near kept before of h p names =
          let u = node (form_is.Item item_is.Part) at (more x none) in
          let fine = first list f m u xs h in
          let suits = and_parts (is_of group_is.Parts x) true (formed list f m (form_is.Item item_is.Part) at (more x none) fine) in
          let q = none_parts (part_names m (part_of g v fields x)) (parts_names m (parts (parts_in g v fields xs))) names in
          joined (part_of g v fields x) (parts (parts_in g v fields xs))
          (part_so near kept before at x xs suits.0 (first list f m x none (inside list f m (form_is.Item item_is.Part) at (more x none) fine)) p q.0)
          (items_so xs _ _ _ of (rest list f m u xs h) (next near kept before u xs p) q.1)
      items_so (more (node (form_is.Item item_is.Part) at none) xs) near kept before of h p names = never (first list f m (node (form_is.Item item_is.Part) at none) xs h).0
      items_so (more (node (form_is.Item item_is.Part) at (more x (more y us))) xs) near kept before of h p names =
          no_first (is_of group_is.Parts x) (are_formed (more x (more y us))) (first list f m (node (form_is.Item item_is.Part) at (more x (more y us))) xs h).0
      items_so (more (node (form_is.Item form) span us) xs) near kept before of h p names =
          items_so xs _ _ _ of (rest list f m (node (form_is.Item form) span us) xs h) (next near kept before (node (form_is.Item form) span us) xs p) names
      items_so (more (node _ span us) xs) near kept before of h p names = never of
      items_so (more absent xs) near kept before of h p names = never of
      items_so (more (row us) xs) near kept before of h p names = never of

    -- all items, behind the parameters
    at_first : Passed (parameter_numbers number (unit_parameters unit)) [] [] (unit_items unit)
    at_first = record { whole = refl; holds = λ k e. never e; seen = λ at e. e }

    -- Each variable has a member, and a value of its type.
    pub all_variables : (m : ℕ) → none_hold (all_tests (variable_names m) (variables_in g fields (unit_items unit))) ≡ true → AllOf VariableIs (variables_in g fields (unit_items unit))
    all_variables m names = variables_so m (unit_items unit) (parameter_numbers number (unit_parameters unit)) [] [] at_first names

    -- Each field that has a member has one of the type that it stores.
    pub all_fields : (list : List Tree) (f : ℕ → Option Ty) (m : ℕ) → are_of group_is.Items (unit_items unit) ≡ true → AreFine list f m (unit_items unit) → none_hold (parts_names m (parts (parts_in g v fields (unit_items unit)))) ≡ true
        → PartsAre (parts (parts_in g v fields (unit_items unit)))
    all_fields list f m of h names = items_so list f m (unit_items unit) (parameter_numbers number (unit_parameters unit)) [] [] of h at_first names
