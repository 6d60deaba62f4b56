-- The fields of a unit where all is built: each reads an integer, and nothing else may stand in the unit.
use Rattle.std.specs.Prelude.{Bool, true, false, not, ◌&&◌, ◌++◌}
use Rattle.std.proofs.Common.{ℕ, ◌≡◌, refl, sym, ap, subst, ◌∙◌, List, [], ◌∷◌, Option, Some, None}
use Rattle.std.proofs.lemmas.Bool.{and_parts}
use Rattle.sp_base.specs.declared.places.Span.{Span}
use Rattle.sp_ast.specs.Trees.{Tree, Trees, absent, row, node, none, more}
use Rattle.sp_ast.specs.Slots.{fill, slots, are_formed}
use Rattle.sp_ast.specs.Groups.{is_of, are_of, fits as stands_as}
use Rattle.sp_ast.specs.declared.groups.Group.TheVariants as group_is
use Rattle.sp_ast.specs.declared.groups.Sort.TheVariants as stands
use Rattle.sp_ast.specs.declared.forms.Form.TheVariants as form_is
use Rattle.sp_ast.specs.declared.forms.ItemForm.TheVariants as item_is
use Rattle.sp_ast.specs.declared.forms.PartForm.TheVariants as part_is
use Rattle.sp_types.specs.Types.{Ty}
use Rattle.sp_typed_units.specs.declared.items.Field.{Field}
use Rattle.sp_typed_units.specs.Parts.{Part, Parts, field, choice, no_parts, more_parts, parts}
use Rattle.sp_type_context.specs.Contexts.{Around}
use Rattle.sp_type_fields.specs.Values.{Values}
use Rattle.sp_type_fields.specs.Attributes.{maybe_typed, converted}
use Rattle.sp_ast.specs.Views.{present}
use Rattle.sp_type_fields.specs.Readings.{counted_read}
use Rattle.sp_type_fields.specs.Parts.{Fields, field_place, member_number, field_of, field_in, part_of}
use Rattle.sp_type_units.specs.Items.{parts_in}
use Rattle.sp_unbuilt.specs.Constructs.{read_end, word_tests, condition_end, tail_tests, each_tests}
use Rattle.sp_unbuilt.specs.Fields.{reads_integer, kinds_of_part, kinds_among}
use Rattle.sp_meaning.specs.Integers.{IntegerForm, only_orders, integer_spec, where_known, without_either, integer_field}
use Rattle.sp_law_lists.proofs.known_types_lemmas.Full.{never}
use Rattle.sp_law_lists.specs.known_constants.Fine.{IsFine, AreFine}
use Rattle.sp_law_lists.proofs.known_constants_lemmas.Fine.{formed, inside, first, rest}
use Rattle.sp_law_lists.proofs.known_members_lemmas.Built.{nothing, two_parts}
use Rattle.sp_law_lists.proofs.known_members_lemmas.Shapes.{no_first, field_parts, field_whole}
use Rattle.sp_law_lists.proofs.passing_list_lemmas.BuiltTrees.{IsBuilt, AreBuilt, built_passes, at_tree}
use Rattle.sp_law_lists.specs.fit_list.Units.{is_read}
use Rattle.sp_law_lists.proofs.passing_list_lemmas.Readings.{first_built, rest_built, row_built, orders_alone, no_conversion, counted_reads}

no_word : (text : List ℕ) (m n : ℕ) (o : Option Tree) → nothing (word_tests text m n o) ≡ true → o ≡ None
no_word text m n None e = refl
no_word text m n (Some t) e = never e

twice_not : (b : Bool) → (not (not b) && true) ≡ true → b ≡ true
twice_not true e = refl
twice_not false e = never e

end_is : {A : Type 0} (xs : List A) → xs ++ [] ≡ xs
end_is [] = refl
end_is (x ∷ xs) = ap (λ ys. x ∷ ys) (end_is xs)

module _ (g : Around) (v : Values) (fields : Fields) where
  -- a field that reads an integer, in whatever byte order; its member and its hooks are those of its name
  pub record IsIntegerField (f : Field) : Type 0 where
    pub reads : (o : Option ℕ) → (form : IntegerForm) × (integer_field o f ≡ Some form) × (is_read form.signed f.ty ≡ true)
    pub span : Span
    pub name : Option Tree
    pub member_is : f.member ≡ member_number fields name
    pub hooks_are : f.hooks ≡ fields.hooks (field_place span name)

  abbrev pub AllFields : Parts → Type 0
  AllFields no_parts = Unit {0}
  AllFields (more_parts (field f) ps) = IsIntegerField f × AllFields ps
  AllFields (more_parts (choice span subject rows) ps) = ⊥

  -- a field by the parts of its tree
  whole_field : (span : Span) (name base : Tree) (counts ts : Trees) (condition sink : Tree) (hooks : Trees) → IsBuilt (node form_is.Field span (field_parts name base counts ts condition sink (row hooks)))
      → reads_integer (counted_read g v base counts).spec ≡ true → IsIntegerField (field_of g v fields span (present name) (counted_read g v base counts) ts (present condition) (present sink))
  whole_field span name base counts ts condition sink hooks h e =
      let r = counted_read g v base counts in
      let f = field_of g v fields span (present name) r ts (present condition) (present sink) in
      let ws = field_parts name base counts ts condition sink (row hooks) in
      let own = (two_parts (tail_tests h.text h.«module» (read_end base counts ts) (present condition) (present sink)) (each_tests h.«module» hooks) (at_tree form_is.Field span ws h)).0 in
      let two = two_parts (word_tests h.text h.«module» (read_end base counts ts) (present condition)) (word_tests h.text h.«module» (condition_end h.text (read_end base counts ts) (present condition)) (present sink)) own in
      let no_condition : present condition ≡ None = no_word h.text h.«module» (read_end base counts ts) (present condition) two.0 in
      let no_sink : present sink ≡ None = no_word h.text h.«module» (condition_end h.text (read_end base counts ts) (present condition)) (present sink) two.1 in
      let inner = (built_passes 0).parts form_is.Field span ws h in
      let at_base = rest_built name _ inner in
      let at_counts = rest_built base _ at_base in
      let at_attributes = rest_built (row counts) _ at_counts in
      let own_attributes = row_built ts (first_built (row ts) _ at_attributes) in
      let same : f.ty ≡ r.ty = ap (converted g r.ty) (no_conversion g v ts own_attributes) in
      let reading = counted_reads g v base counts (first_built base _ at_base) e in
      record {
        reads = λ o. (
            let order = orders_alone g v (record { kind = r.kind; read = r.ty; stored = f.ty; of_field = true }) ts own_attributes o in
            let w = reading order.order in
            let inner_form : where_known (only_orders o f.attributes) (λ p. integer_spec p r.spec) ≡ Some w.0 = ap (λ x. where_known x (λ p. integer_spec p r.spec)) order.is ∙ w.1 in
            let neither : integer_field o f ≡ where_known (only_orders o f.attributes) (λ p. integer_spec p r.spec) = ap (λ c. without_either (maybe_typed g c) (maybe_typed g (present sink)) (where_known (only_orders o f.attributes) (λ p. integer_spec p r.spec))) no_condition ∙ ap (λ c. without_either None (maybe_typed g c) (where_known (only_orders o f.attributes) (λ p. integer_spec p r.spec))) no_sink in
            (w.0, neither ∙ inner_form, subst (λ u. is_read w.0.signed u ≡ true) (sym same) w.2)
            );
        span = span;
        name = present name;
        member_is = refl;
        hooks_are = refl;
      }

  module _ (list : List Tree) (f : ℕ → Option Ty) (m : ℕ) where
    abbrev Fine : Tree → Type 0
    Fine x = IsFine list f m x

    abbrev AllFine : Trees → Type 0
    AllFine xs = AreFine list f m xs

    -- a part that is a field
    abbrev OnePart : Part → Type 0
    OnePart p = AllFields (more_parts p no_parts)

    -- its hooks stand in a row
    hooks_row : (name base : Tree) (counts ts : Trees) (condition sink hooks : Tree) → fill (slots form_is.Field) (field_parts name base counts ts condition sink hooks) ≡ true → stands_as (stands.Rows group_is.HookBodies) hooks ≡ true
    hooks_row name base counts ts condition sink hooks h =
        let expression = stands.Optional group_is.Expressions in
        let last = stands_as (stands.Rows group_is.HookBodies) hooks && true in
        let a = and_parts (stands_as (stands.Optional group_is.Names) name) (is_of group_is.Bases base && (are_of group_is.Counts counts && (are_of group_is.Attributes ts && (stands_as expression condition && (stands_as expression sink && last))))) h in
        let b = and_parts (is_of group_is.Bases base) (are_of group_is.Counts counts && (are_of group_is.Attributes ts && (stands_as expression condition && (stands_as expression sink && last)))) a.1 in
        let c = and_parts (are_of group_is.Counts counts) (are_of group_is.Attributes ts && (stands_as expression condition && (stands_as expression sink && last))) b.1 in
        let d = and_parts (are_of group_is.Attributes ts) (stands_as expression condition && (stands_as expression sink && last)) c.1 in
        let e = and_parts (stands_as expression condition) (stands_as expression sink && last) d.1 in
        let i = and_parts (stands_as expression sink) last e.1 in
        (and_parts (stands_as (stands.Rows group_is.HookBodies) hooks) true i.1).0

    parts_so : (n : ℕ) (span : Span) (name base : Tree) (counts ts : Trees) (condition sink hooks : Tree) → stands_as (stands.Rows group_is.HookBodies) hooks ≡ true → IsBuilt (node form_is.Field span (field_parts name base counts ts condition sink hooks))
        → nothing (kinds_among n (more_parts (field_in g v fields (node form_is.Field span (field_parts name base counts ts condition sink hooks))) no_parts)) ≡ true
        → OnePart (field_in g v fields (node form_is.Field span (field_parts name base counts ts condition sink hooks)))
    parts_so n span name base counts ts condition sink (row hooks) h b kinds = (whole_field span name base counts ts condition sink hooks b (twice_not (reads_integer (counted_read g v base counts).spec) kinds), tt)
    parts_so n span name base counts ts condition sink absent h b kinds = never h
    parts_so n span name base counts ts condition sink (node form at us) h b kinds = never h

    field_so : (n : ℕ) (x : Tree) → is_of group_is.Fields x ≡ true → Fine x → IsBuilt x → nothing (kinds_among n (more_parts (field_in g v fields x) no_parts)) ≡ true → OnePart (field_in g v fields x)
    field_so n (node form_is.Field span ws) of h b kinds =
        let filled = formed list f m form_is.Field span ws h in
        let w = field_whole ws filled in
        let row_is = hooks_row w.name w.base w.counts w.attributes w.condition w.sink w.hooks (subst (λ us. fill (slots form_is.Field) us ≡ true) w.is filled) in
        subst (λ us. IsBuilt (node form_is.Field span us) → nothing (kinds_among n (more_parts (field_in g v fields (node form_is.Field span us)) no_parts)) ≡ true → OnePart (field_in g v fields (node form_is.Field span us))) (sym w.is)
        (parts_so n span w.name w.base w.counts w.attributes w.condition w.sink w.hooks row_is) b kinds
    field_so n (node _ span ws) of h b kinds = never of
    field_so n absent of h b kinds = never of
    field_so n (row ws) of h b kinds = never of

    part_so : (n : ℕ) (x : Tree) → is_of group_is.Parts x ≡ true → Fine x → IsBuilt x → nothing (kinds_among n (more_parts (part_of g v fields x) no_parts)) ≡ true → OnePart (part_of g v fields x)
    part_so n (node (form_is.Part part_is.Field) at (more x none)) of h b kinds =
        let p = and_parts (is_of group_is.Fields x) true (formed list f m (form_is.Part part_is.Field) at (more x none) h) in
        field_so n x p.0 (first list f m x none (inside list f m (form_is.Part part_is.Field) at (more x none) h)) (first_built x none ((built_passes 0).parts (form_is.Part part_is.Field) at (more x none) b)) kinds
    part_so n (node (form_is.Part part_is.Field) at none) of h b kinds = never h.0
    part_so n (node (form_is.Part part_is.Field) at (more x (more y us))) of h b kinds = no_first (is_of group_is.Fields x) (are_formed (more x (more y us))) h.0
    part_so n (node (form_is.Part part_is.Switch) at us) of h b kinds = never (at_tree (form_is.Part part_is.Switch) at us b)
    part_so n (node _ at us) of h b kinds = never of
    part_so n absent of h b kinds = never of
    part_so n (row us) of h b kinds = never of

    joined : (p : Part) (ps : Parts) → OnePart p → AllFields ps → AllFields (more_parts p ps)
    joined (field x) ps one all = (one.0, all)
    joined (choice span subject rows) ps one all = absurd one

    split : (n : ℕ) (p : Part) (ps : Parts) → nothing (kinds_among n (more_parts p ps)) ≡ true → (nothing (kinds_among n (more_parts p no_parts)) ≡ true) × (nothing (kinds_among n ps) ≡ true)
    split n p ps e =
        let h = two_parts (kinds_of_part n p) (kinds_among n ps) e in
        (ap nothing (end_is (kinds_of_part n p)) ∙ h.0, h.1)

    pub items_so : (n : ℕ) (xs : Trees) → are_of group_is.Items xs ≡ true → AllFine xs → AreBuilt xs → nothing (kinds_among n (parts (parts_in g v fields xs))) ≡ true → AllFields (parts (parts_in g v fields xs))
    items_so n none of h b kinds = tt
    items_so n (more (node (form_is.Item item_is.Part) span (more x none)) xs) of h b kinds =
        let u = node (form_is.Item item_is.Part) span (more x none) in
        let fine = first list f m u xs h in
        let p = and_parts (is_of group_is.Parts x) true (formed list f m (form_is.Item item_is.Part) span (more x none) fine) in
        let k = split n (part_of g v fields x) (parts (parts_in g v fields xs)) kinds in
        joined (part_of g v fields x) (parts (parts_in g v fields xs))
        (part_so n x p.0 (first list f m x none (inside list f m (form_is.Item item_is.Part) span (more x none) fine)) (first_built x none ((built_passes 0).parts (form_is.Item item_is.Part) span (more x none) (first_built u xs b))) k.0)
        (items_so n xs of (rest list f m u xs h) (rest_built u xs b) k.1)
    items_so n (more (node (form_is.Item item_is.Part) span none) xs) of h b kinds = never (first list f m (node (form_is.Item item_is.Part) span none) xs h).0
    items_so n (more (node (form_is.Item item_is.Part) span (more x (more y us))) xs) of h b kinds =
        no_first (is_of group_is.Parts x) (are_formed (more x (more y us))) (first list f m (node (form_is.Item item_is.Part) span (more x (more y us))) xs h).0
    items_so n (more (node (form_is.Item form) span us) xs) of h b kinds = items_so n xs of (rest list f m (node (form_is.Item form) span us) xs h) (rest_built (node (form_is.Item form) span us) xs b) kinds
    items_so n (more (node _ span us) xs) of h b kinds = never of
    items_so n (more absent xs) of h b kinds = never of
    items_so n (more (row us) xs) of h b kinds = never of
