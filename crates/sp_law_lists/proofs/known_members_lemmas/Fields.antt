-- Fields in which no rule is broken: what they store has a full type, wherever the types of the members are known on which it hangs.
use Rattle.std.specs.Prelude.{not, ◌&&◌}
use Rattle.std.specs.List.{list_all}
use Rattle.std.proofs.Common.{ℕ, ◌≡◌, Bool, true, false, refl, sym, ap, subst, ◌∙◌, List, ◌++◌, length, Option, Some, None}
use Rattle.std.proofs.lemmas.Bool.{and_parts, not-true}
use Rattle.sp_base.specs.declared.places.Span.{Span}
use Rattle.sp_words.specs.declared.words.AttributeName.{AttributeName}
use Rattle.sp_words.specs.declared.words.AttributeName.TheVariants as name_is
use Rattle.sp_ast.specs.Trees.{Tree, Trees, absent, row, node, none, more}
use Rattle.sp_ast.specs.Trees as trees
use Rattle.sp_ast.specs.Slots.{is_formed}
use Rattle.sp_ast.specs.Groups.{is_of, are_of, fits as stands_as}
use Rattle.sp_ast.specs.declared.groups.Group.TheVariants as group_is
use Rattle.sp_ast.specs.declared.groups.Sort.TheVariants as stands
use Rattle.sp_ast.specs.declared.forms.Form.TheVariants as form_is
use Rattle.sp_ast.specs.declared.forms.BaseForm.TheVariants as base_is
use Rattle.sp_rules.specs.declared.fault.Fault.{Fault}
use Rattle.sp_types.specs.Types.{Ty, is_plain}
use Rattle.sp_typed.specs.declared.words.Standing.TheVariants as standing_is
use Rattle.sp_typed.specs.Exprs.{Expr, type_of}
use Rattle.sp_typed.specs.Nodes.{nodes}
use Rattle.sp_typed_units.specs.declared.declarations.Parameter.{Parameter}
use Rattle.sp_typed_units.specs.declared.declarations.Typed.{Typed}
use Rattle.sp_typed_units.specs.declared.items.Field.{Field}
use Rattle.sp_typed_units.specs.Specs.{Spec}
use Rattle.sp_type_operands.specs.Operands.{unknown, boolean}
use Rattle.sp_type_operands.specs.Literals.{is_past}
use Rattle.sp_type_context.specs.declared.places.Place.TheVariants.{Whole}
use Rattle.sp_type_context.specs.Contexts.{Around}
use Rattle.sp_type_context.specs.Typing.{typed, typed_all}
use Rattle.sp_type_fields.specs.declared.attributes.Site.{Site}
use Rattle.sp_type_fields.specs.declared.readings.Read.{Read}
use Rattle.sp_type_fields.specs.declared.roles.Kind.{Kind}
use Rattle.sp_type_fields.specs.Roles.{role_of}
use Rattle.sp_type_fields.specs.Values.{Values}
use Rattle.sp_type_scopes.specs.Decorators.{meant, with_current}
use Rattle.sp_type_fields.specs.Attributes.{attribute_by, attributes, if_convert, or_next, conversion, converted}
use Rattle.sp_ast.specs.Views.{present}
use Rattle.sp_type_fields.specs.Readings.{container, contained, base_read, counted_read}
use Rattle.sp_type_fields.specs.Parts.{Fields, field_of}
use Rattle.sp_solver.specs.Rounds.{Within}
use Rattle.sp_solver.specs.Told.{told}
use Rattle.sp_names.specs.Types.{or_unknown}
use Rattle.sp_rule_bodies.specs.Known.{Known}
use Rattle.sp_rule_bodies.specs.Values.{is_no_value, wrong, right_tests}
use Rattle.sp_rule_bodies.specs.ExprTests.{expr_tests}
use Rattle.sp_rule_lists.specs.Lists.{all_tests}
use Rattle.sp_rule_lists.specs.Names.{expr_names, attribute_names, spec_names, field_names}
use Rattle.sp_rule_lists.specs.Bodies.{inside_tests}
use Rattle.sp_rule_lists.specs.Fields.{asked_tests, attribute_tests, spec_tests, field_tests}
use Rattle.sp_type_fields.specs.Kinds.{kind_of}
use Rattle.sp_type_values.specs.Answers.{values}
use Rattle.sp_type_modules.specs.declared.sources.Source.{Source}
use Rattle.sp_type_modules.specs.declared.sources.Source.TheVariants as source_is
use Rattle.sp_type_modules.specs.Sources.{questions}
use Rattle.sp_type_members.specs.Opens.{or_else, conversion_open, base_open}
use Rattle.sp_type_members.specs.Tries.{source_type, source_open}
use Rattle.sp_type_members.specs.inside.Kept.{else_none, or_none}
use Rattle.sp_type_members.specs.inside.Typed.{typed_kept}
use Rattle.sp_type_members.specs.inside.Aligned.{are_in_row}
use Rattle.sp_type_members.specs.inside.Laws.{source_kept}
use Rattle.sp_type_answers.specs.Settled.{Answers}
use Rattle.sp_type_answers.specs.Lists.{typed_of}
use Rattle.sp_type_answers.specs.Rules.{Breaks}
use Rattle.sp_law_lists.specs.known_types.Full.{has_value, is_full}
use Rattle.sp_law_lists.specs.known_types.Clear.{none_hold, any_op}
use Rattle.sp_law_lists.proofs.known_types_lemmas.Full.{never}
use Rattle.sp_law_lists.proofs.known_types_lemmas.Formed.{formed_expr}
use Rattle.sp_law_lists.proofs.known_types_lemmas.Tests.{Holds, valued_by, value_of, seen_is, seen_full}
use Rattle.sp_law_lists.proofs.known_types_lemmas.Typed.{typed_holds}
use Rattle.sp_law_lists.proofs.whole_list_lemmas.Heads.{parameters_full}
use Rattle.sp_law_lists.proofs.whole_list_lemmas.None.{none_parts, none_all, expr_clear}
use Rattle.sp_law_lists.specs.known_constants.Fine.{IsFine, AreFine}
use Rattle.sp_law_lists.specs.known_constants.Given.{asked}
use Rattle.sp_law_lists.proofs.known_constants_lemmas.Fine.{inside as parts_fine, first, rest, formed, written}
use Rattle.sp_law_lists.proofs.known_constants_lemmas.Named.{tree_told}
use Rattle.sp_law_lists.proofs.unbroken_list_lemmas.Lists.{are_unbroken}
use Rattle.sp_law_lists.specs.known_members.Given.{is_read}
use Rattle.sp_law_lists.proofs.known_members_lemmas.Shapes.{field_parts}
use Rattle.sp_law_lists.proofs.known_members_lemmas.Readings.{IsValued, integer_full, integer_valued, type_sound, called_sound, type_valued, called_valued, contained_valued, contained_full}
use Rattle.sp_law_lists.proofs.known_members_lemmas.Contexts.{FullMembers, unit_home, inside, types, paths, meant_known}

-- a value of which something is asked
pub right_parts : (m : ℕ) (right : Bool) (e : Expr) (others : List (Bool × Fault)) → none_hold (right_tests m right e ++ others) ≡ true → (is_no_value e ≡ false) × (is_past e ≡ false) × (none_hold others ≡ true)
right_parts m right e others h =
    let w = wrong m right e in
    let p = none_parts (right_tests m right e) others h in
    let valued = and_parts (not (is_no_value e)) (not (is_past e) && (not w.0 && true)) p.0 in
    let within = and_parts (not (is_past e)) (not w.0 && true) valued.1 in
    (not-true (is_no_value e) valued.0, not-true (is_past e) within.0, p.1)

-- Types that are known so far, where a truth stands for each that isn't.
abbrev full_or : Option Ty → Option Ty
full_or None = Some boolean
full_or (Some t) = Some t

abbrev pub filled : (ℕ → Option Ty) → ℕ → Option Ty
filled s i = full_or (s i)

abbrev pub AllFull : (ℕ → Option Ty) → Type 0
AllFull s = (i : ℕ) (u : Ty) → s i ≡ Some u → is_full u ≡ true

filled_within : (s : ℕ → Option Ty) → Within s (filled s)
filled_within s i u e = ap full_or e

pub filled_full : (s : ℕ → Option Ty) → AllFull s → (i : ℕ) → is_full (or_unknown (filled s i)) ≡ true
filled_full s all i = by (s i) refl
  where
    by : (o : Option Ty) → s i ≡ o → is_full (or_unknown (full_or o)) ≡ true
    by None e = refl
    by (Some u) e = all i u e

module _ (list : List Tree) (a : Answers list) (formed_list : list_all is_formed list ≡ true) (unbroken : (x : Fault) → Breaks list x → ⊥) (n m : ℕ) (ps : List Parameter) where
  abbrev f : ℕ → Option Ty
  f = told a.types

  abbrev t : Typed
  t = typed_of list a

  abbrev k : Known
  k = asked t

  abbrev pub v : Values
  v = values list f (told a.values)

  abbrev count : ℕ
  count = length (questions list)

  -- what stands round its expressions where so much is known of members, and where all is
  abbrev pub here : (ℕ → Option Ty) → Around
  here s = inside list a formed_list unbroken n m ps s

  abbrev pub last : Around
  last = here (told a.stored)

  abbrev Fine : Tree → Type 0
  Fine x = IsFine list f m x

  -- a conversion in which no rule is broken
  abbrev pub IsConversion : Ty → Option Tree → Type 0
  IsConversion u None = Unit {0}
  IsConversion u (Some e) =
      (is_of group_is.Expressions e ≡ true) × Fine e × (none_hold (expr_names m (typed (meant u last) e)) ≡ true) × (none_hold (asked_tests k m (is_plain (type_of (typed (meant u last) e))) (typed (meant u last) e)) ≡ true)

  one_conversion : (s : Site) (kind : Kind) (stored : Ty) (span : Span) (name : AttributeName) (value : Tree) (ts : Trees) → stands_as (stands.Optional group_is.Expressions) value ≡ true → Fine value
      → none_hold (attribute_tests k m kind stored (attribute_by last v s (role_of s.kind name) span name (present value))) ≡ true → none_hold (attribute_names m (attribute_by last v s (role_of s.kind name) span name (present value))) ≡ true
      → IsConversion s.read (conversion ts) → IsConversion s.read (or_next (if_convert name (present value)) (conversion ts))
  one_conversion s kind stored span name_is.Convert absent ts of h tests names next = next
  one_conversion s kind stored span name_is.Convert (row us) ts of h tests names next = never of
  one_conversion s kind stored span name_is.Convert (node form at us) ts of h tests names next = (of, h, names, tests)
  one_conversion s kind stored span _ value ts of h tests names next = next

  pub is_conversion : (s : Site) (kind : Kind) (stored : Ty) (ts : Trees) → are_of group_is.Attributes ts ≡ true → AreFine list f m ts → none_hold (all_tests (attribute_tests k m kind stored) (attributes last v s ts)) ≡ true → none_hold (all_tests (attribute_names m) (attributes last v s ts)) ≡ true
      → IsConversion s.read (conversion ts)
  is_conversion s kind stored none of h tests names = tt
  is_conversion s kind stored (more (node (form_is.Attribute name) span (more value none)) ts) of h tests names =
      let one = attribute_by last v s (role_of s.kind name) span name (present value) in
      let x = none_parts (attribute_tests k m kind stored one) (all_tests (attribute_tests k m kind stored) (attributes last v s ts)) tests in
      let y = none_parts (attribute_names m one) (all_tests (attribute_names m) (attributes last v s ts)) names in
      let fine = first list f m (node (form_is.Attribute name) span (more value none)) ts h in
      let suits = and_parts (stands_as (stands.Optional group_is.Expressions) value) true (formed list f m (form_is.Attribute name) span (more value none) fine) in
      one_conversion s kind stored span name value ts suits.0 (first list f m value none (parts_fine list f m (form_is.Attribute name) span (more value none) fine)) x.0 y.0 (is_conversion s kind stored ts of (rest list f m (node (form_is.Attribute name) span (more value none)) ts h) x.1 y.1)
  is_conversion s kind stored (more (node (form_is.Attribute name) span none) ts) of h tests names = is_conversion s kind stored ts of (rest list f m (node (form_is.Attribute name) span none) ts h) tests names
  is_conversion s kind stored (more (node (form_is.Attribute name) span (more value (more x us))) ts) of h tests names =
      is_conversion s kind stored ts of (rest list f m (node (form_is.Attribute name) span (more value (more x us))) ts h) tests names
  is_conversion s kind stored (more (node form span us) ts) of h tests names = never of
  is_conversion s kind stored (more absent ts) of h tests names = never of
  is_conversion s kind stored (more (row us) ts) of h tests names = never of

  -- a reading in which no rule is broken
  abbrev pub IsGood : Spec → Type 0
  IsGood s = (none_hold (spec_tests k m s) ≡ true) × (none_hold (spec_names m s) ≡ true) × (is_read s ≡ true)

  pub element_good : (at : Span) (counts : Trees) (r : Read) → IsGood (contained last at counts r).spec → IsGood r.spec
  element_good at none r good = good
  element_good at (more (node form_is.Count span (more c none)) ts) r good =
      let inner = element_good at ts (container last at span (present c) r) good in
      ((none_parts (spec_tests k m r.spec) _ inner.0).0, (none_parts (spec_names m r.spec) _ inner.1).0, inner.2)
  element_good at (more x ts) r good = element_good at ts r good

  abbrev pub FieldGood : Field → Type 0
  FieldGood x = (none_hold (field_tests k m x) ≡ true) × (none_hold (field_names m x) ≡ true) × (is_read x.spec ≡ true)

  -- a source whose type is full wherever the types on which it hangs are known, and all of these are full
  abbrev pub IsSound : Source → Type 0
  IsSound s = (r : ℕ → Option Ty) → Within r (told a.stored) → AllFull r → source_open list count r (here r) v s ≡ None → is_full (source_type last v s) ≡ true

  module _ (full : parameters_full ps ≡ true) (members : (s : ℕ → Option Ty) → ((i : ℕ) → is_full (or_unknown (s i)) ≡ true) → FullMembers list s) where
    module _ (r : ℕ → Option Ty) (w : Within r (told a.stored)) (all : AllFull r) where
      -- what is read hangs on no more than the conversions inside
      counted_alike : (base : Tree) (counts : Trees) → base_open list count r (here r) v base ≡ None → (counted_read last v base counts).ty ≡ (counted_read (here r) v base counts).ty
      counted_alike base counts e =
          let plain = node form_is.Field (trees.span_of base) (more absent (more base (more (row counts) (more (row none) none)))) in
          (source_kept list count (are_in_row list) r (told a.stored) w v (unit_home list a n m ps) (source_is.Field plain)).same (or_none (base_open list count r (here r) v base) ∙ e)

      converted_full : (u : Ty) (e : Option Tree) → is_full u ≡ true → conversion_open list count r (here r) u e ≡ None → IsConversion u e → is_full (converted last u e) ≡ true
      converted_full u None fu open_ good = fu
      converted_full u (Some e) fu open_ good =
          let o = with_current u standing_is.Meant (unit_home list a n m ps) in
          let x = typed (meant u last) e in
          let later = typed_kept list count (are_in_row list) r (told a.stored) w o e in
          let whole = typed_kept list count (are_in_row list) r (filled r) (filled_within r) o e in
          let same : typed (meant u (here (filled r))) e ≡ x = whole.same open_ ∙ sym (later.same open_) in
          let q = right_parts m (is_plain (type_of x)) x (inside_tests k m x) good.3 in
          let clear = expr_clear k m x good.2 (none_all (expr_tests k m) (nodes x) q.2) in
          let it = are_unbroken list a formed_list unbroken in
          let ty = types list a formed_list unbroken n m ps in
          let path = paths list a formed_list unbroken n m ps in
          let is = formed_expr ty path e good.0 good.1.0 (written list f m (told a.values) e good.1 (tree_told list f (told a.values) t it m e)) in
          let known = meant_known list a formed_list unbroken n m ps full (filled r) (members (filled r) (filled_full r all)) u fu in
          let holding = subst (λ y. Holds any_op k m y) same (typed_holds (meant u (here (filled r))) any_op k m ty path known e is) in
          seen_full x (value_of any_op k m x holding clear q.0 q.1)

      -- a conversion gives a value
      converted_valued : (u : Ty) (e : Option Tree) → IsConversion u e → has_value u ≡ true → has_value (converted last u e) ≡ true
      converted_valued u None good valued = valued
      converted_valued u (Some e) good valued =
          let x = typed (meant u last) e in
          let q = right_parts m (is_plain (type_of x)) x (inside_tests k m x) good.3 in
          ap has_value (seen_is x q.1) ∙ ap not (valued_by x q.0)

      -- what is read, and then made of it by a conversion
      pub behind_full : (base : Tree) (counts ts : Trees) → is_full (counted_read last v base counts).ty ≡ true
          → or_else (base_open list count r (here r) v base) (conversion_open list count r (here r) (counted_read (here r) v base counts).ty (conversion ts)) ≡ None
          → IsConversion (counted_read last v base counts).ty (conversion ts) → is_full (converted last (counted_read last v base counts).ty (conversion ts)) ≡ true
      behind_full base counts ts fu open_ good =
          let opens = else_none (base_open list count r (here r) v base) (conversion_open list count r (here r) (counted_read (here r) v base counts).ty (conversion ts)) open_ in
          let same = counted_alike base counts opens.0 in
          converted_full (counted_read last v base counts).ty (conversion ts) fu (subst (λ u. conversion_open list count r (here r) u (conversion ts) ≡ None) (sym same) opens.1) good

      pub base_full : (x : Tree) → is_of group_is.Bases x ≡ true → Fine x → IsGood (base_read last v x).spec → base_open list count r (here r) v x ≡ None → (is_full (base_read last v x).ty ≡ true) × IsValued (base_read last v x)
      base_full (node (form_is.Base base_is.Type) at (more u none)) of h good open_ = (type_sound last v at u (last.type_in Whole u) good.2, type_valued last v at u (last.type_in Whole u))
      base_full (node (form_is.Base base_is.Unit) at (more path (more (row ts) none))) of h good open_ =
          (called_sound last v at (trees.span_of path) (last.named (trees.span_of path) path) _ good.2, called_valued last v at (trees.span_of path) (last.named (trees.span_of path) path) (typed_all last ts))
      base_full (node (form_is.Base base_is.Group) at (more inner (more (row counts) (more (row ts) none)))) of h good open_ =
          let ws = more inner (more (row counts) (more (row ts) none)) in
          let fill_ = and_parts (is_of group_is.Bases inner) (are_of group_is.Counts counts && (are_of group_is.Attributes ts && true)) (formed list f m (form_is.Base base_is.Group) at ws h) in
          let fill_behind = and_parts (are_of group_is.Counts counts) (are_of group_is.Attributes ts && true) fill_.1 in
          let fill_ts = (and_parts (are_of group_is.Attributes ts) true fill_behind.1).0 in
          let fine = parts_fine list f m (form_is.Base base_is.Group) at ws h in
          let fine_inner = first list f m inner (more (row counts) (more (row ts) none)) fine in
          let fine_ts = first list f m (row ts) none (rest list f m (row counts) (more (row ts) none) (rest list f m inner (more (row counts) (more (row ts) none)) fine)) in
          let read = counted_read last v inner counts in
          let site : Site = record { kind = read.kind; read = read.ty; stored = converted last read.ty (conversion ts); of_field = false } in
          let tests = none_parts (spec_tests k m read.spec) (all_tests (attribute_tests k m (kind_of read.spec) unknown) (attributes last v site ts)) good.0 in
          let names = none_parts (spec_names m read.spec) (all_tests (attribute_names m) (attributes last v site ts)) good.1 in
          let opens = else_none (base_open list count r (here r) v inner) (conversion_open list count r (here r) (counted_read (here r) v inner counts).ty (conversion ts)) open_ in
          let base = base_full inner fill_.0 fine_inner (element_good (trees.span_of inner) counts (base_read last v inner) (tests.0, names.0, good.2)) opens.0 in
          let good_ts = is_conversion site (kind_of read.spec) unknown ts fill_ts fine_ts tests.1 names.1 in (
            behind_full inner counts ts (contained_full last v k m (trees.span_of inner) counts (base_read last v inner) tests.0 base.1 base.0) open_ good_ts,
            λ e. converted_valued read.ty (conversion ts) good_ts (contained_valued last v (trees.span_of inner) counts (base_read last v inner) base.1 e),
          )
      base_full (node (form_is.Base (base_is.Bytes bytes)) at none) of h good open_ = (refl, λ e. refl)
      base_full (node (form_is.Base (base_is.Regex text)) at none) of h good open_ = (refl, λ e. refl)
      base_full (node (form_is.Base (base_is.Number x)) at (more u none)) of h good open_ = (integer_full x, λ e. integer_valued x)
      base_full _ of h good open_ = never good.2

    pub field_sound : (fields : Fields) (span : Span) (name base : Tree) (counts ts : Trees) (condition sink hooks : Tree) → Fine (node form_is.Field span (field_parts name base counts ts condition sink hooks))
        → FieldGood (field_of last v fields span (present name) (counted_read last v base counts) ts (present condition) (present sink)) → IsSound (source_is.Field (node form_is.Field span (field_parts name base counts ts condition sink hooks)))
    field_sound fields span name base counts ts condition sink hooks h good r w all open_ =
        let tail = more condition (more sink (more hooks none)) in
        let optional = stands.Optional group_is.Expressions in
        let ends = stands_as optional condition && (stands_as optional sink && (stands_as (stands.Rows group_is.HookBodies) hooks && true)) in
        let whole = field_of last v fields span (present name) (counted_read last v base counts) ts (present condition) (present sink) in
        let read = counted_read last v base counts in
        let site : Site = record { kind = read.kind; read = read.ty; stored = converted last read.ty (conversion ts); of_field = true } in
        let at_name = and_parts (stands_as (stands.Optional group_is.Names) name) (is_of group_is.Bases base && (are_of group_is.Counts counts && (are_of group_is.Attributes ts && ends))) (formed list f m form_is.Field span (field_parts name base counts ts condition sink hooks) h) in
        let at_base = and_parts (is_of group_is.Bases base) (are_of group_is.Counts counts && (are_of group_is.Attributes ts && ends)) at_name.1 in
        let at_counts = and_parts (are_of group_is.Counts counts) (are_of group_is.Attributes ts && ends) at_base.1 in
        let at_ts = and_parts (are_of group_is.Attributes ts) ends at_counts.1 in
        let fine = rest list f m name (more base (more (row counts) (more (row ts) tail))) (parts_fine list f m form_is.Field span (field_parts name base counts ts condition sink hooks) h) in
        let fine_behind = rest list f m base (more (row counts) (more (row ts) tail)) fine in
        let fine_ts = first list f m (row ts) tail (rest list f m (row counts) (more (row ts) tail) fine_behind) in
        let tests = none_parts (spec_tests k m read.spec) _ good.0 in
        let tests_ts = none_parts (all_tests (attribute_tests k m (kind_of read.spec) whole.ty) (attributes last v site ts)) _ tests.1 in
        let named = and_parts (not whole.taken) _ good.1 in
        let names = none_parts (spec_names m read.spec) _ named.1 in
        let names_ts = none_parts (all_tests (attribute_names m) (attributes last v site ts)) _ names.1 in
        let opens = else_none (base_open list count r (here r) v base) _ open_ in
        let inner = base_full r w all base at_base.0 (first list f m base (more (row counts) (more (row ts) tail)) fine) (element_good (trees.span_of base) counts (base_read last v base) (tests.0, names.0, good.2)) opens.0 in
        behind_full r w all base counts ts (contained_full last v k m (trees.span_of base) counts (base_read last v base) tests.0 inner.1 inner.0) open_ (is_conversion site (kind_of read.spec) whole.ty ts at_ts.0 fine_ts tests_ts.0 names_ts.0)
