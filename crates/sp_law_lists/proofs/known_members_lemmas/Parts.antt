-- What the parts of a unit read can be read, where no rule is broken in them.
use Rattle.std.specs.Prelude.{◌&&◌}
use Rattle.std.specs.List.{list_all}
use Rattle.std.proofs.Common.{ℕ, ◌≡◌, true, refl, sym, subst, List, ◌++◌, Option}
use Rattle.std.proofs.lemmas.Bool.{and_parts, and_from}
use Rattle.sp_base.specs.declared.places.Span.{Span}
use Rattle.sp_ast.specs.Trees.{Tree, Trees, absent, row, node, none, more}
use Rattle.sp_ast.specs.Slots.{is_formed}
use Rattle.sp_ast.specs.Groups.{is_of, are_of, fits as stands_as}
use Rattle.sp_ast.specs.declared.groups.Group.TheVariants as group_is
use Rattle.sp_ast.specs.declared.groups.Sort.TheVariants as stands
use Rattle.sp_ast.specs.declared.forms.Form.TheVariants as form_is
use Rattle.sp_ast.specs.declared.forms.ItemForm.TheVariants as item_is
use Rattle.sp_ast.specs.declared.forms.PartForm.TheVariants as part_is
use Rattle.sp_ast.specs.declared.forms.BodyForm.TheVariants as body_is
use Rattle.sp_rules.specs.declared.fault.Fault.{Fault}
use Rattle.sp_types.specs.Types.{Ty}
use Rattle.sp_typed.specs.Exprs.{Expr, exprs}
use Rattle.sp_typed_units.specs.declared.declarations.Parameter.{Parameter}
use Rattle.sp_typed_units.specs.declared.declarations.Unit.{Unit}
use Rattle.sp_typed_units.specs.Parts.{Part, Parts, Arms, no_parts, more_parts, parts}
use Rattle.sp_type_context.specs.Contexts.{Around}
use Rattle.sp_type_fields.specs.Values.{Values}
use Rattle.sp_type_fields.specs.Attributes.{maybe_typed}
use Rattle.sp_ast.specs.Views.{present}
use Rattle.sp_type_fields.specs.Readings.{counted_read}
use Rattle.sp_type_fields.specs.Parts.{Fields, arm_of, field_in, part_of, parts_of, body_of, arms_of}
use Rattle.sp_solver.specs.Told.{told}
use Rattle.sp_rule_bodies.specs.Known.{Known}
use Rattle.sp_rule_lists.specs.Lists.{option_tests}
use Rattle.sp_rule_lists.specs.Fields.{spec_tests, subject_tests, arm_tests, part_tests, parts_tests, arms_tests}
use Rattle.sp_rule_units.specs.declared.here.Here.{Here}
use Rattle.sp_rule_units.specs.Readings.{maybe_tests, exprs_tests, spec_tests as own_tests}
use Rattle.sp_rule_units.specs.Units.{part_tests as part_rules, parts_tests as parts_rules, arms_tests as arms_rules}
use Rattle.sp_type_units.specs.Items.{parts_in}
use Rattle.sp_type_answers.specs.Settled.{Answers}
use Rattle.sp_type_answers.specs.Lists.{typed_of}
use Rattle.sp_type_answers.specs.Rules.{Breaks}
use Rattle.sp_law_lists.specs.known_types.Clear.{none_hold}
use Rattle.sp_law_lists.proofs.known_types_lemmas.Full.{never}
use Rattle.sp_law_lists.proofs.whole_list_lemmas.None.{none_parts}
use Rattle.sp_law_lists.specs.known_constants.Fine.{IsFine, AreFine}
use Rattle.sp_law_lists.specs.known_constants.Given.{asked}
use Rattle.sp_law_lists.proofs.known_constants_lemmas.Fine.{inside as parts_fine, first, rest, formed}
use Rattle.sp_law_lists.specs.known_members.Given.{part_reads, parts_read, arms_read}
use Rattle.sp_law_lists.proofs.known_members_lemmas.Shapes.{field_parts, field_whole}
use Rattle.sp_law_lists.proofs.known_members_lemmas.Fields.{v, last}
use Rattle.sp_law_lists.proofs.known_members_lemmas.Readable.{IsFineRead, counted_reads}

module _ (list : List Tree) (a : Answers list) (formed_list : list_all is_formed list ≡ true) (unbroken : (x : Fault) → Breaks list x → ⊥) (n m : ℕ) (ps : List Parameter) (us : List Unit) (d : Here) (fields : Fields) where
  abbrev f : ℕ → Option Ty
  f = told a.types

  abbrev k : Known
  k = asked (typed_of list a)

  abbrev g : Around
  g = last list a formed_list unbroken n m ps

  abbrev worth : Values
  worth = v list a formed_list unbroken n m ps

  -- a tree in which each alternative has its parts
  abbrev Fine : Tree → Type 0
  Fine x = IsFine list f m x

  abbrev AllFine : Trees → Type 0
  AllFine xs = AreFine list f m xs

  -- parts in which no rule is broken
  abbrev IsSound : Part → Type 0
  IsSound p = (none_hold (part_tests k m p) ≡ true) × (none_hold (part_rules us d p) ≡ true)

  abbrev pub AreSound : Parts → Type 0
  AreSound xs = (none_hold (parts_tests k m xs) ≡ true) × (none_hold (parts_rules us d xs) ≡ true)

  abbrev ArmsSound : Option Expr → Arms → Type 0
  ArmsSound subject rows = (none_hold (arms_tests k m subject rows) ≡ true) × (none_hold (arms_rules us d rows) ≡ true)

  first_sound : (p : Part) (xs : Parts) → AreSound (more_parts p xs) → IsSound p × AreSound xs
  first_sound p xs h =
      let x = none_parts (part_tests k m p) (parts_tests k m xs) h.0 in
      let y = none_parts (part_rules us d p) (parts_rules us d xs) h.1 in
      ((x.0, y.0), (x.1, y.1))

  field_whole_reads : (span : Span) (name base : Tree) (counts ts : Trees) (condition sink hooks : Tree) → Fine (node form_is.Field span (field_parts name base counts ts condition sink hooks))
      → IsSound (field_in g worth fields (node form_is.Field span (field_parts name base counts ts condition sink hooks))) → part_reads (field_in g worth fields (node form_is.Field span (field_parts name base counts ts condition sink hooks))) ≡ true
  field_whole_reads span name base counts ts condition sink hooks h good =
      let ws = field_parts name base counts ts condition sink hooks in
      let behind = more (row counts) (more (row ts) (more condition (more sink (more hooks none)))) in
      let x = first list f m base behind (rest list f m name (more base behind) (parts_fine list f m form_is.Field span ws h)) in
      let o = and_parts (stands_as (stands.Optional group_is.Names) name) (is_of group_is.Bases base && _) (formed list f m form_is.Field span ws h) in
      let read = counted_read g worth base counts in
      let fine : IsFineRead list a formed_list unbroken n m ps us d read.spec = record { own = _; fine = ((none_parts (spec_tests k m read.spec) _ good.0).0, (none_parts (own_tests us d _ read.spec) _ good.1).0) } in
      counted_reads list a formed_list unbroken n m ps us d base counts (and_parts (is_of group_is.Bases base) _ o.1).0 x fine

  field_reads : (x : Tree) → is_of group_is.Fields x ≡ true → Fine x → IsSound (field_in g worth fields x) → part_reads (field_in g worth fields x) ≡ true
  field_reads (node form_is.Field span ws) of h good =
      let w = field_whole ws (formed list f m form_is.Field span ws h) in
      subst (λ xs. Fine (node form_is.Field span xs) → IsSound (field_in g worth fields (node form_is.Field span xs)) → part_reads (field_in g worth fields (node form_is.Field span xs)) ≡ true) (sym w.is)
      (field_whole_reads span w.name w.base w.counts w.attributes w.condition w.sink w.hooks) h good
  field_reads (node _ span ws) of h good = never of
  field_reads absent of h good = never of
  field_reads (row ws) of h good = never of

  mutual
    part_all : (x : Tree) → is_of group_is.Parts x ≡ true → Fine x → IsSound (part_of g worth fields x) → part_reads (part_of g worth fields x) ≡ true
    part_all (node (form_is.Part part_is.Field) at none) of h good = refl
    part_all (node (form_is.Part part_is.Field) at (more x none)) of h good =
        let p = and_parts (is_of group_is.Fields x) true (formed list f m (form_is.Part part_is.Field) at (more x none) h) in
        field_reads x p.0 (first list f m x none (parts_fine list f m (form_is.Part part_is.Field) at (more x none) h)) good
    part_all (node (form_is.Part part_is.Field) at (more x (more y z))) of h good = refl
    part_all (node (form_is.Part part_is.Switch) at (more subject (more (row ts) none))) of h good =
        let ws = more subject (more (row ts) none) in
        let subject_ = maybe_typed g (present subject) in
        let p = and_parts (stands_as (stands.Optional group_is.Expressions) subject) (are_of group_is.Arms ts && true) (formed list f m (form_is.Part part_is.Switch) at ws h) in
        let behind = rest list f m subject (more (row ts) none) (parts_fine list f m (form_is.Part part_is.Switch) at ws h) in
        let x = none_parts (option_tests (subject_tests k m) subject_) (arms_tests k m subject_ (arms_of g worth fields subject_ ts)) good.0 in
        let y = none_parts (maybe_tests us d subject_) (arms_rules us d (arms_of g worth fields subject_ ts)) good.1 in
        arms_all ts subject_ (and_parts (are_of group_is.Arms ts) true p.1).0 (first list f m (row ts) none behind) (x.1, y.1)
    part_all (node (form_is.Part _) at xs) of h good = refl
    part_all (node _ at xs) of h good = never of
    part_all absent of h good = never of
    part_all (row xs) of h good = never of

    parts_all : (xs : Trees) → are_of group_is.Parts xs ≡ true → AllFine xs → AreSound (parts (parts_of g worth fields xs)) → parts_read (parts (parts_of g worth fields xs)) ≡ true
    parts_all none of h good = refl
    parts_all (more x xs) of h good =
        let o = and_parts (is_of group_is.Parts x) (are_of group_is.Parts xs) of in
        let s = first_sound (part_of g worth fields x) (parts (parts_of g worth fields xs)) good in
        and_from (part_reads (part_of g worth fields x)) (parts_read (parts (parts_of g worth fields xs))) (part_all x o.0 (first list f m x xs h) s.0) (parts_all xs o.1 (rest list f m x xs h) s.1)

    body_all : (x : Tree) → is_of group_is.Bodies x ≡ true → Fine x → AreSound (parts (body_of g worth fields x)) → parts_read (parts (body_of g worth fields x)) ≡ true
    body_all (node (form_is.Body body_is.One) span none) of h good = refl
    body_all (node (form_is.Body body_is.One) span (more x none)) of h good =
        let p = and_parts (is_of group_is.Parts x) true (formed list f m (form_is.Body body_is.One) span (more x none) h) in
        let s = first_sound (part_of g worth fields x) no_parts good in
        and_from (part_reads (part_of g worth fields x)) true (part_all x p.0 (first list f m x none (parts_fine list f m (form_is.Body body_is.One) span (more x none) h)) s.0) refl
    body_all (node (form_is.Body body_is.One) span (more x (more y z))) of h good = refl
    body_all (node (form_is.Body body_is.Many) span xs) of h good =
        parts_all xs (formed list f m (form_is.Body body_is.Many) span xs h) (parts_fine list f m (form_is.Body body_is.Many) span xs h) good
    body_all (node (form_is.Body body_is.Nothing) span xs) of h good = refl
    body_all (node _ span xs) of h good = never of
    body_all absent of h good = never of
    body_all (row xs) of h good = never of

    arms_all : (xs : Trees) (subject : Option Expr) → are_of group_is.Arms xs ≡ true → AllFine xs → ArmsSound subject (arms_of g worth fields subject xs) → arms_read (arms_of g worth fields subject xs) ≡ true
    arms_all none subject of h good = refl
    arms_all (more (node form_is.Arm span (more guard (more body none))) xs) subject of h good =
        let ws = more guard (more body none) in
        let x = node form_is.Arm span ws in
        let w = first list f m x xs h in
        let p = and_parts (is_of group_is.Guards guard) (is_of group_is.Bodies body && true) (formed list f m form_is.Arm span ws w) in
        let q = first list f m body none (rest list f m guard (more body none) (parts_fine list f m form_is.Arm span ws w)) in
        let arm = arm_of g subject guard in
        let ys = parts (body_of g worth fields body) in
        let later = arms_of g worth fields subject xs in
        let i = none_parts (arm_tests k m subject arm) (parts_tests k m ys ++ arms_tests k m subject later) good.0 in
        let j = none_parts (parts_tests k m ys) (arms_tests k m subject later) i.1 in
        let c = none_parts (exprs_tests us d (exprs arm.values)) (parts_rules us d ys ++ arms_rules us d later) good.1 in
        let e = none_parts (parts_rules us d ys) (arms_rules us d later) c.1 in
        and_from (parts_read ys) (arms_read later) (body_all body (and_parts (is_of group_is.Bodies body) true p.1).0 q (j.0, e.0)) (arms_all xs subject of (rest list f m x xs h) (j.1, e.1))
    arms_all (more (node form_is.Arm span none) xs) subject of h good = arms_all xs subject of (rest list f m (node form_is.Arm span none) xs h) good
    arms_all (more (node form_is.Arm span (more guard none)) xs) subject of h good = arms_all xs subject of (rest list f m (node form_is.Arm span (more guard none)) xs h) good
    arms_all (more (node form_is.Arm span (more guard (more body (more y z)))) xs) subject of h good =
        arms_all xs subject of (rest list f m (node form_is.Arm span (more guard (more body (more y z)))) xs h) good
    arms_all (more (node _ span ys) xs) subject of h good = never of
    arms_all (more absent xs) subject of h good = never of
    arms_all (more (row ys) xs) subject of h good = never of

  -- All that the items of a unit read.
  pub items_read : (xs : Trees) → are_of group_is.Items xs ≡ true → AllFine xs → AreSound (parts (parts_in g worth fields xs)) → parts_read (parts (parts_in g worth fields xs)) ≡ true
  items_read none of h good = refl
  items_read (more (node (form_is.Item item_is.Part) span (more x none)) xs) of h good =
      let w = first list f m (node (form_is.Item item_is.Part) span (more x none)) xs h in
      let p = and_parts (is_of group_is.Parts x) true (formed list f m (form_is.Item item_is.Part) span (more x none) w) in
      let s = first_sound (part_of g worth fields x) (parts (parts_in g worth fields xs)) good in
      let inner = first list f m x none (parts_fine list f m (form_is.Item item_is.Part) span (more x none) w) in
      and_from (part_reads (part_of g worth fields x)) (parts_read (parts (parts_in g worth fields xs))) (part_all x p.0 inner s.0) (items_read xs of (rest list f m (node (form_is.Item item_is.Part) span (more x none)) xs h) s.1)
  items_read (more (node (form_is.Item item_is.Part) span none) xs) of h good = items_read xs of (rest list f m (node (form_is.Item item_is.Part) span none) xs h) good
  items_read (more (node (form_is.Item item_is.Part) span (more x (more y z))) xs) of h good = items_read xs of (rest list f m (node (form_is.Item item_is.Part) span (more x (more y z))) xs h) good
  items_read (more (node (form_is.Item form) span ys) xs) of h good = items_read xs of (rest list f m (node (form_is.Item form) span ys) xs h) good
  items_read (more (node _ span ys) xs) of h good = never of
  items_read (more absent xs) of h good = never of
  items_read (more (row ys) xs) of h good = never of
