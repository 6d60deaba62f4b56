-- What a base of a field is: where no rule is broken at it, and no alias of a type that is made of others is read with arguments, it can
-- be read.
use Rattle.std.specs.Prelude.{Bool, false, ◌&&◌}
use Rattle.std.specs.List.{list_all}
use Rattle.std.proofs.Common.{ℕ, ◌≡◌, true, refl, sym, ap, ◌∙◌, List, [], ◌∷◌, Option, Some, None}
use Rattle.std.proofs.lemmas.Bool.{and_parts}
use Rattle.sp_base.specs.declared.places.Span.{Span}
use Rattle.sp_ast.specs.Trees.{Tree, Trees, absent, row, node, none, more}
use Rattle.sp_ast.specs.Trees as trees
use Rattle.sp_ast.specs.Slots.{is_formed, are_formed}
use Rattle.sp_ast.specs.Groups.{is_of, are_of}
use Rattle.sp_ast.specs.declared.groups.Group.TheVariants as group_is
use Rattle.sp_ast.specs.declared.forms.Form.TheVariants as form_is
use Rattle.sp_ast.specs.declared.forms.BaseForm.TheVariants as base_is
use Rattle.sp_ast.specs.declared.forms.TypeForm.TheVariants as type_is
use Rattle.sp_rules.specs.declared.fault.Fault.{Fault}
use Rattle.sp_types.specs.declared.words.Word.{Word}
use Rattle.sp_types.specs.declared.words.Word.TheVariants as word_is
use Rattle.sp_types.specs.Types.{Ty, word, made}
use Rattle.sp_typed.specs.Exprs.{Expr}
use Rattle.sp_typed_units.specs.declared.attributes.Attribute.{Attribute}
use Rattle.sp_typed_units.specs.declared.declarations.Parameter.{Parameter}
use Rattle.sp_typed_units.specs.declared.declarations.Unit.{Unit}
use Rattle.sp_typed_units.specs.Specs.{Spec}
use Rattle.sp_type_operands.specs.Operands.{unknown}
use Rattle.sp_type_context.specs.declared.places.Place.TheVariants.{Whole}
use Rattle.sp_type_context.specs.Contexts.{Around}
use Rattle.sp_type_fields.specs.declared.readings.Read.{Read}
use Rattle.sp_type_fields.specs.Values.{Values}
use Rattle.sp_ast.specs.Views.{present}
use Rattle.sp_type_fields.specs.Readings.{broken, constant_read, constant_of_type, named_read, word_read, unknown_read, type_read, called_op, called, container, contained, base_read, counted_read}
use Rattle.sp_solver.specs.Told.{told}
use Rattle.sp_names.specs.declared.sort.DeclSort.{DeclSort}
use Rattle.sp_names.specs.declared.sort.DeclSort.TheVariants as sort_is
use Rattle.sp_names.specs.declared.sort.Meaning.{Meaning}
use Rattle.sp_names.specs.declared.sort.Meaning.TheVariants as meaning_is
use Rattle.sp_names.specs.Declarations.{sort_at, number_at}
use Rattle.sp_names.specs.Names.{path_names, path_means}
use Rattle.sp_names.specs.Types.{or_unknown, meaning_type, type_in, mentions_in}
use Rattle.sp_names.specs.Faults.{nothing_fault}
use Rattle.sp_type_modules.specs.Written.{is_type_sort}
use Rattle.sp_type_modules.specs.Arounds.{word_leaf, type_leaf, declared_at, meaning_at, slice_of}
use Rattle.sp_rule_bodies.specs.Known.{Known}
use Rattle.sp_rule_bodies.specs.Values.{written_tests}
use Rattle.sp_rules.specs.Faults.{at as fault_at}
use Rattle.sp_rules.specs.declared.rule.Rule.TheVariants as rule_is
use Rattle.sp_rule_lists.specs.Fields.{spec_tests}
use Rattle.sp_type_values.specs.Answers.{constant_type}
use Rattle.sp_rule_units.specs.declared.here.Here.{Here}
use Rattle.sp_rule_units.specs.Readings.{spec_tests as own_tests}
use Rattle.sp_type_answers.specs.Settled.{Answers}
use Rattle.sp_type_answers.specs.Lists.{typed_of}
use Rattle.sp_type_answers.specs.Rules.{Breaks}
use Rattle.sp_law_lists.specs.known_types.Full.{is_full}
use Rattle.sp_law_lists.specs.known_types.Clear.{none_hold}
use Rattle.sp_law_lists.proofs.known_types_lemmas.Full.{never}
use Rattle.sp_law_lists.specs.whole_list.Known.{HasType}
use Rattle.sp_law_lists.specs.whole_list.Types.{means_something, is_type}
use Rattle.sp_law_lists.proofs.whole_list_lemmas.None.{none_parts}
use Rattle.sp_law_lists.proofs.whole_list_lemmas.Types.{type_full, each_has}
use Rattle.sp_law_lists.proofs.whole_list_lemmas.Functions.{placed}
use Rattle.sp_law_lists.specs.known_constants.Fine.{IsFine}
use Rattle.sp_law_lists.specs.known_constants.Given.{asked}
use Rattle.sp_law_lists.proofs.known_constants_lemmas.Fine.{inside as parts_fine, first, formed, type_fine}
use Rattle.sp_law_lists.proofs.known_constants_lemmas.Places.{constant_there, constant_typed}
use Rattle.sp_law_lists.proofs.known_constants_lemmas.Rounds.{constant_answered}
use Rattle.sp_law_lists.proofs.unbroken_list_lemmas.Lists.{all_types, are_unbroken}
use Rattle.sp_law_lists.specs.known_members.Given.{is_read}
use Rattle.sp_law_lists.proofs.known_members_lemmas.Shapes.{no_first, no_second, no_third}
use Rattle.sp_law_lists.proofs.known_members_lemmas.Named.{is_named_sort, IsNamed, means_named}
use Rattle.sp_law_lists.proofs.known_members_lemmas.Fields.{v, last}

something : (m : ℕ) (path : Tree) (w : Meaning) → none_hold (nothing_fault m path w) ≡ true → means_something w ≡ true
something m path (meaning_is.Nothing k) e = never e
something m path _ e = refl

-- no full type is unknown
no_unknown : {X : Type 0} (t : Ty) → is_full t ≡ true → t ≡ unknown → X
no_unknown t full e = never (sym (ap is_full e) ∙ full)

module _ (list : List Tree) (a : Answers list) (formed_list : list_all is_formed list ≡ true) (unbroken : (x : Fault) → Breaks list x → ⊥) (n m : ℕ) (ps : List Parameter) (us : List Unit) (d : Here) where
  abbrev f : ℕ → Option Ty
  f = told a.types

  abbrev k : Known
  k = asked (typed_of list a)

  abbrev g : Around
  g = last list a formed_list unbroken n m ps

  abbrev worth : Values
  worth = v list a formed_list unbroken n m ps

  abbrev constant : ℕ → Ty
  constant = constant_type list f (told a.values)

  -- a reading at which no rule is broken, whatever attributes it has of its own
  abbrev IsFineWith : List Attribute → Spec → Type 0
  IsFineWith own s = (none_hold (spec_tests k m s) ≡ true) × (none_hold (own_tests us d own s) ≡ true)

  pub record IsFineRead (s : Spec) : Type 0 where
    pub own : List Attribute
    pub fine : IsFineWith own s

  abbrev Reads : List Attribute → Read → Type 0
  Reads own r = IsFineWith own r.spec → is_read r.spec ≡ true

  word_reads : (own : List Attribute) (at : Span) (w : Word) → Reads own (word_read at w)
  word_reads own at (word_is.Uint w) h = refl
  word_reads own at (word_is.Int w) h = refl
  word_reads own at (word_is.Bitfield i) h = refl
  word_reads own at word_is.Bytes h = refl
  word_reads own at word_is.Void h = refl
  word_reads own at (word_is.Unit i) h = refl
  word_reads own at word_is.Decoder h = never h.1
  word_reads own at _ h = never h.0

  constant_reads : (own : List Attribute) (at : Span) (i : ℕ) (w : Word) (x : Expr) → is_full (word w) ≡ true → Reads own (constant_read worth at i w x)
  constant_reads own at i word_is.Bytes x full h = refl
  constant_reads own at i word_is.Regex x full h = refl
  constant_reads own at i word_is.Unknown x full h = never full
  constant_reads own at i _ x full h = never h.0

  constant_type_reads : (own : List Attribute) (at : Span) (i : ℕ) (t : Ty) (x : Expr) → is_full t ≡ true → Reads own (constant_of_type worth at i t x)
  constant_type_reads own at i (word w) x full h = constant_reads own at i w x full h
  constant_type_reads own at i (made j ts) x full h = never h.0

  has_type : (i : ℕ) → HasType list f i
  has_type = all_types list a formed_list unbroken

  constant_full : (i : ℕ) → sort_at list i ≡ sort_is.Constant → is_full (constant (number_at list i)) ≡ true
  constant_full i e =
      let lt = constant_there list f i e in
      constant_typed list f (told a.values) _ lt (constant_answered list f (told a.values) (typed_of list a) (are_unbroken list a formed_list unbroken) _ lt)

  -- a name where a type may stand that is no type
  declared_reads : (own : List Attribute) (at span : Span) (i : ℕ) (s : DeclSort) → sort_at list i ≡ s → is_named_sort s ≡ true → or_unknown (f i) ≡ unknown → Reads own (named_read worth at (declared_at list f constant span i s))
  declared_reads own at span i sort_is.Constant is named e h = constant_type_reads own at (number_at list i) (constant (number_at list i)) _ (constant_full i is) h
  declared_reads own at span i sort_is.Function is named e h = never h.0
  declared_reads own at span i sort_is.Unit is named e h = no_unknown (or_unknown (f i)) (has_type i (ap is_type_sort is)) e
  declared_reads own at span i sort_is.Enum is named e h = no_unknown (or_unknown (f i)) (has_type i (ap is_type_sort is)) e
  declared_reads own at span i sort_is.Alias is named e h = no_unknown (or_unknown (f i)) (has_type i (ap is_type_sort is)) e
  declared_reads own at span i _ is named e h = never named

  meaning_reads : (own : List Attribute) (at span : Span) (path : Tree) (w : Meaning) → IsNamed list w → means_something w ≡ true → meaning_type f w ≡ unknown → Reads own (named_read worth at (meaning_at list f constant span path w))
  meaning_reads own at span path (meaning_is.Declaration i) named some e h = declared_reads own at span i (sort_at list i) refl named e h
  meaning_reads own at span path (meaning_is.LibraryEnum i) named some e h = no_unknown (word (word_is.Enum i)) refl e
  meaning_reads own at span path (meaning_is.Label owner i) named some e h = never h.0
  meaning_reads own at span path meaning_is.Decoder named some e h = no_unknown (word word_is.Decoder) refl e
  meaning_reads own at span path (meaning_is.Nothing i) named some e h = never some

  broken_reads : (own : List Attribute) (at : Span) (t : Tree) → is_type list f m t ≡ true → type_in list f m t ≡ unknown → Reads own (broken at (g.written Whole t))
  broken_reads own at t is e h =
      let w = g.written Whole t in
      let past : List (Bool × Fault) = (false, fault_at m rule_is.LiteralRange at) ∷ [] in
      let p = none_parts (written_tests m w) past h.0 in
      no_unknown (type_in list f m t) (type_full list f m Whole t is (placed m w.misplaced p.0) (each_has list f m has_type (mentions_in list m t))) e

  unknown_reads : (own : List Attribute) (at : Span) (t : Tree) → is_type list f m t ≡ true → type_in list f m t ≡ unknown → Reads own (unknown_read g worth at t)
  unknown_reads own at (node (form_is.Type type_is.Path) span (more path none)) is e h =
      meaning_reads own at (slice_of list (trees.span_of path) path (path_means list f m path)) path (path_means list f m path) (means_named list f m (path_names path)) is e h
  unknown_reads own at t is e h = broken_reads own at t is e h

  type_reads : (own : List Attribute) (at : Span) (t : Tree) (u : Ty) → is_type list f m t ≡ true → type_in list f m t ≡ u → Reads own (type_read g worth at t u)
  type_reads own at t (word word_is.Unknown) is e h = unknown_reads own at t is e h
  type_reads own at t (word w) is e h = word_reads own at w h
  type_reads own at t (made j ts) is e h = never h.0

  -- a name that is read with arguments
  leaf_called : (own : List Attribute) (at path : Span) (w : Word) (es : List Expr) → is_full (word w) ≡ true → Reads own (called_op g at path (word_leaf w) es)
  leaf_called own at path (word_is.Unit i) es full h = refl
  leaf_called own at path word_is.Decoder es full h = never h.1
  leaf_called own at path word_is.Unknown es full h = never full
  leaf_called own at path _ es full h = never h.0

  type_called : (own : List Attribute) (at path : Span) (o : Option Ty) (es : List Expr) → is_full (or_unknown o) ≡ true → Reads own (called_op g at path (type_leaf o) es)
  type_called own at path None es full h = never full
  type_called own at path (Some (word w)) es full h = leaf_called own at path w es full h
  type_called own at path (Some (made j ts)) es full h = never h.0

  declared_called : (own : List Attribute) (at path span : Span) (i : ℕ) (s : DeclSort) (es : List Expr) → sort_at list i ≡ s → is_named_sort s ≡ true → Reads own (called g at path (declared_at list f constant span i s) es)
  declared_called own at path span i sort_is.Constant es is named h = never h.0
  declared_called own at path span i sort_is.Function es is named h = never h.0
  declared_called own at path span i sort_is.Unit es is named h = type_called own at path (f i) es (has_type i (ap is_type_sort is)) h
  declared_called own at path span i sort_is.Enum es is named h = type_called own at path (f i) es (has_type i (ap is_type_sort is)) h
  declared_called own at path span i sort_is.Alias es is named h = type_called own at path (f i) es (has_type i (ap is_type_sort is)) h
  declared_called own at path span i _ es is named h = never named

  meaning_called : (own : List Attribute) (at place span : Span) (path : Tree) (w : Meaning) (es : List Expr) → IsNamed list w → means_something w ≡ true → Reads own (called g at place (meaning_at list f constant span path w) es)
  meaning_called own at place span path (meaning_is.Declaration i) es named some h = declared_called own at place span i (sort_at list i) es refl named h
  meaning_called own at place span path (meaning_is.LibraryEnum i) es named some h = never h.0
  meaning_called own at place span path (meaning_is.Label owner i) es named some h = never h.0
  meaning_called own at place span path meaning_is.Decoder es named some h = never h.1
  meaning_called own at place span path (meaning_is.Nothing i) es named some h = never some

  -- counts
  element_fine : (at : Span) (counts : Trees) (r : Read) → IsFineRead (contained g at counts r).spec → IsFineRead r.spec
  element_fine at none r h = h
  element_fine at (more (node form_is.Count span (more c none)) ts) r h =
      let inner = element_fine at ts (container g at span (present c) r) h in
      record { own = []; fine = ((none_parts (spec_tests k m r.spec) _ inner.fine.0).0, (none_parts (own_tests us d [] r.spec) _ inner.fine.1).0) }
  element_fine at (more x ts) r h = element_fine at ts r h

  container_reads : (at : Span) (counts : Trees) (r : Read) → is_read r.spec ≡ true → is_read (contained g at counts r).spec ≡ true
  container_reads at none r h = h
  container_reads at (more (node form_is.Count span (more c none)) ts) r h = container_reads at ts (container g at span (present c) r) h
  container_reads at (more x ts) r h = container_reads at ts r h

  base_reads : (x : Tree) → is_of group_is.Bases x ≡ true → IsFine list f m x → IsFineRead (base_read g worth x).spec → is_read (base_read g worth x).spec ≡ true
  base_reads (node (form_is.Base base_is.Type) at none) of h good = never h.0
  base_reads (node (form_is.Base base_is.Type) at (more t none)) of h good =
      let ws = more t none in
      let o = and_parts (is_of group_is.Types t) true (formed list f m (form_is.Base base_is.Type) at ws h) in
      type_reads good.own at t (g.type_in Whole t) (type_fine list f m t o.0 (first list f m t none (parts_fine list f m (form_is.Base base_is.Type) at ws h))) refl good.fine
  base_reads (node (form_is.Base base_is.Type) at (more t (more y z))) of h good = no_first (is_of group_is.Types t) (are_formed (more t (more y z))) h.0
  base_reads (node (form_is.Base base_is.Unit) at none) of h good = never h.0
  base_reads (node (form_is.Base base_is.Unit) at (more path none)) of h good = no_first (is_of group_is.Paths path) (are_formed (more path none)) h.0
  base_reads (node (form_is.Base base_is.Unit) at (more path (more (row ts) none))) of h good =
      let w = path_means list f m path in
      let some = something m path w (none_parts (nothing_fault m path w) _ h.1).0 in
      meaning_called good.own at (trees.span_of path) (slice_of list (trees.span_of path) path w) path w _ (means_named list f m (path_names path)) some good.fine
  base_reads (node (form_is.Base base_is.Unit) at (more path (more absent z))) of h good = no_first (is_of group_is.Paths path) (are_formed (more path (more absent z))) h.0
  base_reads (node (form_is.Base base_is.Unit) at (more path (more (node form span y) z))) of h good = no_first (is_of group_is.Paths path) (are_formed (more path (more (node form span y) z))) h.0
  base_reads (node (form_is.Base base_is.Unit) at (more path (more (row ts) (more y z)))) of h good =
      no_second (is_of group_is.Paths path) (are_of group_is.Expressions ts) (are_formed (more path (more (row ts) (more y z)))) h.0
  base_reads (node (form_is.Base base_is.Group) at none) of h good = never h.0
  base_reads (node (form_is.Base base_is.Group) at (more x none)) of h good = no_first (is_of group_is.Bases x) (are_formed (more x none)) h.0
  base_reads (node (form_is.Base base_is.Group) at (more x (more absent z))) of h good = no_first (is_of group_is.Bases x) (are_formed (more x (more absent z))) h.0
  base_reads (node (form_is.Base base_is.Group) at (more x (more (node form span y) z))) of h good = no_first (is_of group_is.Bases x) (are_formed (more x (more (node form span y) z))) h.0
  base_reads (node (form_is.Base base_is.Group) at (more x (more (row counts) none))) of h good =
      no_second (is_of group_is.Bases x) (are_of group_is.Counts counts) (are_formed (more x (more (row counts) none))) h.0
  base_reads (node (form_is.Base base_is.Group) at (more x (more (row counts) (more absent z)))) of h good =
      no_second (is_of group_is.Bases x) (are_of group_is.Counts counts) (are_formed (more x (more (row counts) (more absent z)))) h.0
  base_reads (node (form_is.Base base_is.Group) at (more x (more (row counts) (more (node form span y) z)))) of h good =
      no_second (is_of group_is.Bases x) (are_of group_is.Counts counts) (are_formed (more x (more (row counts) (more (node form span y) z)))) h.0
  base_reads (node (form_is.Base base_is.Group) at (more x (more (row counts) (more (row ts) none)))) of h good =
      let ws = more x (more (row counts) (more (row ts) none)) in
      let o = and_parts (is_of group_is.Bases x) (are_of group_is.Counts counts && (are_of group_is.Attributes ts && true)) (formed list f m (form_is.Base base_is.Group) at ws h) in
      let fine = first list f m x (more (row counts) (more (row ts) none)) (parts_fine list f m (form_is.Base base_is.Group) at ws h) in
      let read = counted_read g worth x counts in
      let inner : IsFineRead read.spec = record { own = _; fine = ((none_parts (spec_tests k m read.spec) _ good.fine.0).0, (none_parts (own_tests us d _ read.spec) _ good.fine.1).0) } in
      container_reads (trees.span_of x) counts (base_read g worth x) (base_reads x o.0 fine (element_fine (trees.span_of x) counts (base_read g worth x) inner))
  base_reads (node (form_is.Base base_is.Group) at (more x (more (row counts) (more (row ts) (more y z))))) of h good =
      no_third (is_of group_is.Bases x) (are_of group_is.Counts counts) (are_of group_is.Attributes ts) (are_formed (more x (more (row counts) (more (row ts) (more y z))))) h.0
  base_reads (node (form_is.Base (base_is.Bytes bytes)) at none) of h good = refl
  base_reads (node (form_is.Base (base_is.Bytes bytes)) at (more y z)) of h good = never h.0
  base_reads (node (form_is.Base (base_is.Regex text)) at none) of h good = refl
  base_reads (node (form_is.Base (base_is.Regex text)) at (more y z)) of h good = never h.0
  base_reads (node (form_is.Base (base_is.Number x)) at none) of h good = never h.0
  base_reads (node (form_is.Base (base_is.Number x)) at (more u none)) of h good = refl
  base_reads (node (form_is.Base (base_is.Number x)) at (more u (more y z))) of h good = no_first (is_of group_is.Numbers u) (are_formed (more u (more y z))) h.0
  base_reads (node _ at us) of h good = never of
  base_reads absent of h good = never of
  base_reads (row us) of h good = never of

  -- what a field reads
  pub counted_reads : (x : Tree) (counts : Trees) → is_of group_is.Bases x ≡ true → IsFine list f m x → IsFineRead (counted_read g worth x counts).spec → is_read (counted_read g worth x counts).spec ≡ true
  counted_reads x counts of h good = container_reads (trees.span_of x) counts (base_read g worth x) (base_reads x of h (element_fine (trees.span_of x) counts (base_read g worth x) good))
