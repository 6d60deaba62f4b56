-- Fields in which no rule is broken: all is known of them.
use Rattle.std.specs.Prelude.{not, ◌&&◌, is_some}
use Rattle.std.specs.List.{list_all}
use Rattle.std.proofs.Common.{ℕ, ◌≡◌, ◌<◌, Bool, true, false, refl, sym, subst, ◌∙◌, List, [], ◌∷◌, ◌++◌, length, Option, Some, None}
use Rattle.std.proofs.lemmas.Bool.{and_parts, and_from, not-true}
use Rattle.sp_base.specs.declared.places.Span.{Span}
use Rattle.sp_words.specs.declared.words.AttributeName.{AttributeName}
use Rattle.sp_words.specs.declared.words.AttributeName.TheVariants as name_is
use Rattle.sp_ast.specs.Trees.{Tree, Trees, absent, row, node, none, more}
use Rattle.sp_ast.specs.Trees as trees
use Rattle.sp_ast.specs.Slots.{is_formed}
use Rattle.sp_ast.specs.Groups.{is_of, are_of, fits as stands_as}
use Rattle.sp_ast.specs.declared.groups.Group.TheVariants as group_is
use Rattle.sp_ast.specs.declared.groups.Sort.TheVariants as stands
use Rattle.sp_ast.specs.declared.forms.Form.TheVariants as form_is
use Rattle.sp_ast.specs.declared.forms.BaseForm.TheVariants as base_is
use Rattle.sp_ast.specs.declared.forms.TypeForm.TheVariants as type_is
use Rattle.sp_rules.specs.declared.fault.Fault.{Fault}
use Rattle.sp_types.specs.declared.words.Word.{Word}
use Rattle.sp_types.specs.declared.words.Word.TheVariants as word_is
use Rattle.sp_types.specs.Types.{Ty, word, made}
use Rattle.sp_typed.specs.declared.words.LeafOp.{LeafOp}
use Rattle.sp_typed.specs.declared.words.LeafOp.TheVariants as leaf_is
use Rattle.sp_typed.specs.declared.words.ManyOp.TheVariants as many_is
use Rattle.sp_typed.specs.declared.words.NewOf.TheVariants as new_is
use Rattle.sp_typed.specs.Exprs.{Expr, leaf, exprs, type_of}
use Rattle.sp_typed_units.specs.declared.attributes.Attribute.{Attribute}
use Rattle.sp_typed_units.specs.declared.declarations.Parameter.{Parameter}
use Rattle.sp_typed_units.specs.declared.declarations.Unit.{Unit}
use Rattle.sp_typed_units.specs.declared.items.Field.{Field}
use Rattle.sp_typed_units.specs.declared.readings.ReadOp.{ReadOp}
use Rattle.sp_typed_units.specs.declared.readings.ReadOp.TheVariants as read_is
use Rattle.sp_typed_units.specs.declared.readings.TokenOp.TheVariants as token_is
use Rattle.sp_typed_units.specs.Specs.{Spec}
use Rattle.sp_typed_units.specs.Specs as spec_is
use Rattle.sp_type_operands.specs.Operands.{unknown, is_integer, is_boolean}
use Rattle.sp_type_context.specs.declared.places.Place.TheVariants.{Whole}
use Rattle.sp_type_context.specs.Contexts.{Around}
use Rattle.sp_type_context.specs.Typing.{typed, typed_all}
use Rattle.sp_type_fields.specs.declared.attributes.Site.{Site}
use Rattle.sp_type_fields.specs.declared.readings.Read.{Read}
use Rattle.sp_type_fields.specs.declared.roles.Holder.{Holder}
use Rattle.sp_type_fields.specs.declared.roles.Holder.TheVariants as holder_is
use Rattle.sp_type_fields.specs.declared.roles.Kind.{Kind}
use Rattle.sp_type_fields.specs.declared.roles.Kind.TheVariants as kind_is
use Rattle.sp_type_fields.specs.declared.roles.Role.{Role}
use Rattle.sp_type_fields.specs.declared.roles.Role.TheVariants as role_is
use Rattle.sp_type_fields.specs.Roles.{may_stand, role_of, delimiting, grouped}
use Rattle.sp_type_fields.specs.Values.{Values}
use Rattle.sp_type_fields.specs.Attributes.{maybe_typed, element_of, default_typed, value_typed, attribute_by, attributes, conversion, converted}
use Rattle.sp_ast.specs.Views.{present}
use Rattle.sp_type_fields.specs.Readings.{constant_read, constant_of_type, named_op, named_read, word_read, unknown_read, type_read, arguments, called_word, called_op, called, container, contained, base_read, counted_read}
use Rattle.sp_type_fields.specs.Parts.{Fields, field_of}
use Rattle.sp_solver.specs.Told.{told}
use Rattle.sp_names.specs.Types.{or_unknown}
use Rattle.sp_rule_bodies.specs.Known.{Known}
use Rattle.sp_rule_bodies.specs.ExprTests.{arguments_fit, argument_tests, call_tests}
use Rattle.sp_rule_bodies.specs.Values.{arrow_tests}
use Rattle.sp_rule_lists.specs.Lists.{all_tests, option_tests}
use Rattle.sp_rule_lists.specs.Names.{expr_names, attribute_names, spec_names, field_names}
use Rattle.sp_rule_lists.specs.Bodies.{inside_tests}
use Rattle.sp_rule_lists.specs.Fields.{asked_tests, amount_tests, truth_tests, attribute_tests, exprs_inside, spec_tests, reads_void, is_bytes_field, sink_tests, field_tests}
use Rattle.sp_type_modules.specs.Sources.{questions}
use Rattle.sp_type_hook_rows.specs.HookRows.{is_some_tree}
use Rattle.sp_rule_units.specs.declared.here.Here.{Here}
use Rattle.sp_type_fields.specs.Kinds.{read_kind, list_kind, holder_of, kind_of}
use Rattle.sp_rule_units.specs.Attributes.{takes_value, is_misvalued, attribute_tests as attribute_rules}
use Rattle.sp_rule_units.specs.Readings.{maybe_tests, attributes_tests as attributes_rules, spec_tests as spec_rules}
use Rattle.sp_rule_units.specs.Units.{field_tests as field_rules}
use Rattle.sp_type_answers.specs.Settled.{Answers}
use Rattle.sp_type_answers.specs.Lists.{typed_of}
use Rattle.sp_type_answers.specs.Rules.{Breaks}
use Rattle.sp_law_lists.specs.known_types.Full.{is_full}
use Rattle.sp_law_lists.specs.known_types.Clear.{none_hold, any_op}
use Rattle.sp_law_lists.proofs.known_types_lemmas.Full.{never}
use Rattle.sp_law_lists.proofs.known_types_lemmas.Kept.{HoldsAll, target_holds, each_holds}
use Rattle.sp_law_lists.proofs.known_types_lemmas.Tests.{Holds}
use Rattle.sp_law_lists.specs.whole_list.Whole.{is_known_if, is_known_attribute, is_known_spec, is_known_field}
use Rattle.sp_law_lists.proofs.whole_list_lemmas.Heads.{parameters_full}
use Rattle.sp_law_lists.proofs.whole_list_lemmas.None.{none_parts}
use Rattle.sp_law_lists.specs.known_constants.Fine.{IsFine, AreFine}
use Rattle.sp_law_lists.specs.known_constants.Given.{asked}
use Rattle.sp_law_lists.proofs.known_constants_lemmas.Fine.{inside as parts_fine, first, rest, formed}
use Rattle.sp_law_lists.specs.known_members.Given.{can_read, is_read}
use Rattle.sp_law_lists.proofs.known_members_lemmas.Shapes.{field_parts}
use Rattle.sp_law_lists.proofs.known_members_lemmas.Readings.{IsValued, contained_full}
use Rattle.sp_law_lists.proofs.known_members_lemmas.Contexts.{FullMembers}
use Rattle.sp_law_lists.proofs.known_members_lemmas.Fields.{AllFull, v, last, IsGood, element_good, is_conversion, base_full, behind_full}
use Rattle.sp_law_lists.proofs.known_units_lemmas.Closed.{base_closed, conversion_closed}
use Rattle.sp_law_lists.proofs.known_units_lemmas.ReadKinds.{is_row, counted_kinds, counted_elements, counted_rows}
use Rattle.sp_law_lists.proofs.known_units_lemmas.Values.{value_known, arrow_known, asked_value, role_value, arguments_known, typed_here, meant_here, all_here}
use Rattle.sp_type_members.specs.inside.Kept.{none_else}

not_not : (b : Bool) → not (not b) ≡ true → b ≡ true
not_not true e = refl
not_not false e = never e

-- what can be read isn't broken
op_whole : (op : ReadOp) → can_read op ≡ true → read_kind op ≡ kind_is.Broken → false ≡ true
op_whole read_is.Int is e = absurd (let z : ⊥ = cc in z)
op_whole (read_is.Bits i) is e = absurd (let z : ⊥ = cc in z)
op_whole read_is.Bytes is e = absurd (let z : ⊥ = cc in z)
op_whole (read_is.Token (token_is.Number i) c) is e = absurd (let z : ⊥ = cc in z)
op_whole (read_is.Token (token_is.Bytes b) c) is e = absurd (let z : ⊥ = cc in z)
op_whole (read_is.Token (token_is.Regex b) c) is e = absurd (let z : ⊥ = cc in z)
op_whole read_is.Void is e = absurd (let z : ⊥ = cc in z)
op_whole (read_is.Broken w) is e = is

list_whole : (o : Option Expr) → list_kind o ≡ kind_is.Broken → false ≡ true
list_whole None e = absurd (let z : ⊥ = cc in z)
list_whole (Some x) e = absurd (let z : ⊥ = cc in z)

grouped_whole : (k : Kind) → grouped k ≡ kind_is.Broken → (k ≡ kind_is.Broken → false ≡ true) → false ≡ true
grouped_whole kind_is.Broken e h = h refl
grouped_whole kind_is.Literal e h = absurd (let z : ⊥ = cc in z)
grouped_whole kind_is.TypedLiteral e h = absurd (let z : ⊥ = cc in z)
grouped_whole kind_is.Void e h = absurd (let z : ⊥ = cc in z)
grouped_whole _ e h = absurd (let z : ⊥ = cc in z)

spec_whole : (s : Spec) → is_read s ≡ true → kind_of s ≡ kind_is.Broken → false ≡ true
spec_whole (spec_is.read h) is e = op_whole h.op is e
spec_whole (spec_is.unit_read h es) is e = absurd (let z : ⊥ = cc in z)
spec_whole (spec_is.list_read span s i) is e = list_whole i e
spec_whole (spec_is.group_read span s l) is e = grouped_whole (kind_of s) e (spec_whole s is)

-- of what the value of an attribute is typed, by its role: `$$` has a full type
abbrev pub is_placed : Role → Ty → Ty → Bool
is_placed role_is.Conversion read stored = is_full read
is_placed role_is.Requirement read stored = is_full stored
is_placed role_is.Test read stored = is_full (element_of read)
is_placed role_is.Unasked read stored = false
is_placed role_is.Alone read stored = false
is_placed _ read stored = true

-- an attribute that may stand where it does, and has a value that it takes
delimiting_placed : (k : Kind) (read stored : Ty) → (is_row k ≡ true → is_full (element_of read) ≡ true) → may_stand holder_is.NamedField k name_is.Until ≡ true → (k ≡ kind_is.Broken → false ≡ true) → is_placed (delimiting k) read stored ≡ true
delimiting_placed kind_is.Bytes read stored rows may broken = refl
delimiting_placed kind_is.Open read stored rows may broken = rows refl
delimiting_placed kind_is.Counted read stored rows may broken = rows refl
delimiting_placed kind_is.Broken read stored rows may broken = never (broken refl)
delimiting_placed _ read stored rows may broken = never may

while_placed : (k : Kind) (read stored : Ty) → (is_row k ≡ true → is_full (element_of read) ≡ true) → may_stand holder_is.NamedField k name_is.While ≡ true → (k ≡ kind_is.Broken → false ≡ true) → is_placed role_is.Test read stored ≡ true
while_placed kind_is.Open read stored rows may broken = rows refl
while_placed kind_is.Broken read stored rows may broken = never (broken refl)
while_placed _ read stored rows may broken = never may

-- what the rules of attributes ask
attribute_placed : (h : Holder) (k : Kind) (name : AttributeName) (read stored : Ty) → is_full read ≡ true → is_full stored ≡ true → (is_row k ≡ true → is_full (element_of read) ≡ true) → (k ≡ kind_is.Broken → false ≡ true)
    → may_stand h k name ≡ true → is_misvalued (takes_value name) true ≡ false → is_placed (role_of k name) read stored ≡ true
attribute_placed h k name_is.Size read stored fr fs rows broken may valued = refl
attribute_placed h k name_is.MaxSize read stored fr fs rows broken may valued = refl
attribute_placed h k name_is.Eod read stored fr fs rows broken may valued = never (sym valued)
attribute_placed h k name_is.Until read stored fr fs rows broken may valued = delimiting_placed k read stored rows may broken
attribute_placed h k name_is.UntilIncluding read stored fr fs rows broken may valued = delimiting_placed k read stored rows may broken
attribute_placed h k name_is.While read stored fr fs rows broken may valued = while_placed k read stored rows may broken
attribute_placed h k name_is.Convert read stored fr fs rows broken may valued = fr
attribute_placed h k name_is.Requires read stored fr fs rows broken may valued = fs
attribute_placed h k name_is.Default read stored fr fs rows broken may valued = refl
attribute_placed h k name_is.ByteOrder read stored fr fs rows broken may valued = refl
attribute_placed h k name_is.BitOrder read stored fr fs rows broken may valued = refl
attribute_placed h k name_is.ParseFrom read stored fr fs rows broken may valued = refl
attribute_placed h k name_is.ParseAt read stored fr fs rows broken may valued = refl
attribute_placed h k name_is.Try read stored fr fs rows broken may valued = never (sym valued)
attribute_placed h k name_is.Synchronize read stored fr fs rows broken may valued = never (sym valued)

module _ (list : List Tree) (a : Answers list) (formed_list : list_all is_formed list ≡ true) (unbroken : (x : Fault) → Breaks list x → ⊥) (n m : ℕ) (ps : List Parameter) (full : parameters_full ps ≡ true)
    (any_members : (s : ℕ → Option Ty) → ((i : ℕ) → is_full (or_unknown (s i)) ≡ true) → FullMembers list s) (members : FullMembers list (told a.stored)) (answers : AllFull (told a.stored)) (stored_full : (i : ℕ) → i < length (questions list) → is_full (or_unknown (told a.stored i)) ≡ true)
    (us : List Unit) (d : Here) where
  abbrev f : ℕ → Option Ty
  f = told a.types

  abbrev k : Known
  k = asked (typed_of list a)

  abbrev count : ℕ
  count = length (questions list)

  abbrev g : Around
  g = last list a formed_list unbroken n m ps

  abbrev worth : Values
  worth = v list a formed_list unbroken n m ps

  abbrev Fine : Tree → Type 0
  Fine x = IsFine list f m x

  abbrev Good : Spec → Type 0
  Good s = IsGood list a formed_list unbroken n m ps s

  here : (e : Tree) → is_of group_is.Expressions e ≡ true → Fine e → Holds any_op k m (typed g e)
  here e of h = typed_here list a formed_list unbroken n m ps full members e of h

  -- an expression that may be left out
  pub maybe_known : (right : Expr → Bool) (x : Tree) → stands_as (stands.Optional group_is.Expressions) x ≡ true → Fine x → none_hold (option_tests (expr_names m) (maybe_typed g (present x))) ≡ true → none_hold (option_tests (λ e. asked_tests k m (right e) e) (maybe_typed g (present x))) ≡ true
      → is_known_if (maybe_typed g (present x)) ≡ true
  maybe_known right absent of h names tests = refl
  maybe_known right (row ts) of h names tests = never of
  maybe_known right (node form span ts) of h names tests =
      let e = node form span ts in
      value_known k m (typed g e) (here e of h) (asked_value k m (right (typed g e)) (typed g e) names tests)

  -- a sink
  sink_known : (x : Tree) → stands_as (stands.Optional group_is.Expressions) x ≡ true → Fine x → (takes : Bool) → none_hold (option_tests (expr_names m) (maybe_typed g (present x))) ≡ true → none_hold (option_tests (sink_tests k m takes) (maybe_typed g (present x))) ≡ true
      → is_known_if (maybe_typed g (present x)) ≡ true
  sink_known absent of h takes names tests = refl
  sink_known (row ts) of h takes names tests = never of
  sink_known (node form span ts) of h takes names tests =
      let e = typed g (node form span ts) in
      arrow_known k m e (here (node form span ts) of h) names (and_parts (not (not takes)) (none_hold (arrow_tests m e ++ inside_tests k m e)) tests).1

  -- attributes
  default_holds : (of_field : Bool) (stored : Ty) (x : Expr) → Holds any_op k m x → Holds any_op k m (default_typed of_field stored x)
  default_holds true stored x h = target_holds any_op k m stored x h
  default_holds false stored x h = h

  value_holds : (r : Role) (s : Site) (e : Tree) → is_of group_is.Expressions e ≡ true → Fine e → is_placed r s.read s.stored ≡ true → Holds any_op k m (value_typed g r s e)
  value_holds role_is.Conversion s e of h placed = meant_here list a formed_list unbroken n m ps full members s.read placed e of h
  value_holds role_is.Requirement s e of h placed = meant_here list a formed_list unbroken n m ps full members s.stored placed e of h
  value_holds role_is.Test s e of h placed = meant_here list a formed_list unbroken n m ps full members (element_of s.read) placed e of h
  value_holds role_is.Unasked s e of h placed = never placed
  value_holds role_is.Alone s e of h placed = never placed
  value_holds role_is.Default s e of h placed = default_holds s.of_field s.stored (typed g e) (here e of h)
  value_holds _ s e of h placed = here e of h

  -- where attributes stand: what is read has a full type, and so has what is stored
  record IsPlace (s : Site) : Type 0 where
    read : is_full s.read ≡ true
    stored : is_full s.stored ≡ true
    rows : is_row s.kind ≡ true → is_full (element_of s.read) ≡ true
    whole : s.kind ≡ kind_is.Broken → false ≡ true

  one_known : (s : Site) → IsPlace s → (h : Holder) (kind : Kind) (t : Ty) (span : Span) (name : AttributeName) (value : Tree) → stands_as (stands.Optional group_is.Expressions) value ≡ true → Fine value → may_stand h s.kind name ≡ true
      → is_misvalued (takes_value name) (is_some (attribute_by g worth s (role_of s.kind name) span name (present value)).value) ≡ false
      → none_hold (attribute_tests k m kind t (attribute_by g worth s (role_of s.kind name) span name (present value))) ≡ true → none_hold (attribute_names m (attribute_by g worth s (role_of s.kind name) span name (present value))) ≡ true
      → is_known_attribute (attribute_by g worth s (role_of s.kind name) span name (present value)) ≡ true
  one_known s place h kind t span name absent of fine may valued tests names = refl
  one_known s place h kind t span name (row ts) of fine may valued tests names = never of
  one_known s place h kind t span name (node form at ts) of fine may valued tests names =
      let e = node form at ts in
      let r = role_of s.kind name in
      let x = value_typed g r s e in
      value_known k m x (value_holds r s e of fine (attribute_placed h s.kind name s.read s.stored place.read place.stored place.rows place.whole may valued)) (role_value k m t name (role_of kind name) x names tests)

  attributes_known : (s : Site) → IsPlace s → (h : Holder) (kind kind_rules : Kind) → kind_rules ≡ s.kind → (t : Ty) (earlier : List Attribute) (ts : Trees) → are_of group_is.Attributes ts ≡ true → AreFine list f m ts
      → none_hold (all_tests (attribute_tests k m kind t) (attributes g worth s ts)) ≡ true → none_hold (all_tests (attribute_names m) (attributes g worth s ts)) ≡ true
      → none_hold (attributes_rules us d h kind_rules earlier (attributes g worth s ts)) ≡ true → list_all is_known_attribute (attributes g worth s ts) ≡ true
  attributes_known s place h kind kind_rules same t earlier none of fine tests names rules = refl
  attributes_known s place h kind kind_rules same t earlier (more (node (form_is.Attribute name) span (more value none)) ts) of fine tests names rules =
      let one = attribute_by g worth s (role_of s.kind name) span name (present value) in
      let behind = attributes g worth s ts in
      let x = none_parts (attribute_tests k m kind t one) (all_tests (attribute_tests k m kind t) behind) tests in
      let y = none_parts (attribute_names m one) (all_tests (attribute_names m) behind) names in
      let z = none_parts (attribute_rules d.owner h kind_rules earlier one) (maybe_tests us d one.value ++ attributes_rules us d h kind_rules (one ∷ earlier) behind) rules in
      let w = none_parts (maybe_tests us d one.value) (attributes_rules us d h kind_rules (one ∷ earlier) behind) z.1 in
      let p = and_parts (not (not (may_stand h kind_rules name))) _ z.0 in
      let q = and_parts (not (is_misvalued (takes_value name) (is_some one.value))) _ p.1 in
      let may = not_not (may_stand h kind_rules name) p.0 in
      let fine_one = first list f m (node (form_is.Attribute name) span (more value none)) ts fine in
      let suits = and_parts (stands_as (stands.Optional group_is.Expressions) value) true (formed list f m (form_is.Attribute name) span (more value none) fine_one) in
      and_from (is_known_attribute one) (list_all is_known_attribute behind)
      (one_known s place h kind t span name value suits.0 (first list f m value none (parts_fine list f m (form_is.Attribute name) span (more value none) fine_one)) (subst (λ j. may_stand h j name ≡ true) same may)
      (not-true (is_misvalued (takes_value name) (is_some one.value)) q.0) x.0 y.0)
      (attributes_known s place h kind kind_rules same t (one ∷ earlier) ts of (rest list f m (node (form_is.Attribute name) span (more value none)) ts fine) x.1 y.1 w.1)
  attributes_known s place h kind kind_rules same t earlier (more (node (form_is.Attribute name) span none) ts) of fine tests names rules =
      attributes_known s place h kind kind_rules same t earlier ts of (rest list f m (node (form_is.Attribute name) span none) ts fine) tests names rules
  attributes_known s place h kind kind_rules same t earlier (more (node (form_is.Attribute name) span (more value (more y z))) ts) of fine tests names rules =
      attributes_known s place h kind kind_rules same t earlier ts of (rest list f m (node (form_is.Attribute name) span (more value (more y z))) ts fine) tests names rules
  attributes_known s place h kind kind_rules same t earlier (more (node form span xs) ts) of fine tests names rules = never of
  attributes_known s place h kind kind_rules same t earlier (more absent ts) of fine tests names rules = never of
  attributes_known s place h kind kind_rules same t earlier (more (row xs) ts) of fine tests names rules = never of

  -- readings without parts
  abbrev Known_ : Read → Type 0
  Known_ r = is_known_spec r.spec ≡ true

  word_known : (at : Span) (w : Word) → Known_ (word_read at w)
  word_known at (word_is.Uint w) = refl
  word_known at (word_is.Int w) = refl
  word_known at (word_is.Bitfield i) = refl
  word_known at word_is.Bytes = refl
  word_known at word_is.Void = refl
  word_known at (word_is.Unit i) = refl
  word_known at word_is.Decoder = refl
  word_known at _ = refl

  constant_known : (at : Span) (i : ℕ) (w : Word) (x : Expr) → Known_ (constant_read worth at i w x)
  constant_known at i word_is.Bytes x = refl
  constant_known at i word_is.Regex x = refl
  constant_known at i word_is.Unknown x = refl
  constant_known at i _ x = refl

  constant_type_known : (at : Span) (i : ℕ) (t : Ty) (x : Expr) → Known_ (constant_of_type worth at i t x)
  constant_type_known at i (word w) x = constant_known at i w x
  constant_type_known at i (made j ts) x = refl

  op_known : (at : Span) (op : LeafOp) (t : Ty) (x : Expr) → Known_ (named_op worth at op t x)
  op_known at (leaf_is.Constant i) t x = constant_type_known at i t x
  op_known at (leaf_is.Nothing name) t x = refl
  op_known at (leaf_is.TypeName w) t x = refl
  op_known at _ t x = refl

  named_known : (at : Span) (x : Expr) → Known_ (named_read worth at x)
  named_known at (leaf h) = op_known at h.op h.ty (leaf h)
  named_known at _ = refl

  unknown_known : (at : Span) (t : Tree) → Known_ (unknown_read g worth at t)
  unknown_known at (node (form_is.Type type_is.Path) span (more path none)) = named_known at (g.named (trees.span_of path) path)
  unknown_known at _ = refl

  type_known : (at : Span) (t : Tree) (u : Ty) → Known_ (type_read g worth at t u)
  type_known at t (word word_is.Unknown) = unknown_known at t
  type_known at t (word w) = word_known at w
  type_known at t (made j ts) = refl

  -- a unit with its arguments
  word_called : (at path : Span) (w : Word) (es : List Expr) → HoldsAll any_op k m es → Good (called_word g at path w es).spec → Known_ (called_word g at path w es)
  word_called at path (word_is.Unit i) es h good =
      let op = many_is.New (new_is.Unit i) at in
      let xs = arguments g i path es in
      let target = g.target (many_is.New (new_is.Unit i) path) unknown in
      let p = none_parts (call_tests k m op at unknown (exprs xs)) (exprs_inside k m (exprs xs)) good.0 in
      let q = and_parts (not (not (arguments_fit (k.target op unknown) 0 (exprs xs)))) (none_hold (argument_tests m false (exprs xs))) p.0 in
      arguments_known k m (k.target op unknown) 0 xs (each_holds any_op k m target 0 es h) good.1 (not_not (arguments_fit (k.target op unknown) 0 (exprs xs)) q.0) q.1 p.1
  word_called at path word_is.Unknown es h good = never good.2
  word_called at path word_is.Decoder es h good = never good.2
  word_called at path _ es h good = never good.2

  op_called : (at path : Span) (op : LeafOp) (es : List Expr) → HoldsAll any_op k m es → Good (called_op g at path op es).spec → Known_ (called_op g at path op es)
  op_called at path (leaf_is.TypeName w) es h good = word_called at path w es h good
  op_called at path leaf_is.Decoder es h good = never good.2
  op_called at path (leaf_is.Nothing name) es h good = never good.2
  op_called at path _ es h good = never good.2

  unit_called : (at path : Span) (x : Expr) (es : List Expr) → HoldsAll any_op k m es → Good (called g at path x es).spec → Known_ (called g at path x es)
  unit_called at path (leaf x) es h good = op_called at path x.op es h good
  unit_called at path _ es h good = never good.2

  -- counts
  contained_known : (at : Span) (counts : Trees) (r : Read) → are_of group_is.Counts counts ≡ true → AreFine list f m counts → Good (contained g at counts r).spec → Known_ r → Known_ (contained g at counts r)
  contained_known at none r of h good is = is
  contained_known at (more (node form_is.Count span (more c none)) ts) r of h good is =
      let x = container g at span (present c) r in
      let fine = first list f m (node form_is.Count span (more c none)) ts h in
      let inner = element_good list a formed_list unbroken n m ps at ts x good in
      let t = none_parts (spec_tests k m r.spec) _ inner.0 in
      let u = and_parts (not (reads_void r.spec)) (none_hold (option_tests (amount_tests k m) (maybe_typed g (present c)))) t.1 in
      let y = none_parts (spec_names m r.spec) (option_tests (expr_names m) (maybe_typed g (present c))) inner.1 in
      let suits = and_parts (stands_as (stands.Optional group_is.Expressions) c) true (formed list f m form_is.Count span (more c none) fine) in
      let number = maybe_known (λ e. is_integer (type_of e)) c suits.0 (first list f m c none (parts_fine list f m form_is.Count span (more c none) fine)) y.1 u.1 in
      contained_known at ts x of (rest list f m (node form_is.Count span (more c none)) ts h) good (and_from (is_known_spec r.spec) (is_known_if (maybe_typed g (present c))) is number)
  contained_known at (more (node form_is.Count span none) ts) r of h good is = contained_known at ts r of (rest list f m (node form_is.Count span none) ts h) good is
  contained_known at (more (node form_is.Count span (more c (more y z))) ts) r of h good is = contained_known at ts r of (rest list f m (node form_is.Count span (more c (more y z))) ts h) good is
  contained_known at (more (node form span xs) ts) r of h good is = never of
  contained_known at (more absent ts) r of h good is = never of
  contained_known at (more (row xs) ts) r of h good is = never of

  -- the rules of units at a reading, whatever attributes it has of its own
  pub record HasRules (s : Spec) : Type 0 where
    pub own : List Attribute
    pub rules : none_hold (spec_rules us d own s) ≡ true

  element_rules : (at : Span) (counts : Trees) (r : Read) → HasRules (contained g at counts r).spec → HasRules r.spec
  element_rules at none r h = h
  element_rules at (more (node form_is.Count span (more c none)) ts) r h =
      let inner = element_rules at ts (container g at span (present c) r) h in
      record { own = []; rules = (none_parts (spec_rules us d [] r.spec) _ inner.rules).0 }
  element_rules at (more x ts) r h = element_rules at ts r h

  -- types
  base_typed : (x : Tree) → is_of group_is.Bases x ≡ true → Fine x → Good (base_read g worth x).spec → is_full (base_read g worth x).ty ≡ true
  base_typed x of h good =
      (base_full list a formed_list unbroken n m ps full any_members (told a.stored) (λ i u e. e) answers x of h good (base_closed list count (told a.stored) stored_full g worth x)).0

  base_valued : (x : Tree) → is_of group_is.Bases x ≡ true → Fine x → Good (base_read g worth x).spec → IsValued (base_read g worth x)
  base_valued x of h good =
      (base_full list a formed_list unbroken n m ps full any_members (told a.stored) (λ i u e. e) answers x of h good (base_closed list count (told a.stored) stored_full g worth x)).1

  counted_typed : (x : Tree) (counts : Trees) → is_of group_is.Bases x ≡ true → Fine x → Good (counted_read g worth x counts).spec → is_full (counted_read g worth x counts).ty ≡ true
  counted_typed x counts of h good =
      let base_good = element_good list a formed_list unbroken n m ps (trees.span_of x) counts (base_read g worth x) good in
      contained_full g worth k m (trees.span_of x) counts (base_read g worth x) good.0 (base_valued x of h base_good) (base_typed x of h base_good)

  converted_typed : (of_field : Bool) (x : Tree) (counts ts : Trees) → is_of group_is.Bases x ≡ true → Fine x → Good (counted_read g worth x counts).spec → (kind : Kind) (t : Ty) → are_of group_is.Attributes ts ≡ true → AreFine list f m ts
      → none_hold (all_tests (attribute_tests k m kind t) (attributes g worth (record { kind = (counted_read g worth x counts).kind; read = (counted_read g worth x counts).ty; stored = converted g (counted_read g worth x counts).ty (conversion ts); of_field = of_field }) ts)) ≡ true
      → none_hold (all_tests (attribute_names m) (attributes g worth (record { kind = (counted_read g worth x counts).kind; read = (counted_read g worth x counts).ty; stored = converted g (counted_read g worth x counts).ty (conversion ts); of_field = of_field }) ts)) ≡ true
      → is_full (converted g (counted_read g worth x counts).ty (conversion ts)) ≡ true
  converted_typed of_field x counts ts of h good kind t of_ts fine tests names =
      let r = counted_read g worth x counts in
      let site : Site = record { kind = r.kind; read = r.ty; stored = converted g r.ty (conversion ts); of_field = of_field } in
      behind_full list a formed_list unbroken n m ps full any_members (told a.stored) (λ i u e. e) answers x counts ts (counted_typed x counts of h good)
      (none_else _ _ (base_closed list count (told a.stored) stored_full g worth x) (conversion_closed list count (told a.stored) stored_full g worth r.ty (conversion ts)))
      (is_conversion list a formed_list unbroken n m ps site kind t ts of_ts fine tests names)

  site_placed : (of_field : Bool) (x : Tree) (counts ts : Trees) → is_of group_is.Bases x ≡ true → Fine x → Good (counted_read g worth x counts).spec → is_full (converted g (counted_read g worth x counts).ty (conversion ts)) ≡ true
      → IsPlace (record { kind = (counted_read g worth x counts).kind; read = (counted_read g worth x counts).ty; stored = converted g (counted_read g worth x counts).ty (conversion ts); of_field = of_field })
  site_placed of_field x counts ts of h good stored =
      let r = counted_read g worth x counts in
      record {
        read = counted_typed x counts of h good;
        stored = stored;
        rows = counted_elements g worth x counts (counted_typed x counts of h good);
        whole = λ e. spec_whole r.spec good.2 (counted_kinds g worth x counts ∙ e);
      }

  -- An element of what is read with brackets has a full type.
  pub elements_typed : (x : Tree) (counts : Trees) → is_of group_is.Bases x ≡ true → Fine x → are_of group_is.Counts counts ≡ true → AreFine list f m counts → Good (counted_read g worth x counts).spec → is_some_tree counts ≡ true
      → is_full (element_of (counted_read g worth x counts).ty) ≡ true
  elements_typed x counts of h of_counts fine good some =
      counted_elements g worth x counts (counted_typed x counts of h good) (counted_rows g worth x counts of_counts fine.0 some)

  -- what is read
  base_known : (x : Tree) → is_of group_is.Bases x ≡ true → Fine x → Good (base_read g worth x).spec → HasRules (base_read g worth x).spec → Known_ (base_read g worth x)
  base_known (node (form_is.Base base_is.Type) at (more t none)) of h good rules = type_known at t (g.type_in Whole t)
  base_known (node (form_is.Base base_is.Unit) at (more path (more (row ts) none))) of h good rules =
      let ws = more path (more (row ts) none) in
      let o = and_parts (is_of group_is.Paths path) (are_of group_is.Expressions ts && true) (formed list f m (form_is.Base base_is.Unit) at ws h) in
      let fine = first list f m (row ts) none (rest list f m path (more (row ts) none) (parts_fine list f m (form_is.Base base_is.Unit) at ws h)) in
      unit_called at (trees.span_of path) (g.named (trees.span_of path) path) (typed_all g ts) (all_here list a formed_list unbroken n m ps full members ts (and_parts (are_of group_is.Expressions ts) true o.1).0 fine) good
  base_known (node (form_is.Base base_is.Group) at (more x (more (row counts) (more (row ts) none)))) of h good rules =
      let ws = more x (more (row counts) (more (row ts) none)) in
      let o = and_parts (is_of group_is.Bases x) (are_of group_is.Counts counts && (are_of group_is.Attributes ts && true)) (formed list f m (form_is.Base base_is.Group) at ws h) in
      let o_counts = and_parts (are_of group_is.Counts counts) (are_of group_is.Attributes ts && true) o.1 in
      let o_ts = (and_parts (are_of group_is.Attributes ts) true o_counts.1).0 in
      let fine = parts_fine list f m (form_is.Base base_is.Group) at ws h in
      let fine_x = first list f m x (more (row counts) (more (row ts) none)) fine in
      let behind = rest list f m x (more (row counts) (more (row ts) none)) fine in
      let fine_counts = first list f m (row counts) (more (row ts) none) behind in
      let fine_ts = first list f m (row ts) none (rest list f m (row counts) (more (row ts) none) behind) in
      let r = counted_read g worth x counts in
      let site : Site = record { kind = r.kind; read = r.ty; stored = converted g r.ty (conversion ts); of_field = false } in
      let l = attributes g worth site ts in
      let tests = none_parts (spec_tests k m r.spec) (all_tests (attribute_tests k m (kind_of r.spec) unknown) l) good.0 in
      let names = none_parts (spec_names m r.spec) (all_tests (attribute_names m) l) good.1 in
      let inner : Good r.spec = (tests.0, names.0, good.2) in
      let p = none_parts (spec_rules us d l r.spec) (attributes_rules us d holder_is.Group (kind_of r.spec) [] l) rules.rules in
      let inner_rules : HasRules r.spec = record { own = l; rules = p.0 } in
      let base_good = element_good list a formed_list unbroken n m ps (trees.span_of x) counts (base_read g worth x) inner in
      let stored = converted_typed false x counts ts o.0 fine_x inner (kind_of r.spec) unknown o_ts fine_ts tests.1 names.1 in
      and_from (is_known_spec r.spec) (list_all is_known_attribute l)
      (contained_known (trees.span_of x) counts (base_read g worth x) o_counts.0 fine_counts inner (base_known x o.0 fine_x base_good (element_rules (trees.span_of x) counts (base_read g worth x) inner_rules)))
      (attributes_known site (site_placed false x counts ts o.0 fine_x inner stored) holder_is.Group (kind_of r.spec) (kind_of r.spec) (counted_kinds g worth x counts) unknown [] ts o_ts fine_ts tests.1 names.1 p.1)
  base_known (node (form_is.Base (base_is.Bytes bytes)) at none) of h good rules = refl
  base_known (node (form_is.Base (base_is.Regex text)) at none) of h good rules = refl
  base_known (node (form_is.Base (base_is.Number x)) at (more u none)) of h good rules = refl
  base_known _ of h good rules = never good.2

  -- A field in which no rule is broken.
  abbrev pub IsSound : Field → Type 0
  IsSound x = (none_hold (field_tests k m x) ≡ true) × (none_hold (field_names m x) ≡ true) × (is_read x.spec ≡ true) × (none_hold (field_rules us d x) ≡ true)

  pub field_known : (fields : Fields) (span : Span) (name base : Tree) (counts ts : Trees) (condition sink hooks : Tree) → Fine (node form_is.Field span (field_parts name base counts ts condition sink hooks))
      → IsSound (field_of g worth fields span (present name) (counted_read g worth base counts) ts (present condition) (present sink))
      → is_known_field (field_of g worth fields span (present name) (counted_read g worth base counts) ts (present condition) (present sink)) ≡ true
  field_known fields span name base counts ts condition sink hooks h good =
      let optional = stands.Optional group_is.Expressions in
      let ws = field_parts name base counts ts condition sink hooks in
      let at_ends = more condition (more sink (more hooks none)) in
      let ends = stands_as optional condition && (stands_as optional sink && (stands_as (stands.Rows group_is.HookBodies) hooks && true)) in
      let x = field_of g worth fields span (present name) (counted_read g worth base counts) ts (present condition) (present sink) in
      let r = counted_read g worth base counts in
      let site : Site = record { kind = r.kind; read = r.ty; stored = converted g r.ty (conversion ts); of_field = true } in
      let l = attributes g worth site ts in
      let at_name = and_parts (stands_as (stands.Optional group_is.Names) name) (is_of group_is.Bases base && (are_of group_is.Counts counts && (are_of group_is.Attributes ts && ends))) (formed list f m form_is.Field span ws h) in
      let at_base = and_parts (is_of group_is.Bases base) (are_of group_is.Counts counts && (are_of group_is.Attributes ts && ends)) at_name.1 in
      let at_counts = and_parts (are_of group_is.Counts counts) (are_of group_is.Attributes ts && ends) at_base.1 in
      let at_ts = and_parts (are_of group_is.Attributes ts) ends at_counts.1 in
      let at_condition = and_parts (stands_as optional condition) (stands_as optional sink && (stands_as (stands.Rows group_is.HookBodies) hooks && true)) at_ts.1 in
      let at_sink = (and_parts (stands_as optional sink) (stands_as (stands.Rows group_is.HookBodies) hooks && true) at_condition.1).0 in
      let fine = rest list f m name (more base (more (row counts) (more (row ts) at_ends))) (parts_fine list f m form_is.Field span ws h) in
      let fine_base = first list f m base (more (row counts) (more (row ts) at_ends)) fine in
      let behind_base = rest list f m base (more (row counts) (more (row ts) at_ends)) fine in
      let fine_counts = first list f m (row counts) (more (row ts) at_ends) behind_base in
      let behind_counts = rest list f m (row counts) (more (row ts) at_ends) behind_base in
      let fine_ts = first list f m (row ts) at_ends behind_counts in
      let behind_ts = rest list f m (row ts) at_ends behind_counts in
      let fine_condition = first list f m condition (more sink (more hooks none)) behind_ts in
      let fine_sink = first list f m sink (more hooks none) (rest list f m condition (more sink (more hooks none)) behind_ts) in
      let t_spec = none_parts (spec_tests k m r.spec) (all_tests (attribute_tests k m (kind_of r.spec) x.ty) l ++ (option_tests (truth_tests k m) x.condition ++ option_tests (sink_tests k m (is_bytes_field x)) x.sink)) good.0 in
      let t_ts = none_parts (all_tests (attribute_tests k m (kind_of r.spec) x.ty) l) (option_tests (truth_tests k m) x.condition ++ option_tests (sink_tests k m (is_bytes_field x)) x.sink) t_spec.1 in
      let t_ends = none_parts (option_tests (truth_tests k m) x.condition) (option_tests (sink_tests k m (is_bytes_field x)) x.sink) t_ts.1 in
      let n_all = and_parts (not x.taken) (none_hold (spec_names m r.spec ++ (all_tests (attribute_names m) l ++ (option_tests (expr_names m) x.condition ++ option_tests (expr_names m) x.sink)))) good.1 in
      let n_spec = none_parts (spec_names m r.spec) (all_tests (attribute_names m) l ++ (option_tests (expr_names m) x.condition ++ option_tests (expr_names m) x.sink)) n_all.1 in
      let n_ts = none_parts (all_tests (attribute_names m) l) (option_tests (expr_names m) x.condition ++ option_tests (expr_names m) x.sink) n_spec.1 in
      let n_ends = none_parts (option_tests (expr_names m) x.condition) (option_tests (expr_names m) x.sink) n_ts.1 in
      let r_spec = none_parts (spec_rules us d l r.spec) (attributes_rules us d (holder_of x.member) (kind_of r.spec) [] l ++ (maybe_tests us d x.condition ++ maybe_tests us d x.sink)) good.3 in
      let r_ts = none_parts (attributes_rules us d (holder_of x.member) (kind_of r.spec) [] l) (maybe_tests us d x.condition ++ maybe_tests us d x.sink) r_spec.1 in
      let whole : Good r.spec = (t_spec.0, n_spec.0, good.2) in
      let rules : HasRules r.spec = record { own = l; rules = r_spec.0 } in
      let base_good = element_good list a formed_list unbroken n m ps (trees.span_of base) counts (base_read g worth base) whole in
      let stored = converted_typed true base counts ts at_base.0 fine_base whole (kind_of r.spec) x.ty at_ts.0 fine_ts t_ts.0 n_ts.0 in
      let known = contained_known (trees.span_of base) counts (base_read g worth base) at_counts.0 fine_counts whole (base_known base at_base.0 fine_base base_good (element_rules (trees.span_of base) counts (base_read g worth base) rules)) in
      let attributes_ = attributes_known site (site_placed true base counts ts at_base.0 fine_base whole stored) (holder_of x.member) (kind_of r.spec) (kind_of r.spec) (counted_kinds g worth base counts) x.ty [] ts at_ts.0 fine_ts t_ts.0 n_ts.0 r_ts.0 in
      and_from (is_full x.ty) _ stored
      (and_from (is_known_spec r.spec) _ known
      (and_from (list_all is_known_attribute l) _ attributes_
      (and_from (is_known_if x.condition) (is_known_if x.sink) (maybe_known (λ e. is_boolean (type_of e)) condition at_condition.0 fine_condition n_ends.0 t_ends.0)
      (sink_known sink at_sink fine_sink (is_bytes_field x) n_ends.1 t_ends.1))))
