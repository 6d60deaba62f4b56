-- What paths name: constants of full types and labels, which are told wherever they are answered.
use Rattle.std.specs.Prelude.{not, length, slice_get}
use Rattle.std.proofs.Common.{ℕ, ◌≡◌, ◌<◌, Bool, true, false, refl, sym, ap, ◌∙◌, List, Option, Some}
use Rattle.std.proofs.lemmas.Bool.{and_parts}
use Rattle.sp_base.specs.declared.places.Span.{Span}
use Rattle.sp_ast.specs.Trees.{Tree, absent, row, node}
use Rattle.sp_ast.specs.declared.forms.Form.TheVariants as form_is
use Rattle.sp_types.specs.declared.words.Word.TheVariants as word_is
use Rattle.sp_types.specs.Types.{Ty, word}
use Rattle.sp_typed.specs.declared.words.LeafOp.{LeafOp}
use Rattle.sp_typed.specs.declared.words.OneOp.{OneOp}
use Rattle.sp_typed.specs.declared.words.OneOp.TheVariants as one_is
use Rattle.sp_typed.specs.Exprs.{Expr}
use Rattle.sp_typed.specs.Nodes.{word_leaf as names_word}
use Rattle.sp_typed_units.specs.declared.declarations.Typed.{Typed}
use Rattle.sp_type_operands.specs.Operands.{unknown}
use Rattle.sp_type_context.specs.Typing.{leaf_at}
use Rattle.sp_names.specs.declared.sort.DeclSort.{DeclSort}
use Rattle.sp_names.specs.declared.sort.DeclSort.TheVariants as sort_is
use Rattle.sp_names.specs.declared.sort.Meaning.{Meaning}
use Rattle.sp_names.specs.declared.sort.Meaning.TheVariants as meaning_is
use Rattle.sp_names.specs.Declarations.{sort_at, number_at}
use Rattle.sp_names.specs.Names.{path_names, path_means}
use Rattle.sp_names.specs.Types.{one_or_none}
use Rattle.sp_type_modules.specs.Heads.{function_gives}
use Rattle.sp_type_modules.specs.Arounds.{type_leaf, declared_at, meaning_at, slice_of, path_at, around}
use Rattle.sp_type_constants.specs.Outcomes.{used}
use Rattle.sp_type_constants.specs.Known.{Known as Values}
use Rattle.sp_rule_bodies.specs.Known.{Known}
use Rattle.sp_rule_lists.specs.Told.{constant_told, label_in, values_of}
use Rattle.sp_solver.specs.Rounds.{IsSettled}
use Rattle.sp_dependencies.specs.Tries.{tries}
use Rattle.sp_type_values.specs.declared.answer.Answer.{Answer}
use Rattle.sp_type_values.specs.Valued.{constants, valued, label_place, declaration_needs, meaning_needs, needs}
use Rattle.sp_type_values.specs.Answers.{constant_type, known_values, gives}
use Rattle.sp_type_values.specs.TypedRows.{typed_constants, typed_enums}
use Rattle.sp_law_lists.specs.known_types.Full.{is_full}
use Rattle.sp_law_lists.specs.known_types.Given.{is_named, is_member_op}
use Rattle.sp_law_lists.proofs.known_types_lemmas.Full.{never}
use Rattle.sp_law_lists.specs.known_values.Values.{fits}
use Rattle.sp_law_lists.specs.known_values.Given.{IsTold, AreTold}
use Rattle.sp_names.specs.Names as names
use Rattle.sp_law_lists.proofs.whole_list_lemmas.Modules.{type_named_by, member_op, method_op}
use Rattle.sp_law_lists.specs.known_constants.Good.{constant_op, is_answered, are_answered, is_told}
use Rattle.sp_law_lists.specs.known_constants.Given.{facts_with}
use Rattle.sp_law_lists.proofs.known_constants_lemmas.Labels.{IsThere, means_there, label_tells}
use Rattle.sp_law_lists.proofs.known_constants_lemmas.Places.{used_fits, constant_there, place_is, constant_typed, constant_fits, constant_tells, value_fits}

-- members are not constant
pub no_member : {X : Type 0} (op : OneOp) → is_member_op op ≡ true → constant_op op ≡ true → X
no_member (one_is.Field n) i c = never c
no_member (one_is.Variable n) i c = never c
no_member (one_is.SinkOf n) i c = never c
no_member (one_is.Bit n) i c = never c
no_member _ i c = never i

module _ (list : List Tree) (f : ℕ → Option Ty) (known : ℕ → Option Answer) where
  -- a constant that is declared, and is answered
  declared_answered : (g : ℕ) → sort_at list g ≡ sort_is.Constant → are_answered known (declaration_needs list f g sort_is.Constant) ≡ true → is_answered (known (number_at list g)) ≡ true
  declared_answered g e h =
      let n = number_at list g in
      let is = place_is list f n (constant_there list f g e) in
      (and_parts (is_answered (known n)) true (sym (ap (λ p. are_answered known (one_or_none p)) is) ∙ h)).0

  -- paths have full types
  module _ (results : (g : ℕ) → sort_at list g ≡ sort_is.Function → is_full (function_gives list f (number_at list g)) ≡ true) where
    declared_named : (span : Span) (g : ℕ) (s : DeclSort) → sort_at list g ≡ s → are_answered known (declaration_needs list f g s) ≡ true → is_named (function_gives list f) (declared_at list f (constant_type list f known) span g s) ≡ true
    declared_named span g sort_is.Constant e h = constant_typed list f known (number_at list g) (constant_there list f g e) (declared_answered g e h)
    declared_named span g sort_is.Function e h = results g e
    declared_named span g _ e h = type_named_by (function_gives list f) span (f g)

    meaning_named : (span : Span) (path : Tree) (w : Meaning) → are_answered known (meaning_needs list f w) ≡ true → is_named (function_gives list f) (meaning_at list f (constant_type list f known) span path w) ≡ true
    meaning_named span path (meaning_is.Declaration g) h = declared_named span g (sort_at list g) refl h
    meaning_named span path (meaning_is.LibraryEnum n) h = refl
    meaning_named span path (meaning_is.Label owner n) h = refl
    meaning_named span path meaning_is.Decoder h = refl
    meaning_named span path (meaning_is.Nothing n) h = refl

    pub path_named : (m : ℕ) (span : Span) (path : Tree) → is_told list f known m path ≡ true → is_named (function_gives list f) (path_at list f (constant_type list f known) m span path) ≡ true
    path_named m span (node form_is.Path at ts) h = meaning_named (slice_of list span (node form_is.Path at ts) (path_means list f m (node form_is.Path at ts))) (node form_is.Path at ts) (path_means list f m (node form_is.Path at ts)) h
    path_named m span absent h = refl
    path_named m span (row ts) h = refl
    path_named m span (node _ at ts) h = refl

  -- what a path is as a constant
  module _ (only : OneOp → Bool) (k : Known) (rules : ℕ) (v : Values)
      (constants_fit : (n : ℕ) → n < length (constants list f) → is_answered (known n) ≡ true → fits (constant_type list f known n) (used (v.constant n)) ≡ true)
      (labels_fit : (owner n : ℕ) (x : List ℕ) → names.label_in list owner x ≡ Some n → are_answered known (one_or_none (label_place list f owner n)) ≡ true → fits (word (word_is.Enum owner)) (used (v.label owner n)) ≡ true) where
    abbrev Told : Expr → Type 0
    Told e = IsTold only k rules v e

    -- what has no type is no value
    pub unknown_told : (span : Span) (op : LeafOp) → Told (leaf_at span unknown op)
    unknown_told span op c r p = never (and_parts (not (names_word op)) false r).1

    declared_told : (span : Span) (g : ℕ) (s : DeclSort) → sort_at list g ≡ s → are_answered known (declaration_needs list f g s) ≡ true → Told (declared_at list f (constant_type list f known) span g s)
    declared_told span g sort_is.Constant e h = λ c r p. constants_fit (number_at list g) (constant_there list f g e) (declared_answered g e h)
    declared_told span g sort_is.Function e h = λ c r p. never r
    declared_told span g sort_is.Import e h = unknown_told span (type_leaf (f g))
    declared_told span g sort_is.Property e h = unknown_told span (type_leaf (f g))
    declared_told span g sort_is.Hook e h = unknown_told span (type_leaf (f g))
    declared_told span g sort_is.Unit e h = unknown_told span (type_leaf (f g))
    declared_told span g sort_is.Enum e h = unknown_told span (type_leaf (f g))
    declared_told span g sort_is.Alias e h = unknown_told span (type_leaf (f g))

    meaning_told : (span : Span) (path : Tree) (w : Meaning) → IsThere list w → are_answered known (meaning_needs list f w) ≡ true → Told (meaning_at list f (constant_type list f known) span path w)
    meaning_told span path (meaning_is.Declaration g) there h = declared_told span g (sort_at list g) refl h
    meaning_told span path (meaning_is.LibraryEnum n) there h = λ c r p. never r
    meaning_told span path (meaning_is.Label owner n) there h = λ c r p. labels_fit owner n there.0 there.1 h
    meaning_told span path meaning_is.Decoder there h = λ c r p. never r
    meaning_told span path (meaning_is.Nothing n) there h = λ c r p. never r

    path_told : (m : ℕ) (span : Span) (path : Tree) → is_told list f known m path ≡ true → Told (path_at list f (constant_type list f known) m span path)
    path_told m span (node form_is.Path at ts) h =
        let path = node form_is.Path at ts in
        meaning_told (slice_of list span path (path_means list f m path)) path (path_means list f m path) (means_there list f m (path_names path)) h
    path_told m span absent h = λ c r p. never r
    path_told m span (row ts) h = λ c r p. never r
    path_told m span (node _ at ts) h = λ c r p. never r

    pub paths_told : (m : ℕ) (stored : ℕ → ℕ → Ty) (number : Expr → Option ℕ) → AreTold (around list (facts_with list f known stored number) m) only k rules v (is_told list f known m)
    paths_told m stored number = record {
      path = λ span path is. path_told m span path is;
      itself = λ span c r p. never r;
      current = λ span c r p. never r;
      member = λ t name found e may. member_op list stored t name found e;
      method = λ t name span ts found e. method_op t name span ts found e;
    }

  -- where answers are settled: as they are known when constants are evaluated, and as the typed list tells them
  module _ (settled : IsSettled (tries (length (valued list f)) (needs list f) (gives list f)) known) where
    pub known_told : (only : OneOp → Bool) (k : Known) (rules m : ℕ) (stored : ℕ → ℕ → Ty) (number : Expr → Option ℕ) → AreTold (around list (facts_with list f known stored number) m) only k rules (known_values list f known) (is_told list f known m)
    known_told only k rules m stored number =
        paths_told only k rules (known_values list f known)
        (λ n lt e. used_fits (constant_type list f known n) _ (constant_fits list f known n lt e))
        (λ owner n x at h. used_fits (word (word_is.Enum owner)) _ (value_fits list f known settled owner n h))
        m stored number

    pub list_told : (t : Typed) → t.constants ≡ typed_constants list f known → t.enums ≡ typed_enums list f known → (only : OneOp → Bool) (k : Known) (rules m : ℕ) (stored : ℕ → ℕ → Ty) (number : Expr → Option ℕ)
        → AreTold (around list (facts_with list f known stored number) m) only k rules (values_of t) (is_told list f known m)
    list_told t cs es only k rules m stored number =
        paths_told only k rules (values_of t)
        (λ n lt e. ap (λ xs. fits (constant_type list f known n) (used (constant_told (slice_get xs n)))) cs ∙ constant_tells list f known n lt e)
        (λ owner n x at h. ap (λ xs. fits (word (word_is.Enum owner)) (used (label_in owner n (slice_get xs owner)))) es ∙ label_tells list f known owner n x at (value_fits list f known settled owner n h))
        m stored number
