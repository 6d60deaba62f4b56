-- Labels of a list with written numbers, and what these mean in its bodies.
use Rattle.std.proofs.Common.{ℕ, ◌≡◌, ◌<◌, ◌+◌, zero, suc, Bool, true, false, refl, sym, ap, subst, ◌∙◌, arith, List, [], ◌∷◌, length, Option, Some, None, slice_get}
use Rattle.sp_ast.specs.Trees.{Tree}
use Rattle.sp_ast.specs.Views.{present}
use Rattle.sp_numbers.specs.declared.width.Width.{Width}
use Rattle.sp_value.specs.Val.{Val, uint, enum}
use Rattle.sp_types.specs.Types.{Ty, word}
use Rattle.sp_type_operands.specs.Literals.{unsigned_literal}
use Rattle.sp_typed.specs.Exprs.{Expr}
use Rattle.sp_typed_units.specs.declared.declarations.Enum.{Enum}
use Rattle.sp_typed_units.specs.declared.declarations.Label.{Label}
use Rattle.sp_typed_units.specs.declared.declarations.LabelNumber.TheVariants as number_is
use Rattle.sp_typed_units.specs.declared.declarations.Typed.{Typed}
use Rattle.sp_names.specs.declared.rows.Declaration.{Declaration}
use Rattle.sp_names.specs.declared.sort.DeclSort.TheVariants as sort_is
use Rattle.sp_names.specs.Declarations.{all_of, type_tree_of, library_enums}
use Rattle.sp_names.specs.Names.{library_labels, declaration_of, enum_labels, labels_of, own_labels}
use Rattle.sp_type_constants.specs.declared.outcome.Outcome.{Outcome}
use Rattle.sp_type_constants.specs.declared.outcome.Outcome.TheVariants.{Value, Regex, NotConstant, Error, Unknown}
use Rattle.sp_type_constants.specs.Labels.{label_value as labelled}
use Rattle.sp_type_constants.specs.Values.{value_of}
use Rattle.sp_type_values.specs.declared.answer.Answer.{Answer}
use Rattle.sp_type_values.specs.Valued.{number_tree, label_of, labels_from, declared_labels}
use Rattle.sp_type_values.specs.Answers.{label_value, known_values, label_expr, answer_of}
use Rattle.sp_type_values.specs.TypedRows.{shown_number, number_expr, number_at, declared_label, labels_of_enum, declared_enum, own_enums, library_label, library_rows, typed_enums}
use Rattle.sp_meaning_states.specs.States.{State, Result}
use Rattle.sp_code_meaning.specs.Layouts.{Layout}
use Rattle.sp_meaning.specs.Globals.{globals_of}
use Rattle.sp_code_meaning.specs.Exprs.{expr_means}
use Rattle.sp_law_constants.specs.Constants.{AlwaysGives}
use Rattle.sp_law_constants.specs.Declared.{AreTyped, LabelsAreMeant}
use Rattle.sp_law_constants.proofs.Labels.{no_some, place, entry_place, answered_at, own_answer}
use Rattle.sp_law_constants.proofs.Declarations.{expression}

some_below : {A : Type 0} (xs : List A) (n : ℕ) (x : A) → slice_get xs n ≡ Some x → n < length xs
some_below [] n x e = absurd (no_some x e)
some_below (y ∷ xs) zero x e = omega arith
some_below (y ∷ xs) (suc n) x e = (let h = some_below xs n x e in omega (arith, h))

-- a number that is shown, and the value of one that is written
shown : (o : Outcome) (n : ℕ) → shown_number o ≡ number_is.Number n → (k : ℕ) × (o ≡ Value (enum k n))
shown (Value (enum k m)) n e = (k, cc)
shown (Value _) n e = cc
shown (Regex text) n e = cc
shown NotConstant n e = cc
shown Error n e = cc
shown Unknown n e = cc

written : (owner : ℕ) (o : Outcome) (k n : ℕ) → labelled owner o ≡ Value (enum k n) → (w : Width) × (o ≡ Value (uint w n))
written owner (Value (uint w m)) k n e = (w, cc)
written owner (Value _) k n e = cc
written owner (Regex text) k n e = cc
written owner NotConstant k n e = cc
written owner Error k n e = cc
written owner Unknown k n e = cc

entry_at : (owner m : ℕ) (at_first : Bool) (ts : List Tree) (i : ℕ) (t : Tree) → slice_get ts i ≡ Some t → (b : Bool) × (slice_get (labels_from owner m at_first ts) i ≡ Some (label_of owner m b (present (number_tree t))))
entry_at owner m at_first [] i t e = absurd (no_some t e)
entry_at owner m at_first (x ∷ ts) zero t e = (let z : x ≡ t = cc in (at_first, ap (λ x. Some (label_of owner m at_first (present (number_tree x)))) z))
entry_at owner m at_first (x ∷ ts) (suc i) t e = entry_at owner m false ts i t e

library_none : (k i : ℕ) (ns : List (List ℕ)) (l : Label) (e : Expr) → slice_get (library_rows k ns) i ≡ Some l → l.expr ≡ Some e → ⊥
library_none k i [] l e at is = no_some l at
library_none k zero (x ∷ ns) l e at is = (let z : library_label x k ≡ l = cc in no_some e (ap (λ (l : Label). l.expr) z ∙ is))
library_none k (suc i) (x ∷ ns) l e at is = library_none (suc k) i ns l e at is

labels_same : (y x : Enum) (k : ℕ) (l : Label) → Some y ≡ Some x → slice_get x.labels k ≡ Some l → slice_get y.labels k ≡ Some l
labels_same y x k l e there = (let z : y ≡ x = cc in ap (λ (y : Enum). slice_get y.labels k) z ∙ there)

module _ (list : List Tree) (f : ℕ → Option Ty) (known : ℕ → Option Answer) where
  number_some : (m : ℕ) (o : Option Tree) (e : Expr) → number_expr list f known m o ≡ Some e → (t : Tree) × (o ≡ Some t) × (label_expr list f known m t ≡ e)
  number_some m None e is = absurd (no_some e is)
  number_some m (Some t) e is = (t, refl, cc)

  enum_at : (gs : List ℕ) (n k : ℕ) (x : Enum) → slice_get (own_enums list f known n gs) k ≡ Some x → (g : ℕ) × (slice_get gs k ≡ Some g) × (declared_enum list f known (n + k) (declaration_of list (Some g)) ≡ x)
  enum_at [] n k x at = absurd (no_some x at)
  enum_at (g ∷ gs) n zero x at =
      let e : n + 0 ≡ n = omega arith in
      let z : declared_enum list f known n (declaration_of list (Some g)) ≡ x = cc in
      (g, refl, ap (λ i. declared_enum list f known i (declaration_of list (Some g))) e ∙ z)
  enum_at (g ∷ gs) n (suc k) x at =
      let h = enum_at gs (suc n) k x at in
      let e : n + suc k ≡ suc n + k = omega arith in
      (h.0, h.1, ap (λ i. declared_enum list f known i (declaration_of list (Some h.0))) e ∙ h.2)

  label_at : (owner m k : ℕ) (ts : List Tree) (i : ℕ) (l : Label) → slice_get (labels_of_enum list f known owner m k ts) i ≡ Some l → (t : Tree) × (slice_get ts i ≡ Some t) × (declared_label list f known owner m (k + i) t ≡ l)
  label_at owner m k [] i l at = absurd (no_some l at)
  label_at owner m k (t ∷ ts) zero l at =
      let e : k + 0 ≡ k = omega arith in
      let z : declared_label list f known owner m k t ≡ l = cc in
      (t, refl, ap (λ j. declared_label list f known owner m j t) e ∙ z)
  label_at owner m k (t ∷ ts) (suc i) l at =
      let h = label_at owner m (suc k) ts i l at in
      let e : k + suc i ≡ suc k + i = omega arith in
      (h.0, h.1, ap (λ j. declared_label list f known owner m j h.0) e ∙ h.2)

  module _ (t : Typed) (it : AreTyped list f known t) (call : ℕ → List Val → State → Result) (layout : Layout) where
    abbrev Meant : Expr → ℕ → Type 0
    Meant e n = (w : Width) × AlwaysGives (uint w n) (expr_means (globals_of t) call layout e)

    -- a label with a number of an enum of the list
    number_meant : (k i m n : ℕ) (b : Bool) (number : Tree) → i < length (own_labels list k)
        → slice_get (declared_labels (library_enums + k) (declaration_of list (slice_get (all_of sort_is.Enum list) k))) i ≡ Some (label_of (library_enums + k) m b (Some number))
        → shown_number (label_value list f known (library_enums + k) i) ≡ number_is.Number n → Meant (label_expr list f known m number) n
    number_meant k i m n b number lt at is =
        let owner = library_enums + k in
        let p = place list f known it.settled k i in
        let v = shown (label_value list f known owner i) n is in
        let answered = answered_at list f known it.settled k i (enum v.0 n) lt (own_answer list f known it.settled k i (enum v.0 n) lt v.1) in
        let entry = entry_place list f known it.settled k i lt ∙ at in
        let w = written owner (value_of (known_values list f known) (label_expr list f known m number)) v.0 n (ap (λ o. (answer_of list f known p o).value) (sym entry) ∙ answered) in
        (w.0, expression list f known t it call layout m (Some (word unsigned_literal)) number (uint w.0 n) w.1)

    own_meant : (k i n : ℕ) (o : Option Declaration) (l : Label) (e : Expr) → declaration_of list (slice_get (all_of sort_is.Enum list) k) ≡ o → slice_get (declared_enum list f known (library_enums + k) o).labels i ≡ Some l
        → l.expr ≡ Some e → l.number ≡ number_is.Number n → Meant e n
    own_meant k i n None l e at there is num = absurd (no_some l there)
    own_meant k i n (Some d) l e at there is num =
        let owner = library_enums + k in
        let ts = enum_labels (type_tree_of d.tree) in
        let h = label_at owner d.«module» 0 ts i l there in
        let z : 0 + i ≡ i = omega arith in
        let same = ap (λ j. declared_label list f known owner d.«module» j h.0) (sym z) ∙ h.2 in
        let x = number_some d.«module» (present (number_tree h.0)) e (ap (λ (l : Label). l.expr) same ∙ is) in
        let lt : i < length (own_labels list k) = subst (λ o. i < length (labels_of o)) (sym at) (some_below ts i h.0 h.1) in
        let b = entry_at owner d.«module» true ts i h.0 h.1 in
        let entry = ap (λ o. slice_get (declared_labels owner o) i) at ∙ b.1 ∙ ap (λ o. Some (label_of owner d.«module» b.0 o)) x.1 in
        let number = sym (ap (λ o. number_at list f known owner i o) x.1) ∙ ap (λ (l : Label). l.number) same ∙ num in
        subst (λ e. Meant e n) x.2 (number_meant k i d.«module» n b.0 x.0 lt entry number)

    meant : (owner k : ℕ) (x : Enum) (l : Label) (e : Expr) (n : ℕ) → slice_get (typed_enums list f known) owner ≡ Some x → slice_get x.labels k ≡ Some l → l.expr ≡ Some e → l.number ≡ number_is.Number n → Meant e n
    meant zero k x l e n at there is num = absurd (library_none 0 k (library_labels 0) l e (labels_same _ x k l at there) is)
    meant (suc zero) k x l e n at there is num = absurd (library_none 0 k (library_labels 1) l e (labels_same _ x k l at there) is)
    meant (suc (suc zero)) k x l e n at there is num = absurd (library_none 0 k (library_labels 2) l e (labels_same _ x k l at there) is)
    meant (suc (suc (suc zero))) k x l e n at there is num = absurd (library_none 0 k (library_labels 3) l e (labels_same _ x k l at there) is)
    meant (suc (suc (suc (suc j)))) k x l e n at there is num =
        let h = enum_at (all_of sort_is.Enum list) library_enums j x at in
        own_meant j k n (declaration_of list (Some h.0)) l e (ap (declaration_of list) h.1) (ap (λ (y : Enum). slice_get y.labels k) h.2 ∙ there) is num

pub labels_are_meant : LabelsAreMeant
labels_are_meant list f known t it call layout owner k x l e n at there is num =
    meant list f known t it call layout owner k x l e n (ap (λ es. slice_get es owner) (sym it.enums_are) ∙ at) there is num
