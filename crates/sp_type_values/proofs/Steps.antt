-- Steps of the loops that make the row and the lists of what is named.
use Rattle.std.proofs.Common.{ℕ, ◌≡◌, ◌≤◌, ◌<◌, ◌+◌, suc, sym, ap, ◌∙◌, arith, true, false, List, ◌++◌, length, length-append, Option, Some, None, slice_get, get_or, Vec, Global}
use Rattle.std.specs.Prelude.{nat_lt, if◌then◌else◌, Result, IfOk}
use Rattle.std.proofs.lemmas.Result.{IfOk-weaker}
use Rattle.std.proofs.lemmas.Bool.Decides.{nat_tests}
use Rattle.std.proofs.lemmas.List.{append_assoc}
use Rattle.sp_ast.specs.Trees.{Tree}
use Rattle.sp_types.specs.Types.{Ty}
use Rattle.sp_names.specs.declared.sort.DeclSort.TheVariants as sort_is
use Rattle.sp_names.specs.Declarations.{all_of}
use Rattle.sp_names.specs.Names.{declaration_of, labels_of, own_labels}
use Rattle.sp_names.specs.Tables.{Each}
use Rattle.sp_names.proofs.Lists.{here}
use Rattle.sp_names.proofs.Lookups.{none_at}
use Rattle.sp_typed.specs.Exprs.{Expr}
use Rattle.sp_type_constants.specs.declared.outcome.Outcome.{Outcome}
use Rattle.sp_type_constants.specs.Values.{value_of}
use Rattle.sp_type_constants.specs.Labels.{label_value as labelled}
use Rattle.sp_type_values.specs.declared.valued.Valued.{Valued}
use Rattle.sp_type_values.specs.declared.valued.Valued.TheVariants as is
use Rattle.sp_type_values.specs.declared.answer.Answer.{Answer}
use Rattle.sp_type_values.specs.Answers.{known_values, constant_expr, label_expr, constant_answer, label_answer, answer_of}
use Rattle.sp_type_values.specs.declared.row.EnumPlace.{EnumPlace}
use Rattle.sp_type_values.specs.Valued.{constants, declared_labels, labels_before, valued, own_place, needs}
use Rattle.sp_type_values.specs.Laws.{within}
use Rattle.sp_type_values.specs.inside.Places.{IsEnumPlace, AreValued, AreNeeds}

-- the labels of one more enum
pub one_enum : (list : List Tree) (n : ℕ) (first old new : List Valued) (numbers : List ℕ) → numbers ≡ all_of sort_is.Enum list → old ≡ first ++ labels_before list n
    → new ≡ old ++ declared_labels (4 + n) (declaration_of list (slice_get numbers n)) → new ≡ first ++ labels_before list (n + 1)
one_enum list n first old new numbers are before n' =
    let up : suc n ≡ n + 1 = omega arith in
    let more = declared_labels (4 + n) (declaration_of list (slice_get (all_of sort_is.Enum list) n)) in
    n'
    ∙ ap (λ l. old ++ declared_labels (4 + n) (declaration_of list (slice_get l n))) are
    ∙ ap (λ l. l ++ more) before
    ∙ append_assoc first (labels_before list n) more
    ∙ ap (λ k. first ++ labels_before list k) up

-- where the labels of one more enum stand
pub place_is : (list : List Tree) (n : ℕ) (first old : List Valued) (numbers : List ℕ) (p : EnumPlace) → numbers ≡ all_of sort_is.Enum list → old ≡ first ++ labels_before list n → p.first ≡ length old
    → p.count ≡ length (labels_of (declaration_of list (slice_get numbers n))) → IsEnumPlace list (length first) n p
place_is list n first old numbers p are before at count = record {
  first_is = at ∙ ap length before ∙ length-append first (labels_before list n);
  count_is = count ∙ ap (λ l. length (labels_of (declaration_of list (slice_get l n)))) are;
}

-- where a label stands
module _ (list : List Tree) (f : ℕ → Option Ty) (rows : List Valued) (many : ℕ) (enums : List EnumPlace) (v : AreValued list f rows many enums) (n label : ℕ) where
  is_place : (p : EnumPlace) → Some p ≡ slice_get enums n → IsEnumPlace list (length (constants list f)) n p
  is_place p at = v.enums_are n p (sym at)

  pub place_within : (p : EnumPlace) → Some p ≡ slice_get enums n → label < p.count → p.first + label < length rows
  place_within p at lt =
      let is = is_place p at in
      let has : label < length (own_labels list n) = omega (arith, lt, is.count_is) in
      let w = within list f n label has in
      let all = ap length v.rows_are in
      omega (arith, w, is.first_is, all)

  pub place_found : (p : EnumPlace) → Some p ≡ slice_get enums n → label < p.count → Some (p.first + label) ≡ own_place list f n label
  place_found p at lt =
      let is = is_place p at in
      let has : label < length (own_labels list n) = omega (arith, lt, is.count_is) in
      let b : nat_lt label (length (own_labels list n)) ≡ true = grind (arith, nat_tests) in
      let sum : p.first + label ≡ length (constants list f) + length (labels_before list n) + label = omega (arith, is.first_is) in
      ap Some sum ∙ sym (ap (λ t. if t then Some (length (constants list f) + length (labels_before list n) + label) else None) b)

  none_there : length (own_labels list n) ≤ label → None ≡ own_place list f n label
  none_there le =
      let b : nat_lt label (length (own_labels list n)) ≡ false = grind (arith, nat_tests) in
      sym (ap (λ t. if t then Some (length (constants list f) + length (labels_before list n) + label) else None) b)

  pub place_past : (p : EnumPlace) → Some p ≡ slice_get enums n → p.count ≤ label → None ≡ own_place list f n label
  place_past p at le = (let is = is_place p at in none_there (omega (arith, le, is.count_is)))

  pub place_missed : length enums ≤ n → None ≡ own_place list f n label
  place_missed le =
      let past : None ≡ slice_get (all_of sort_is.Enum list) n = none_at (all_of sort_is.Enum list) n (omega (arith, le, v.all_enums)) in
      let none : length (own_labels list n) ≡ 0 = ap (λ o. length (labels_of (declaration_of list o))) (sym past) in
      none_there (omega (arith, none))

-- what one depends on, from the lists of all
pub needs_at : (list : List Tree) (f : ℕ → Option Ty) (vs : List (Vec ℕ Global)) (i : ℕ) (v : Vec ℕ Global) (xs : List ℕ) → i < length (valued list f) → length vs ≡ length (valued list f) → Each (AreNeeds list f) vs → v ≡ get_or vs i v → xs ≡ v.items
    → xs ≡ needs list f i
needs_at list f vs i v xs lt all each is x =
    x ∙ each i v (here vs i v (omega (arith, lt, all)) ∙ ap Some (sym is))

-- the answers of a constant and of a label with a number
pub constant_found : {E : Type 0} (r : Result Answer E) (list : List Tree) (f : ℕ → Option Ty) (known : ℕ → Option Answer) (i m : ℕ) (written w : Option Ty) (value : Tree) (e : Expr) (v : Valued) → IfOk r (λ a. a ≡ constant_answer list f known w e) → w ≡ written
    → e ≡ constant_expr list f known m written value → v ≡ is.Constant m written value → IfOk r (λ a. a ≡ answer_of list f known i (Some v))
constant_found r list f known i m written w value e v clause to typed stands =
    IfOk-weaker r (λ a. a ≡ constant_answer list f known w e) (λ a. a ≡ answer_of list f known i (Some v))
    (λ a h. h ∙ ap (λ x. constant_answer list f known x e) to ∙ ap (constant_answer list f known written) typed ∙ ap (λ x. answer_of list f known i (Some x)) (sym stands)) clause

pub label_found : (list : List Tree) (f : ℕ → Option Ty) (known : ℕ → Option Answer) (i kind m : ℕ) (number : Tree) (e : Expr) (o p : Outcome) (a : Answer) (v : Valued) → a ≡ label_answer kind p → p ≡ labelled kind o → o ≡ value_of (known_values list f known) e
    → e ≡ label_expr list f known m number → v ≡ is.Numbered kind m number → a ≡ answer_of list f known i (Some v)
label_found list f known i kind m number e o p a v answer label value typed stands =
    answer
    ∙ ap (label_answer kind) label
    ∙ ap (λ x. label_answer kind (labelled kind x)) value
    ∙ ap (λ x. label_answer kind (labelled kind (value_of (known_values list f known) x))) typed
    ∙ ap (λ x. answer_of list f known i (Some x)) (sym stands)
