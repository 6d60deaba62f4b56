-- All is known of the constants and the enums of a typed list in which no rule on them is broken.
use Rattle.std.specs.Prelude.{not, nat_lt}
use Rattle.std.specs.List.{list_all}
use Rattle.std.proofs.Common.{ℕ, ◌≡◌, ◌<◌, ◌+◌, zero, suc, Bool, true, false, refl, sym, ap, subst, ◌∙◌, arith, List, [], ◌∷◌, ◌++◌, length, Option, Some, None, slice_get}
use Rattle.std.proofs.lemmas.Bool.{and_parts, and_from}
use Rattle.std.proofs.lemmas.Bool.Decides.{nat_tests}
use Rattle.std.proofs.lemmas.List.Folds.{list_all-append}
use Rattle.sp_ast.specs.Trees.{Tree}
use Rattle.sp_rules.specs.declared.fault.Fault.{Fault}
use Rattle.sp_types.specs.Types.{Ty}
use Rattle.sp_typed_units.specs.declared.declarations.Typed.{Typed}
use Rattle.sp_names.specs.declared.sort.DeclSort.{DeclSort}
use Rattle.sp_names.specs.declared.sort.DeclSort.TheVariants as sort_is
use Rattle.sp_names.specs.declared.rows.Declaration.{Declaration}
use Rattle.sp_names.specs.Declarations.{rows, all_of, sort_of, declaration_at, library_enums, type_tree_of}
use Rattle.sp_names.specs.Names.{declaration_of, enum_labels, labels_of, own_labels, library_names, library_labels}
use Rattle.sp_ast.specs.Views.{present}
use Rattle.sp_rules.specs.declared.rule.Rule.TheVariants as rule_is
use Rattle.sp_rules.specs.Faults.{at}
use Rattle.sp_rule_lists.specs.Lists.{all_tests, option_tests}
use Rattle.sp_rule_lists.specs.Names.{expr_names, constant_names, label_names, enum_names}
use Rattle.sp_rule_lists.specs.Bodies.{const_tests, is_past_label, number_tests, label_tests, enum_tests}
use Rattle.sp_type_values.specs.declared.valued.Valued.{Valued}
use Rattle.sp_type_values.specs.declared.answer.Answer.{Answer}
use Rattle.sp_type_values.specs.Valued.{number_tree, value_tree, constant_of as valued_constant, if_constant, constants_among, constants, label_of, labels_from, declared_labels, labels_before, labels, valued}
use Rattle.sp_type_values.specs.Answers.{value_or, label_expr, answer_of}
use Rattle.sp_type_values.specs.TypedRows.{number_expr, number_at, own_number, declared_constant, next_constant, if_declared, constants_from, declared_label, labels_of_enum, declared_enum, own_enums, library_rows, library_enums_from, typed_enums}
use Rattle.sp_law_lists.specs.known_types.Full.{is_full}
use Rattle.sp_law_lists.specs.known_types.Clear.{none_hold}
use Rattle.sp_law_lists.specs.whole_list.Whole.{is_known, is_known_if, is_known_constant, is_known_label, is_known_enum}
use Rattle.sp_law_lists.proofs.whole_list_lemmas.None.{none_parts}
use Rattle.sp_law_lists.specs.known_constants.Good.{is_answered}
use Rattle.sp_law_lists.specs.known_constants.Given.{asked, AreUnbroken}
use Rattle.sp_law_lists.proofs.known_constants_lemmas.Declarations.{AllOf, DeclaredFine, is_constant_sort, all_fine}
use Rattle.sp_law_lists.proofs.known_constants_lemmas.Labels.{enum_found}
use Rattle.sp_law_lists.proofs.known_constants_lemmas.Places.{answer_is, behind_front, constant_typed}
use Rattle.sp_law_lists.proofs.known_constants_lemmas.Constants.{EachFrom, constant_whole}
use Rattle.sp_law_lists.proofs.known_constants_lemmas.Enums.{test_at, place, own_value, NumberFine, number_fine, labels_fine, AllFine, EnumFine, found_fine, numbered_good}
use Rattle.sp_law_lists.proofs.known_constants_lemmas.Rounds.{constant_answered}
use Rattle.sp_law_lists.proofs.known_constants_lemmas.Named.{each_itself, each_front, each_back, some_within, all_answered, tree_told}

library_known : (k : ℕ) (ns : List (List ℕ)) → list_all is_known_label (library_rows k ns) ≡ true
library_known k [] = refl
library_known k (n ∷ ns) = library_known (suc k) ns

libraries_known : (n : ℕ) (ns : List (List ℕ)) → list_all is_known_enum (library_enums_from n ns) ≡ true
libraries_known n [] = refl
libraries_known n (x ∷ ns) = and_from (list_all is_known_label (library_rows 0 (library_labels n))) (list_all is_known_enum (library_enums_from (suc n) ns)) (library_known 0 (library_labels n)) (libraries_known (suc n) ns)

module _ (list : List Tree) (f : ℕ → Option Ty) (known : ℕ → Option Answer) (t : Typed) (it : AreUnbroken list f known t) where
  abbrev Stands : ℕ → Valued → Type 0
  Stands i v = slice_get (valued list f) i ≡ Some v

  -- what stands in the row has its answer
  answer_at : (i : ℕ) (v : Valued) → Stands i v → known i ≡ Some (answer_of list f known i (Some v))
  answer_at i v at = by_answer (known i) refl (all_answered list f known t it i (some_within (valued list f) i v at))
    where
      by_answer : (o : Option Answer) → known i ≡ o → is_answered o ≡ true → known i ≡ Some (answer_of list f known i (Some v))
      by_answer None e h = absurd (let z : ⊥ = (let b : false ≡ true = h in cc) in z)
      by_answer (Some a) e h = e ∙ ap Some (sym (answer_is list f known it.settled i a e) ∙ ap (answer_of list f known i) at)

  constant_known : (s : DeclSort) (d : Declaration) (ds : List Declaration) (n : ℕ) → sort_of d.tree ≡ s → DeclaredFine list f d → n + length (if_constant list f d s ++ constants_among list f ds) ≡ length (constants list f)
      → EachFrom Stands n (if_constant list f d s ++ constants_among list f ds)
      → none_hold (all_tests constant_names (if_declared list f known n d s ++ constants_from list f known (next_constant list f known n s) ds)) ≡ true
      → none_hold (all_tests (const_tests (asked t)) (if_declared list f known n d s ++ constants_from list f known (next_constant list f known n s) ds)) ≡ true
      → ((j : ℕ) → j + length (constants_among list f ds) ≡ length (constants list f) → EachFrom Stands j (constants_among list f ds) → none_hold (all_tests constant_names (constants_from list f known j ds)) ≡ true
      → none_hold (all_tests (const_tests (asked t)) (constants_from list f known j ds)) ≡ true → list_all is_known_constant (constants_from list f known j ds) ≡ true)
      → list_all is_known_constant (if_declared list f known n d s ++ constants_from list f known (next_constant list f known n s) ds) ≡ true
  constant_known sort_is.Constant d ds n is fine many stands names tests rest =
      let c = declared_constant list f known n d in
      let a = none_parts (constant_names c) (all_tests constant_names (constants_from list f known (suc n) ds)) names in
      let b = none_parts (const_tests (asked t) c) (all_tests (const_tests (asked t)) (constants_from list f known (suc n) ds)) tests in
      let lt : n < length (constants list f) = omega (arith, many) in
      let sort = ap is_constant_sort is in
      let whole = constant_whole list f known t it n d lt sort fine a.0 b.0 (answer_at n (valued_constant list f d) stands.0) (tree_told list f known t it d.«module» (value_tree d.tree)) in
      and_from (is_known_constant c) (list_all is_known_constant (constants_from list f known (suc n) ds))
      (and_from (is_full c.ty) (is_known c.expr) (constant_typed list f known n lt (constant_answered list f known t it n lt)) whole)
      (rest (suc n) (omega (arith, many)) stands.1 a.1 b.1)
  constant_known _ d ds n is fine many stands names tests rest = rest n many stands names tests

  constants_known : (ds : List Declaration) (n : ℕ) → AllOf (DeclaredFine list f) ds → n + length (constants_among list f ds) ≡ length (constants list f) → EachFrom Stands n (constants_among list f ds)
      → none_hold (all_tests constant_names (constants_from list f known n ds)) ≡ true → none_hold (all_tests (const_tests (asked t)) (constants_from list f known n ds)) ≡ true
      → list_all is_known_constant (constants_from list f known n ds) ≡ true
  constants_known [] n fine many stands names tests = refl
  constants_known (d ∷ ds) n fine many stands names tests = constant_known (sort_of d.tree) d ds n refl fine.0 many stands names tests (λ j e s a b. constants_known ds j fine.1 e s a b)

  pub all_constants_known : list_all is_known_constant t.constants ≡ true
  all_constants_known =
      let zero_more : 0 + length (constants list f) ≡ length (constants list f) = omega arith in
      let names = ap (λ xs. none_hold (all_tests constant_names xs)) (sym it.constants_are) ∙ it.constant_paths in
      let tests = ap (λ xs. none_hold (all_tests (const_tests (asked t)) xs)) (sym it.constants_are) ∙ it.constants in
      let stands = each_front Stands 0 (constants list f) (labels list) (each_itself (valued list f) 0 (valued list f) (λ j. (let e : 0 + j ≡ j = omega arith in ap (slice_get (valued list f)) e))) in
      ap (list_all is_known_constant) it.constants_are ∙ constants_known (rows list) 0 (all_fine list f it.formed it.names) zero_more stands names tests

  -- labels
  number_known : (n m i p : ℕ) (at_first : Bool) (o : Option Tree) (x : Fault) → p ≡ place list f n i → i < length (own_labels list n) → NumberFine list f m o → Stands p (label_of (library_enums + n) m at_first o)
      → none_hold (option_tests (expr_names m) (number_expr list f known m o)) ≡ true
      → none_hold ((is_past_label (number_at list f known (library_enums + n) i o), x) ∷ option_tests (number_tests (asked t) m (number_at list f known (library_enums + n) i o)) (number_expr list f known m o)) ≡ true
      → is_known_if (number_expr list f known m o) ≡ true
  number_known n m i p at_first None x at lt fine stands names tests = refl
  number_known n m i p at_first (Some number) x at lt fine stands names tests =
      let owner = library_enums + n in
      let e = label_expr list f known m number in
      let is = answer_at p (label_of owner m at_first (Some number)) stands in
      let valued_as = own_value list f known n i lt ∙ ap (λ j. value_or (known j)) (sym at) ∙ ap value_or is in
      (numbered_good list f known t it owner m i number fine (tree_told list f known t it m number) valued_as names (and_parts (not (is_past_label (own_number list f known owner i))) (none_hold (number_tests (asked t) m (own_number list f known owner i) e)) tests).1).1

  labels_known : (n m : ℕ) (at_first : Bool) (i p : ℕ) (ts : List Tree) → p ≡ place list f n i → i + length ts ≡ length (own_labels list n) → AllFine list f m ts → EachFrom Stands p (labels_from (library_enums + n) m at_first ts)
      → none_hold (all_tests (label_names m) (labels_of_enum list f known (library_enums + n) m i ts)) ≡ true → none_hold (all_tests (label_tests (asked t) m) (labels_of_enum list f known (library_enums + n) m i ts)) ≡ true
      → list_all is_known_label (labels_of_enum list f known (library_enums + n) m i ts) ≡ true
  labels_known n m at_first i p [] at_place count fine stands names tests = refl
  labels_known n m at_first i p (l ∷ ts) at_place count fine stands names tests =
      let owner = library_enums + n in
      let label = declared_label list f known owner m i l in
      let a = none_parts (label_names m label) (all_tests (label_names m) (labels_of_enum list f known owner m (suc i) ts)) names in
      let b = none_parts (label_tests (asked t) m label) (all_tests (label_tests (asked t) m) (labels_of_enum list f known owner m (suc i) ts)) tests in
      let next : suc p ≡ place list f n (suc i) = omega (arith, at_place) in
      and_from (is_known_label label) (list_all is_known_label (labels_of_enum list f known owner m (suc i) ts))
      (number_known n m i p at_first (present (number_tree l)) (at m rule_is.LiteralRange label.span) at_place (omega (arith, count)) (number_fine list f m l fine.0) stands.0 a.0 b.0)
      (labels_known n m false (suc i) (suc p) ts next (omega (arith, count)) fine.1 stands.1 a.1 b.1)

  enum_known : (n p : ℕ) (o : Option Declaration) → own_labels list n ≡ labels_of o → p ≡ place list f n 0 → EnumFine list f known t it o → EachFrom Stands p (declared_labels (library_enums + n) o)
      → none_hold (enum_names (declared_enum list f known (library_enums + n) o)) ≡ true → none_hold (enum_tests (asked t) (declared_enum list f known (library_enums + n) o)) ≡ true
      → is_known_enum (declared_enum list f known (library_enums + n) o) ≡ true
  enum_known n p None own at fine stands names tests = refl
  enum_known n p (Some d) own at fine stands names tests =
      let s = ap length own in
      labels_known n d.«module» true 0 p (enum_labels (type_tree_of d.tree)) at (omega (arith, s)) (labels_fine list f d.«module» d.tree fine) stands names tests

  abbrev many_constants : ℕ
  many_constants = length (constants list f)

  abbrev labels_at : ℕ → Option ℕ → List Valued
  labels_at n o = declared_labels (library_enums + n) (declaration_of list o)

  stands_of : (j n : ℕ) → n < j → EachFrom Stands many_constants (labels_before list j) → EachFrom Stands (many_constants + length (labels_before list n)) (labels_at n (slice_get (all_of sort_is.Enum list) n))
  stands_of zero n lt stands = absurd (let z : ⊥ = omega (arith, lt) in z)
  stands_of (suc j) n lt stands =
      by (λ c. stands_of j n c (each_front Stands many_constants (labels_before list j) (labels_at j (slice_get (all_of sort_is.Enum list) j)) stands)) (nat_lt n j) refl
    where
      by : (n < j → EachFrom Stands (many_constants + length (labels_before list n)) (labels_at n (slice_get (all_of sort_is.Enum list) n))) → (b : Bool) → nat_lt n j ≡ b → EachFrom Stands (many_constants + length (labels_before list n)) (labels_at n (slice_get (all_of sort_is.Enum list) n))
      by next true e = next (grind (arith, nat_tests))
      by next false e =
          let is : j ≡ n = grind (arith, nat_tests) in
          subst (λ i. EachFrom Stands (many_constants + length (labels_before list i)) (labels_at i (slice_get (all_of sort_is.Enum list) i))) is
          (each_back Stands many_constants (labels_before list j) (labels_at j (slice_get (all_of sort_is.Enum list) j)) stands)

  all_stand : EachFrom Stands many_constants (labels list)
  all_stand = each_itself (valued list f) many_constants (labels list) (behind_front (constants list f) (labels list))

  own_known : (n owner : ℕ) (gs : List ℕ) → owner ≡ library_enums + n → ((j : ℕ) → slice_get (all_of sort_is.Enum list) (n + j) ≡ slice_get gs j) → list_all is_known_enum (own_enums list f known owner gs) ≡ true
  own_known n owner [] is at = refl
  own_known n owner (g ∷ gs) is at =
      let here : n ≡ n + 0 = omega arith in
      let found = ap (slice_get (all_of sort_is.Enum list)) here ∙ at 0 in
      let p = many_constants + length (labels_before list n) in
      let at_place : p ≡ place list f n 0 = omega arith in
      let e = declared_enum list f known (library_enums + n) (declaration_of list (Some g)) in
      let names = ap (λ xs. none_hold (all_tests enum_names xs)) (sym it.enums_are) ∙ it.enum_paths in
      let tests = ap (λ xs. none_hold (all_tests (enum_tests (asked t)) xs)) (sym it.enums_are) ∙ it.enums in
      let stands = subst (λ o. EachFrom Stands p (labels_at n o)) found (stands_of (length (all_of sort_is.Enum list)) n (some_within (all_of sort_is.Enum list) n g found) all_stand) in
      let one = enum_known n p (declaration_of list (Some g)) (ap (λ o. labels_of (declaration_of list o)) found) at_place (found_fine list f known t it g (declaration_at list g) refl) stands
      (test_at enum_names (typed_enums list f known) (library_enums + n) e names (enum_found list f known n g found)) (test_at (enum_tests (asked t)) (typed_enums list f known) (library_enums + n) e tests (enum_found list f known n g found)) in
      let next_is : suc owner ≡ library_enums + suc n = omega (arith, is) in
      and_from (is_known_enum (declared_enum list f known owner (declaration_of list (Some g)))) (list_all is_known_enum (own_enums list f known (suc owner) gs))
      (ap (λ i. is_known_enum (declared_enum list f known i (declaration_of list (Some g)))) is ∙ one)
      (own_known (suc n) (suc owner) gs next_is (λ j. (let s : suc n + j ≡ n + suc j = omega arith in ap (slice_get (all_of sort_is.Enum list)) s ∙ at (suc j))))

  pub all_enums_known : list_all is_known_enum t.enums ≡ true
  all_enums_known =
      let own = own_enums list f known library_enums (all_of sort_is.Enum list) in
      let first : library_enums ≡ library_enums + 0 = omega arith in
      ap (list_all is_known_enum) it.enums_are
      ∙ list_all-append is_known_enum (library_enums_from 0 library_names) own
      ∙ and_from (list_all is_known_enum (library_enums_from 0 library_names)) (list_all is_known_enum own) (libraries_known 0 library_names)
      (own_known 0 library_enums (all_of sort_is.Enum list) first (λ j. (let e : 0 + j ≡ j = omega arith in ap (slice_get (all_of sort_is.Enum list)) e)))
