-- Each constant and each label has an answer, and so all that a tree names is told.
use Rattle.std.specs.Prelude.{◌-◌, nat_lt, not, if◌then◌else◌}
use Rattle.std.proofs.Common.{ℕ, ◌≡◌, ◌<◌, ◌+◌, zero, suc, Bool, true, false, refl, sym, ap, subst, ◌∙◌, arith, List, [], ◌∷◌, ◌++◌, length, length-append, Option, Some, None, slice_get}
use Rattle.std.proofs.lemmas.Bool.{and_parts, and_from, not-true}
use Rattle.std.proofs.lemmas.Bool.Decides.{nat_tests}
use Rattle.std.proofs.lemmas.List.Folds.{list_all-append}
use Rattle.sp_ast.specs.Trees.{Tree, Trees, absent, row, node, none, more}
use Rattle.sp_ast.specs.declared.forms.Form.TheVariants as form_is
use Rattle.sp_rules.specs.declared.fault.Fault.{Fault}
use Rattle.sp_types.specs.Types.{Ty}
use Rattle.sp_typed_units.specs.declared.declarations.Typed.{Typed}
use Rattle.sp_dependencies.specs.Tries.{open_or, first_open}
use Rattle.sp_names.specs.declared.sort.DeclSort.{DeclSort}
use Rattle.sp_names.specs.declared.sort.DeclSort.TheVariants as sort_is
use Rattle.sp_names.specs.declared.sort.Meaning.{Meaning}
use Rattle.sp_names.specs.declared.sort.Meaning.TheVariants as meaning_is
use Rattle.sp_names.specs.declared.rows.Declaration.{Declaration}
use Rattle.sp_names.specs.Declarations.{all_of, sort_at, number_at, library_enums, type_tree_of}
use Rattle.sp_names.specs.Names.{declaration_of, enum_labels, labels_of, own_labels, path_means}
use Rattle.sp_names.specs.Types.{one_or_none}
use Rattle.sp_ast.specs.Views.{present}
use Rattle.sp_rule_lists.specs.Lists.{all_tests, option_tests}
use Rattle.sp_rule_lists.specs.Bodies.{lacks_number, is_past_label, is_no_number, is_below_zero, number_tests, label_tests, enum_tests}
use Rattle.sp_rules.specs.declared.rule.Rule.TheVariants as rule_is
use Rattle.sp_rule_bodies.specs.Values.{is_no_value}
use Rattle.sp_rules.specs.Faults.{at}
use Rattle.sp_type_operands.specs.Literals.{is_past}
use Rattle.sp_type_values.specs.declared.valued.Valued.{Valued}
use Rattle.sp_type_values.specs.declared.answer.Answer.{Answer}
use Rattle.sp_type_values.specs.Valued.{number_tree, constants, label_of, labels_from, declared_labels, labels_before, labels, valued, constant_place, own_place, label_place, declaration_needs, meaning_needs, needs_in, needs_among, needs_of}
use Rattle.sp_type_values.specs.Answers.{value_or, label_expr}
use Rattle.sp_type_values.specs.Laws.{within}
use Rattle.sp_type_values.specs.TypedRows.{shown_number, number_expr, number_at as number_of_label, own_number, declared_label, labels_of_enum, declared_enum, typed_enums}
use Rattle.sp_law_lists.specs.known_types.Clear.{none_hold}
use Rattle.sp_law_lists.proofs.known_types_lemmas.Full.{never}
use Rattle.sp_law_lists.proofs.whole_list_lemmas.None.{none_parts}
use Rattle.sp_law_lists.proofs.whole_list_lemmas.Modules.{none_found}
use Rattle.sp_law_lists.specs.known_constants.Good.{is_answered, are_answered, is_told}
use Rattle.sp_law_lists.specs.known_constants.Given.{asked, AreUnbroken}
use Rattle.sp_law_lists.proofs.known_constants_lemmas.Labels.{enum_found}
use Rattle.sp_law_lists.proofs.known_constants_lemmas.Places.{behind_front}
use Rattle.sp_law_lists.proofs.known_constants_lemmas.Constants.{EachFrom}
use Rattle.sp_law_lists.proofs.known_constants_lemmas.Enums.{test_at, both_from, place, own_value}
use Rattle.sp_law_lists.proofs.known_constants_lemmas.Rounds.{each_at, one_there, by_some, answered_or, has_answer, Has, constant_answered, all_good}

pub some_within : {A : Type 0} (xs : List A) (i : ℕ) (x : A) → slice_get xs i ≡ Some x → i < length xs
some_within [] i x e = none_found x e
some_within (y ∷ xs) zero x e = omega arith
some_within (y ∷ xs) (suc i) x e = (let h = some_within xs i x e in omega (arith, h))

-- what stands in a row stands there
pub each_itself : (all : List Valued) (n : ℕ) (vs : List Valued) → ((j : ℕ) → slice_get all (n + j) ≡ slice_get vs j) → EachFrom (λ i v. slice_get all i ≡ Some v) n vs
each_itself all n [] at = tt
each_itself all n (v ∷ vs) at =
    let e : n ≡ n + 0 = omega arith in
    (ap (slice_get all) e ∙ at 0, each_itself all (suc n) vs (λ j. (let s : suc n + j ≡ n + suc j = omega arith in ap (slice_get all) s ∙ at (suc j))))

pub each_front : (P : ℕ → Valued → Type 0) (n : ℕ) (xs ys : List Valued) → EachFrom P n (xs ++ ys) → EachFrom P n xs
each_front P n [] ys h = tt
each_front P n (x ∷ xs) ys h = (h.0, each_front P (suc n) xs ys h.1)

pub each_back : (P : ℕ → Valued → Type 0) (n : ℕ) (xs ys : List Valued) → EachFrom P n (xs ++ ys) → EachFrom P (n + length xs) ys
each_back P n [] ys h = (let e : n ≡ n + 0 = omega arith in subst (λ j. EachFrom P j ys) e h)
each_back P n (x ∷ xs) ys h = (let e : suc n + length xs ≡ n + suc (length xs) = omega arith in subst (λ j. EachFrom P j ys) e (each_back P (suc n) xs ys h.1))

module _ (list : List Tree) (f : ℕ → Option Ty) (known : ℕ → Option Answer) (t : Typed) (it : AreUnbroken list f known t) where
  abbrev Stands : ℕ → Valued → Type 0
  Stands i v = slice_get (valued list f) i ≡ Some v

  abbrev HasAnswer : ℕ → Valued → Type 0
  HasAnswer i v = Has list f known t it i

  needs_are : (i : ℕ) (v : Valued) → Stands i v → first_open known (needs_of list f i (Some v)) ≡ None → HasAnswer i v
  needs_are i v at open_ = has_answer list f known t it i (some_within (valued list f) i v at) (ap (λ o. first_open known (needs_of list f i o)) at ∙ open_)

  -- a label: it is the first, has a number that is constant, or stands behind one that has an answer
  entry_has : (n m i p : ℕ) (at_first : Bool) (o : Option Tree) (x : Fault) → p ≡ place list f n i → i < length (own_labels list n) → (at_first ≡ false → Has list f known t it (p - 1)) → Stands p (label_of (library_enums + n) m at_first o)
      → none_hold ((is_past_label (number_of_label list f known (library_enums + n) i o), x) ∷ option_tests (number_tests (asked t) m (number_of_label list f known (library_enums + n) i o)) (number_expr list f known m o)) ≡ true
      → Has list f known t it p
  entry_has n m i p at_first (Some number) x at_place lt before stands tests e =
      let owner = library_enums + n in
      let y = label_expr list f known m number in
      let own = own_number list f known owner i in
      let tested = (and_parts (not (is_past_label own)) (none_hold (number_tests (asked t) m own y)) tests).1 in
      let a = and_parts (not (is_no_value y)) _ tested in
      let b = and_parts (not (is_past y)) _ a.1 in
      let c = and_parts (not (is_no_number y)) _ b.1 in
      let d = and_parts (not (is_below_zero y)) _ c.1 in
      let h = and_parts (not (lacks_number own)) _ d.1 in
      let valued_as = own_value list f known n i lt ∙ ap (λ j. value_or (known j)) (sym at_place) ∙ ap value_or e in
      sym (not-true (lacks_number own) h.0) ∙ ap (λ o. lacks_number (shown_number o)) valued_as
  entry_has n m i p true None x at_place lt before stands tests e = needs_are p (label_of (library_enums + n) m true None) stands refl e
  entry_has n m i p false None x at_place lt before stands tests e = by_some (known (p - 1))
      (λ none. before refl none)
      (λ a some. needs_are p (label_of (library_enums + n) m false None) stands (ap (λ o. open_or o (p - 1) None) some) e)

  labels_have : (n m : ℕ) (at_first : Bool) (i p : ℕ) (ts : List Tree) → p ≡ place list f n i → i + length ts ≡ length (own_labels list n) → (at_first ≡ false → Has list f known t it (p - 1))
      → EachFrom Stands p (labels_from (library_enums + n) m at_first ts) → none_hold (all_tests (label_tests (asked t) m) (labels_of_enum list f known (library_enums + n) m i ts)) ≡ true
      → EachFrom HasAnswer p (labels_from (library_enums + n) m at_first ts)
  labels_have n m at_first i p [] at_place count before stands tests = tt
  labels_have n m at_first i p (l ∷ ts) at_place count before stands tests =
      let owner = library_enums + n in
      let label = declared_label list f known owner m i l in
      let lt : i < length (own_labels list n) = omega (arith, count) in
      let next : suc p ≡ place list f n (suc i) = omega (arith, at_place) in
      let back : suc p - 1 ≡ p = omega arith in
      let more_count : suc i + length ts ≡ length (own_labels list n) = omega (arith, count) in
      let b = none_parts (label_tests (asked t) m label) (all_tests (label_tests (asked t) m) (labels_of_enum list f known owner m (suc i) ts)) tests in
      let here = entry_has n m i p at_first (present (number_tree l)) (at m rule_is.LiteralRange label.span) at_place lt before stands.0 b.0 in
      (here, labels_have n m false (suc i) (suc p) ts next more_count (λ c e. here (sym (ap known back) ∙ e)) stands.1 b.1)

  enum_has : (n p : ℕ) (o : Option Declaration) → own_labels list n ≡ labels_of o → p ≡ place list f n 0 → EachFrom Stands p (declared_labels (library_enums + n) o)
      → none_hold (enum_tests (asked t) (declared_enum list f known (library_enums + n) o)) ≡ true → EachFrom HasAnswer p (declared_labels (library_enums + n) o)
  enum_has n p None own at stands tests = tt
  enum_has n p (Some d) own at stands tests =
      let s = ap length own in
      labels_have n d.«module» true 0 p (enum_labels (type_tree_of d.tree)) at (omega (arith, s)) (λ c. never (sym c)) stands tests

  number_has : (n p : ℕ) (o : Option ℕ) → slice_get (all_of sort_is.Enum list) n ≡ o → p ≡ place list f n 0 → EachFrom Stands p (declared_labels (library_enums + n) (declaration_of list o))
      → EachFrom HasAnswer p (declared_labels (library_enums + n) (declaration_of list o))
  number_has n p None at here stands = tt
  number_has n p (Some g) at here stands =
      let tests = ap (λ xs. none_hold (all_tests (enum_tests (asked t)) xs)) (sym it.enums_are) ∙ it.enums in
      let e = declared_enum list f known (library_enums + n) (declaration_of list (Some g)) in
      enum_has n p (declaration_of list (Some g)) (ap (λ o. labels_of (declaration_of list o)) at) here stands
      (test_at (enum_tests (asked t)) (typed_enums list f known) (library_enums + n) e tests (enum_found list f known n g at))

  before_has : (n : ℕ) → EachFrom Stands (length (constants list f)) (labels_before list n) → EachFrom HasAnswer (length (constants list f)) (labels_before list n)
  before_has zero stands = tt
  before_has (suc n) stands =
      let o = slice_get (all_of sort_is.Enum list) n in
      let many = length (constants list f) in
      let first = labels_before list n in
      let last = declared_labels (library_enums + n) (declaration_of list o) in
      let e : many + length first ≡ place list f n 0 = omega arith in
      both_from HasAnswer many first last (before_has n (each_front Stands many first last stands)) (number_has n (many + length first) o refl e (each_back Stands many first last stands))

  label_has : (j : ℕ) → j < length (labels list) → Has list f known t it (length (constants list f) + j)
  label_has j lt =
      let many = length (constants list f) in
      let stands = each_itself (valued list f) many (labels list) (behind_front (constants list f) (labels list)) in
      by_some (slice_get (labels list) j) (λ e. one_there (labels list) j lt e) (λ v e. each_at HasAnswer many (labels list) j v (before_has (length (all_of sort_is.Enum list)) stands) e)

  label_answered : (j : ℕ) → j < length (labels list) → is_answered (known (length (constants list f) + j)) ≡ true
  label_answered j lt = answered_or (known (length (constants list f) + j)) (label_has j lt) (all_good list f known t it (length (constants list f) + j))

  -- all that a path names
  if_answered : (b : Bool) (n p : ℕ) → (b ≡ true → is_answered (known p) ≡ true) → are_answered known (one_or_none (if b then Some p else None)) ≡ true
  if_answered true n p h = and_from (is_answered (known p)) true (h refl) refl
  if_answered false n p h = refl

  constant_told : (n : ℕ) → are_answered known (one_or_none (constant_place list f n)) ≡ true
  constant_told n = if_answered (nat_lt n (length (constants list f))) n n (λ e. constant_answered list f known t it n (grind (arith, nat_tests)))

  own_told : (n label : ℕ) → are_answered known (one_or_none (own_place list f n label)) ≡ true
  own_told n label =
      let many = length (constants list f) in
      let b = length (labels_before list n) in
      if_answered (nat_lt label (length (own_labels list n))) label (many + b + label)
      (λ e. (
      let lt : label < length (own_labels list n) = grind (arith, nat_tests) in
      let inside = within list f n label lt in
      let sum = length-append (constants list f) (labels list) in
      let s : many + (b + label) ≡ many + b + label = omega arith in
      subst (λ p. is_answered (known p) ≡ true) s (label_answered (b + label) (omega (arith, inside, sum)))
      ))

  label_told : (owner label : ℕ) → are_answered known (one_or_none (label_place list f owner label)) ≡ true
  label_told owner label = by (nat_lt owner library_enums)
    where
      by : (b : Bool) → are_answered known (one_or_none (if b then None else own_place list f (owner - library_enums) label)) ≡ true
      by true = refl
      by false = own_told (owner - library_enums) label

  declaration_told : (g : ℕ) (s : DeclSort) → are_answered known (declaration_needs list f g s) ≡ true
  declaration_told g sort_is.Constant = constant_told (number_at list g)
  declaration_told g _ = refl

  meaning_told : (w : Meaning) → are_answered known (meaning_needs list f w) ≡ true
  meaning_told (meaning_is.Declaration g) = declaration_told g (sort_at list g)
  meaning_told (meaning_is.Label owner label) = label_told owner label
  meaning_told _ = refl

  -- All that a tree names is answered.
  mutual
    pub tree_told : (m : ℕ) (u : Tree) → is_told list f known m u ≡ true
    tree_told m absent = refl
    tree_told m (row us) = trees_told m us
    tree_told m (node form_is.Path span us) = meaning_told (path_means list f m (node form_is.Path span us))
    tree_told m (node (form_is.Type form) span us) = refl
    tree_told m (node _ span us) = trees_told m us

    trees_told : (m : ℕ) (us : Trees) → are_answered known (needs_among list f m us) ≡ true
    trees_told m none = refl
    trees_told m (more u us) =
        list_all-append (λ j. is_answered (known j)) (needs_in list f m u) (needs_among list f m us)
        ∙ and_from (are_answered known (needs_in list f m u)) (are_answered known (needs_among list f m us)) (tree_told m u) (trees_told m us)

  pub all_answered : (i : ℕ) → i < length (valued list f) → is_answered (known i) ≡ true
  all_answered i lt = by (nat_lt i (length (constants list f))) refl
    where
      by : (b : Bool) → nat_lt i (length (constants list f)) ≡ b → is_answered (known i) ≡ true
      by true e = constant_answered list f known t it i (grind (arith, nat_tests))
      by false e =
          let many = length (constants list f) in
          let s : many + (i - many) ≡ i = grind (arith, nat_tests) in
          let sum = length-append (constants list f) (labels list) in
          subst (λ p. is_answered (known p) ≡ true) s (label_answered (i - many) (omega (arith, lt, sum, s)))
