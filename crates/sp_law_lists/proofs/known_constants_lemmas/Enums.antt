-- A label whose parts are answered, where no rule is broken at it: its value is one of its enum.
use Rattle.std.specs.Prelude.{◌-◌, ◌==◌, ◌^◌, nat_lt, not, cond, if◌then◌else◌}
use Rattle.std.proofs.Common.{ℕ, ◌≡◌, ◌<◌, ◌+◌, zero, suc, Bool, true, false, ◌&&◌, refl, sym, ap, subst, ◌∙◌, arith, List, [], ◌∷◌, ◌++◌, length, Option, Some, None, slice_get}
use Rattle.std.proofs.lemmas.Bool.{and_parts, or_parts, not-true}
use Rattle.std.proofs.lemmas.Bool.Decides.{nat_tests}
use Rattle.sp_ast.specs.Trees.{Tree, Trees, absent, row, node, none, more}
use Rattle.sp_ast.specs.Slots.{fill}
use Rattle.sp_ast.specs.Groups.{is_of, fits as fills}
use Rattle.sp_ast.specs.declared.groups.Group.TheVariants as group_is
use Rattle.sp_ast.specs.declared.groups.Sort.TheVariants as slot_is
use Rattle.sp_ast.specs.declared.forms.Form.TheVariants as form_is
use Rattle.sp_ast.specs.declared.forms.DeclForm.TheVariants as decl_is
use Rattle.sp_ast.specs.declared.forms.TypeForm.TheVariants as type_is
use Rattle.sp_rules.specs.declared.fault.Fault.{Fault}
use Rattle.sp_value.specs.Val.{uint, enum}
use Rattle.sp_types.specs.declared.words.Word.{Word}
use Rattle.sp_types.specs.declared.words.Word.TheVariants as word_is
use Rattle.sp_types.specs.Types.{Ty, word, is_known, widens, same}
use Rattle.sp_typed.specs.declared.words.OneOp.TheVariants as one_is
use Rattle.sp_typed.specs.Exprs.{Expr, leaf, one, two, three, many, span_of, type_of, is_literal, retyped, settled}
use Rattle.sp_typed.specs.Nodes.{holds}
use Rattle.sp_typed_units.specs.declared.declarations.Typed.{Typed}
use Rattle.sp_typed_units.specs.declared.declarations.LabelNumber.TheVariants as number_is
use Rattle.sp_type_operands.specs.Operands.{is_unsigned}
use Rattle.sp_type_operands.specs.Literals.{seen, is_past, taken, unsigned_literal}
use Rattle.sp_type_context.specs.Typing.{typed, one_at, to_target}
use Rattle.sp_names.specs.declared.sort.DeclSort.TheVariants as sort_is
use Rattle.sp_names.specs.declared.rows.Declaration.{Declaration}
use Rattle.sp_names.specs.Declarations.{all_of, list_of, declaration_at, library_enums, type_tree_of}
use Rattle.sp_names.specs.Names.{declaration_of, enum_labels, labels_of, own_labels}
use Rattle.sp_ast.specs.Views.{present}
use Rattle.sp_type_constants.specs.declared.outcome.Outcome.{Outcome}
use Rattle.sp_type_constants.specs.declared.outcome.Outcome.TheVariants as outcome_is
use Rattle.sp_type_constants.specs.Outcomes.{is_constant}
use Rattle.sp_type_constants.specs.Labels.{numbered, label_value as labelled, next_label}
use Rattle.sp_type_constants.specs.Values.{value_of as constant_of}
use Rattle.sp_rule_bodies.specs.Known.{Known}
use Rattle.sp_rules.specs.declared.rule.Rule.TheVariants as rule_is
use Rattle.sp_rule_bodies.specs.Values.{is_no_value}
use Rattle.sp_rules.specs.Faults.{at}
use Rattle.sp_rule_lists.specs.Lists.{all_tests, option_tests}
use Rattle.sp_rule_lists.specs.Names.{expr_names, label_names, enum_names}
use Rattle.sp_rule_lists.specs.Bodies.{inside_tests, lacks_number, is_past_label, is_signed_zero, is_below_zero, is_no_number, number_tests, label_tests, enum_tests}
use Rattle.sp_type_values.specs.declared.valued.Valued.{Valued}
use Rattle.sp_type_values.specs.declared.answer.Answer.{Answer}
use Rattle.sp_type_values.specs.Valued.{number_tree, constants, label_of, labels_from, declared_labels, labels_before, own_place}
use Rattle.sp_type_values.specs.Answers.{answer_at, value_or, label_value, known_values, here, label_expr}
use Rattle.sp_type_values.specs.TypedRows.{shown_number, or_past, number_expr, own_number, number_at, declared_label, labels_of_enum, declared_enum, typed_enums}
use Rattle.sp_law_lists.specs.known_types.Full.{is_right}
use Rattle.sp_law_lists.specs.known_types.Clear.{none_hold}
use Rattle.sp_law_lists.proofs.known_types_lemmas.Full.{never, full_is_known}
use Rattle.sp_law_lists.proofs.known_types_lemmas.Tests.{value_of, full_of, whole_of, both_false, not_so}
use Rattle.sp_law_lists.proofs.known_types_lemmas.Kept.{target_holds}
use Rattle.sp_law_lists.proofs.known_types_lemmas.Typed.{typed_holds}
use Rattle.sp_law_lists.specs.known_values.Values.{fits}
use Rattle.sp_law_lists.proofs.known_values_lemmas.Nodes.{target_told}
use Rattle.sp_law_lists.proofs.known_values_lemmas.Typed.{typed_told}
use Rattle.sp_law_lists.specs.whole_list.Types.{is_type}
use Rattle.sp_law_lists.proofs.whole_list_lemmas.None.{none_parts, expr_named}
use Rattle.sp_law_lists.proofs.whole_list_lemmas.Modules.{none_found, some_found}
use Rattle.sp_law_lists.specs.known_constants.Good.{constant_op, is_answered, is_told}
use Rattle.sp_law_lists.specs.known_constants.Fine.{IsFine, AreFine}
use Rattle.sp_law_lists.specs.known_constants.Given.{asked, AreUnbroken}
use Rattle.sp_law_lists.proofs.known_constants_lemmas.Evaluated.{of_constant, constant_stands}
use Rattle.sp_law_lists.proofs.known_constants_lemmas.Fine.{inside, first, rest, formed}
use Rattle.sp_law_lists.proofs.known_constants_lemmas.Declarations.{AllOf, ValueFine, declaration_fine}
use Rattle.sp_law_lists.proofs.known_constants_lemmas.Labels.{enum_found}
use Rattle.sp_law_lists.proofs.known_constants_lemmas.Places.{equal_itself, placed_fits}
use Rattle.sp_law_lists.proofs.known_constants_lemmas.Clear.{all_clear}
use Rattle.sp_law_lists.proofs.known_constants_lemmas.Constants.{EachFrom, Answers, values_known, values_told, value_formed}

-- tests at one of a list
pub test_at : {X : Type 0} (tests : X → List (Bool × Fault)) (xs : List X) (n : ℕ) (x : X) → none_hold (all_tests tests xs) ≡ true → slice_get xs n ≡ Some x → none_hold (tests x) ≡ true
test_at tests [] n x h e = none_found x e
test_at tests (y ∷ xs) zero x h e = ap (λ z. none_hold (tests z)) (sym (some_found y x e)) ∙ (none_parts (tests y) (all_tests tests xs) h).0
test_at tests (y ∷ xs) (suc n) x h e = test_at tests xs n x (none_parts (tests y) (all_tests tests xs) h).1 e

pub both_from : (P : ℕ → Valued → Type 0) (n : ℕ) (xs ys : List Valued) → EachFrom P n xs → EachFrom P (n + length xs) ys → EachFrom P n (xs ++ ys)
both_from P n [] ys h i = (let e : n + 0 ≡ n = omega arith in subst (λ j. EachFrom P j ys) e i)
both_from P n (x ∷ xs) ys h i =
    let e : n + suc (length xs) ≡ suc n + length xs = omega arith in
    (h.0, both_from P (suc n) xs ys h.1 (subst (λ j. EachFrom P j ys) e i))

-- the number of a label is of an unsigned type
retyped_type : (t : Ty) (e : Expr) → type_of (retyped t e) ≡ t
retyped_type t (leaf h) = refl
retyped_type t (one h a) = refl
retyped_type t (two h a b) = refl
retyped_type t (three h a b c) = refl
retyped_type t (many h es) = refl

literal_type : (w : Word) (e : Expr) → is_literal e ≡ true → type_of (settled w e) ≡ word w
literal_type w e l = ap (λ b. type_of (cond b (retyped (word w) e) e)) l ∙ retyped_type (word w) e

-- the place before one
step_back : (l b i p : ℕ) → p ≡ l + b + i → (i == 0) ≡ false → (p - 1 ≡ l + (b + (i - 1))) × (p - 1 ≡ l + b + (i - 1))
step_back l b i p at zero_is = (grind (arith, nat_tests), grind (arith, nat_tests))

shown_constant : (o : Outcome) → lacks_number (shown_number o) ≡ false → is_constant o ≡ true
shown_constant outcome_is.NotConstant e = never (sym e)
shown_constant _ e = refl

unsigned_numbered : (owner : ℕ) (t : Ty) (o : Outcome) → is_unsigned t ≡ true → fits t o ≡ true → fits (word (word_is.Enum owner)) (labelled owner o) ≡ true
unsigned_numbered owner (word (word_is.Uint x)) (outcome_is.Value (uint w n)) u f = equal_itself owner
unsigned_numbered owner (word (word_is.Uint x)) (outcome_is.Value _) u f = never f
unsigned_numbered owner (word (word_is.Uint x)) (outcome_is.Regex text) u f = never f
unsigned_numbered owner (word (word_is.Uint x)) outcome_is.NotConstant u f = refl
unsigned_numbered owner (word (word_is.Uint x)) outcome_is.Error u f = refl
unsigned_numbered owner (word (word_is.Uint x)) outcome_is.Unknown u f = never f
unsigned_numbered owner _ o u f = never u

-- one more than the label before
more_fits : (owner i : ℕ) (b : Bool) → is_past_label (or_past (number_is.Number i) (shown_number (if b then outcome_is.Value (enum owner (i + 1)) else outcome_is.Unknown))) ≡ false
    → fits (word (word_is.Enum owner)) (if b then outcome_is.Value (enum owner (i + 1)) else outcome_is.Unknown) ≡ true
more_fits owner i true past = equal_itself owner
more_fits owner i false past = never (sym past)

next_fits : (owner : ℕ) (o : Outcome) → fits (word (word_is.Enum owner)) o ≡ true → is_past_label (or_past (shown_number o) (shown_number (next_label owner o))) ≡ false → fits (word (word_is.Enum owner)) (next_label owner o) ≡ true
next_fits owner (outcome_is.Value (enum x i)) f past = more_fits owner i (nat_lt (i + 1) (2 ^ 64)) past
next_fits owner (outcome_is.Value _) f past = never f
next_fits owner (outcome_is.Regex text) f past = never f
next_fits owner outcome_is.NotConstant f past = refl
next_fits owner outcome_is.Error f past = refl
next_fits owner outcome_is.Unknown f past = never f

module _ (list : List Tree) (f : ℕ → Option Ty) where
  -- the trees of labels, and their numbers
  abbrev pub NumberFine : ℕ → Option Tree → Type 0
  NumberFine m None = Unit {0}
  NumberFine m (Some t) = ValueFine list f m t

  may_number : (m : ℕ) (t : Tree) → fills (slot_is.Optional group_is.Expressions) t ≡ true → IsFine list f m t → NumberFine m (present t)
  may_number m absent of h = tt
  may_number m (row ts) of h = never of
  may_number m (node form span ts) of h = (of, h)

  pub number_fine : (m : ℕ) (t : Tree) → IsFine list f m t → NumberFine m (present (number_tree t))
  number_fine m absent h = tt
  number_fine m (row ts) h = tt
  number_fine m (node form_is.Label span none) h = tt
  number_fine m (node form_is.Label span (more name none)) h = tt
  number_fine m (node form_is.Label span (more name (more number ts))) h =
      let all = more name (more number ts) in
      let a = and_parts (is_of group_is.Names name) (fills (slot_is.Optional group_is.Expressions) number && fill [] ts) (formed list f m form_is.Label span all h) in
      let p = rest list f m name (more number ts) (inside list f m form_is.Label span all h) in
      may_number m number (and_parts (fills (slot_is.Optional group_is.Expressions) number) (fill [] ts) a.1).0 (first list f m number ts p)
  number_fine m (node _ span ts) h = tt

  abbrev pub AllFine : ℕ → List Tree → Type 0
  AllFine m ts = AllOf (λ t. IsFine list f m t) ts

  row_fine : (m : ℕ) (ts : Trees) → AreFine list f m ts → AllFine m (list_of ts)
  row_fine m none h = tt
  row_fine m (more t ts) h = (first list f m t ts h, row_fine m ts (rest list f m t ts h))

  enum_fine : (m : ℕ) (t : Tree) → IsFine list f m t → AllFine m (enum_labels t)
  enum_fine m absent h = tt
  enum_fine m (row ts) h = tt
  enum_fine m (node (form_is.Type type_is.Enum) span ts) h = row_fine m ts (inside list f m (form_is.Type type_is.Enum) span ts h)
  enum_fine m (node (form_is.Type _) span ts) h = tt
  enum_fine m (node _ span ts) h = tt

  pub labels_fine : (m : ℕ) (t : Tree) → IsFine list f m t → AllFine m (enum_labels (type_tree_of t))
  labels_fine m absent h = tt
  labels_fine m (row ts) h = tt
  labels_fine m (node (form_is.Decl (decl_is.Type p)) span none) h = tt
  labels_fine m (node (form_is.Decl (decl_is.Type p)) span (more name none)) h = tt
  labels_fine m (node (form_is.Decl (decl_is.Type p)) span (more name (more t ts))) h =
      enum_fine m t (first list f m t ts (rest list f m name (more t ts) (inside list f m (form_is.Decl (decl_is.Type p)) span (more name (more t ts)) h)))
  labels_fine m (node (form_is.Decl _) span ts) h = tt
  labels_fine m (node (form_is.Type form) span ts) h = enum_fine m (node (form_is.Type form) span ts) h
  labels_fine m (node _ span ts) h = tt

  -- the labels of enums before one, and the place of one of its own
  abbrev pub place : ℕ → ℕ → ℕ
  place n i = length (constants list f) + length (labels_before list n) + i

  module _ (known : ℕ → Option Answer) where
    pub own_value : (n i : ℕ) → i < length (own_labels list n) → label_value list f known (library_enums + n) i ≡ value_or (known (place n i))
    own_value n i lt =
        let b : nat_lt (library_enums + n) library_enums ≡ false = grind (arith, nat_tests) in
        let c : library_enums + n - library_enums ≡ n = omega arith in
        let d : nat_lt i (length (own_labels list n)) ≡ true = grind (arith, nat_tests) in
        ap (λ b. if b then outcome_is.Value (enum (library_enums + n) i) else value_or (answer_at known (if b then None else own_place list f (library_enums + n - library_enums) i))) b
        ∙ ap (λ j. value_or (answer_at known (own_place list f j i))) c
        ∙ ap (λ b. value_or (answer_at known (if b then Some (place n i) else None))) d

    module _ (t : Typed) (it : AreUnbroken list f known t) where
      abbrev k : Known
      k = asked t

      abbrev Good : ℕ → Valued → Type 0
      Good n v = Answers list f known t it n v

      number_unsigned : (e : Expr) → is_known (type_of (to_target (word unsigned_literal) e)) ≡ true → is_no_number (to_target (word unsigned_literal) e) ≡ false → is_unsigned (type_of (to_target (word unsigned_literal) e)) ≡ true
      number_unsigned e known_type number_is_right =
          let u = word unsigned_literal in
          let x = taken u e in
          by (widens (seen x) u && not (same (seen x) u)) known_type number_is_right
        where
          other : (y : Expr) → is_literal y ≡ false → is_known (type_of y) ≡ true → is_no_number y ≡ false → is_unsigned (type_of y) ≡ true
          other y l known_y right_y =
              let p = or_parts (is_signed_zero y) (is_known (type_of y) && (not (is_literal y) && not (is_unsigned (type_of y)))) right_y in
              let q = both_false (is_known (type_of y)) (not (is_literal y) && not (is_unsigned (type_of y))) p.1 known_y in
              not_so (is_unsigned (type_of y)) (both_false (not (is_literal y)) (not (is_unsigned (type_of y))) q (ap not l))

          inner : (c : Bool) → is_literal e ≡ c → is_known (type_of (if c && true then settled unsigned_literal e else e)) ≡ true → is_no_number (if c && true then settled unsigned_literal e else e) ≡ false
              → is_unsigned (type_of (if c && true then settled unsigned_literal e else e)) ≡ true
          inner true l known_e right_e = ap is_unsigned (literal_type unsigned_literal e l)
          inner false l known_e right_e = other e l known_e right_e

          by : (b : Bool) → is_known (type_of (if b then one_at (span_of (taken (word unsigned_literal) e)) (word unsigned_literal) one_is.Widen (taken (word unsigned_literal) e) else taken (word unsigned_literal) e)) ≡ true
              → is_no_number (if b then one_at (span_of (taken (word unsigned_literal) e)) (word unsigned_literal) one_is.Widen (taken (word unsigned_literal) e) else taken (word unsigned_literal) e) ≡ false
              → is_unsigned (type_of (if b then one_at (span_of (taken (word unsigned_literal) e)) (word unsigned_literal) one_is.Widen (taken (word unsigned_literal) e) else taken (word unsigned_literal) e)) ≡ true
          by true known_e right_e = refl
          by false known_e right_e = inner (is_literal e) refl known_e right_e

      -- a label with a number
      pub numbered_good : (owner m i : ℕ) (number : Tree) → ValueFine list f m number → is_told list f known m number ≡ true → label_value list f known owner i ≡ labelled owner (constant_of (known_values list f known) (label_expr list f known m number))
          → none_hold (expr_names m (label_expr list f known m number)) ≡ true → none_hold (number_tests k m (own_number list f known owner i) (label_expr list f known m number)) ≡ true
          → (fits (word (word_is.Enum owner)) (labelled owner (constant_of (known_values list f known) (label_expr list f known m number))) ≡ true) × (holds is_right (label_expr list f known m number) ≡ true)
      numbered_good owner m i number fine told valued names tests =
          let g = here list f known m in
          let u = word unsigned_literal in
          let e = label_expr list f known m number in
          let kv = known_values list f known in
          let types = is_type list f m in
          let paths = is_told list f known m in
          let a = and_parts (not (is_no_value e)) _ tests in
          let b = and_parts (not (is_past e)) _ a.1 in
          let c = and_parts (not (is_no_number e)) _ b.1 in
          let d = and_parts (not (is_below_zero e)) _ c.1 in
          let h = and_parts (not (lacks_number (own_number list f known owner i))) (none_hold (inside_tests k m e)) d.1 in
          let evaluated = of_constant (numbered owner) (constant_of kv e) (shown_constant (labelled owner (constant_of kv e)) (sym (ap (λ o. lacks_number (shown_number o)) valued) ∙ not-true (lacks_number (own_number list f known owner i)) h.0)) in
          let clear = all_clear constant_op k m e (expr_named m e names) (constant_stands kv e evaluated) h.1 in
          let is = value_formed list f known t it m number fine told in
          let holding = target_holds constant_op k m u (typed g number) (typed_holds g constant_op k m types paths (values_known list f known t it m) number is) in
          let telling = target_told constant_op k m kv u (typed g number) (typed_told g constant_op k m kv types paths (values_told list f known t it m) number is) in
          let value = value_of constant_op k m e holding clear (not-true (is_no_value e) a.0) (not-true (is_past e) b.0) in
          let full = full_of e value in
          (unsigned_numbered owner (type_of e) (constant_of kv e) (number_unsigned (typed g number) (full_is_known (type_of e) full) (not-true (is_no_number e) c.0)) (telling clear (whole_of e value) value.within), whole_of e value)

      -- a label, by its number, which may be left out
      entry_good : (n m i p : ℕ) (at_first : Bool) (o : Option Tree) (x : Fault) → p ≡ place n i → (i == 0) ≡ at_first → i < length (own_labels list n) → NumberFine m o
          → none_hold (option_tests (expr_names m) (number_expr list f known m o)) ≡ true
          → none_hold ((is_past_label (number_at list f known (library_enums + n) i o), x) ∷ option_tests (number_tests k m (number_at list f known (library_enums + n) i o)) (number_expr list f known m o)) ≡ true
          → Good p (label_of (library_enums + n) m at_first o)
      entry_good n m i p at_first (Some number) x at zero_is lt fine names tests is told =
          let owner = library_enums + n in
          let e = label_expr list f known m number in
          let valued = own_value n i lt ∙ ap (λ j. value_or (known j)) (sym at) ∙ ap value_or is in
          (numbered_good owner m i number fine told valued names (and_parts (not (is_past_label (own_number list f known owner i))) (none_hold (number_tests k m (own_number list f known owner i) e)) tests).1).0
      entry_good n m i p true None x at zero_is lt fine names tests is told = equal_itself (library_enums + n)
      entry_good n m i p false None x at zero_is lt fine names tests is told =
          let owner = library_enums + n in
          let l = length (constants list f) in
          let b = length (labels_before list n) in
          let back = step_back l b i p at zero_is in
          let fit = subst (λ j. is_answered (known j) ≡ true → fits (word (word_is.Enum owner)) (value_or (known j)) ≡ true) (sym back.0) (placed_fits list f known it.settled n (i - 1) (omega (arith, lt))) (and_parts (is_answered (known (p - 1))) true told).0 in
          let last = own_value n (i - 1) (omega (arith, lt)) ∙ ap (λ j. value_or (known j)) (sym back.1) in
          let this = own_value n i lt ∙ ap (λ j. value_or (known j)) (sym at) ∙ ap value_or is in
          let past : is_past_label (or_past (own_number list f known owner (i - 1)) (own_number list f known owner i)) ≡ false =
          sym (ap (λ b. is_past_label (if b then own_number list f known owner i else or_past (own_number list f known owner (i - 1)) (own_number list f known owner i))) zero_is)
          ∙ not-true (is_past_label (number_at list f known owner i None)) (and_parts (not (is_past_label (number_at list f known owner i None))) true tests).0 in
          next_fits owner (value_or (known (p - 1))) fit (sym (ap (λ o. is_past_label (or_past (shown_number o) (own_number list f known owner i))) last ∙ ap (λ o. is_past_label (or_past (shown_number (value_or (known (p - 1)))) (shown_number o))) this) ∙ past)

      labels_each : (n m : ℕ) (at_first : Bool) (i p : ℕ) (ts : List Tree) → p ≡ place n i → (i == 0) ≡ at_first → i + length ts ≡ length (own_labels list n) → AllFine m ts
          → none_hold (all_tests (label_names m) (labels_of_enum list f known (library_enums + n) m i ts)) ≡ true → none_hold (all_tests (label_tests k m) (labels_of_enum list f known (library_enums + n) m i ts)) ≡ true
          → EachFrom Good p (labels_from (library_enums + n) m at_first ts)
      labels_each n m at_first i p [] at_place zero_is count fine names tests = tt
      labels_each n m at_first i p (l ∷ ts) at_place zero_is count fine names tests =
          let owner = library_enums + n in
          let label = declared_label list f known owner m i l in
          let a = none_parts (label_names m label) (all_tests (label_names m) (labels_of_enum list f known owner m (suc i) ts)) names in
          let b = none_parts (label_tests k m label) (all_tests (label_tests k m) (labels_of_enum list f known owner m (suc i) ts)) tests in
          let next : suc p ≡ place n (suc i) = omega (arith, at_place) in
          let not_first : (suc i == 0) ≡ false = grind (arith, nat_tests) in (
            entry_good n m i p at_first (present (number_tree l)) (at m rule_is.LiteralRange label.span) at_place zero_is (omega (arith, count)) (number_fine m l fine.0) a.0 b.0,
            labels_each n m false (suc i) (suc p) ts next not_first (omega (arith, count)) fine.1 a.1 b.1,
          )

      abbrev pub EnumFine : Option Declaration → Type 0
      EnumFine None = Unit {0}
      EnumFine (Some d) = IsFine list f d.«module» d.tree

      pub found_fine : (g : ℕ) (o : Option Declaration) → declaration_at list g ≡ o → EnumFine o
      found_fine g None at = tt
      found_fine g (Some d) at = declaration_fine list f it.formed it.names g d at

      enum_each : (n p : ℕ) (o : Option Declaration) → own_labels list n ≡ labels_of o → p ≡ place n 0 → EnumFine o → none_hold (enum_names (declared_enum list f known (library_enums + n) o)) ≡ true
          → none_hold (enum_tests k (declared_enum list f known (library_enums + n) o)) ≡ true → EachFrom Good p (declared_labels (library_enums + n) o)
      enum_each n p None own at fine names tests = tt
      enum_each n p (Some d) own at fine names tests =
          let ts = enum_labels (type_tree_of d.tree) in
          let s = ap length own in
          labels_each n d.«module» true 0 p ts at refl (omega (arith, s)) (labels_fine d.«module» d.tree fine) names tests

      number_each : (n p : ℕ) (o : Option ℕ) → slice_get (all_of sort_is.Enum list) n ≡ o → p ≡ place n 0 → EachFrom Good p (declared_labels (library_enums + n) (declaration_of list o))
      number_each n p None at place_is = tt
      number_each n p (Some g) at place_is =
          let found = enum_found list f known n g at in
          let names = ap (λ xs. none_hold (all_tests enum_names xs)) (sym it.enums_are) ∙ it.enum_paths in
          let tests = ap (λ xs. none_hold (all_tests (enum_tests k) xs)) (sym it.enums_are) ∙ it.enums in
          let e = declared_enum list f known (library_enums + n) (declaration_of list (Some g)) in
          enum_each n p (declaration_of list (Some g)) (ap (λ o. labels_of (declaration_of list o)) at) place_is (found_fine g (declaration_at list g) refl)
          (test_at enum_names (typed_enums list f known) (library_enums + n) e names found) (test_at (enum_tests k) (typed_enums list f known) (library_enums + n) e tests found)

      pub before_each : (n : ℕ) → EachFrom Good (length (constants list f)) (labels_before list n)
      before_each zero = tt
      before_each (suc n) =
          let o = slice_get (all_of sort_is.Enum list) n in
          let l = length (constants list f) + length (labels_before list n) in
          let e : l ≡ place n 0 = omega arith in
          both_from Good (length (constants list f)) (labels_before list n) (declared_labels (library_enums + n) (declaration_of list o)) (before_each n) (number_each n l o refl e)
