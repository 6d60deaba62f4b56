-- The constants of a typed list: each has the type that its paths have, and a value, unless it is a regular expression.
use Rattle.std.specs.Prelude.{Bool, true, false, not, ◌||◌, ◌++◌, length}
use Rattle.std.specs.List.{list_all}
use Rattle.std.proofs.Common.{ℕ, ◌≡◌, ◌+◌, ◌<◌, zero, suc, refl, sym, ap, subst, ◌∙◌, arith, List, [], ◌∷◌, Option, Some, slice_get}
use Rattle.std.proofs.lemmas.Bool.{and_parts, and_from, not-true}
use Rattle.sp_ast.specs.Trees.{Tree}
use Rattle.sp_ast.specs.Slots.{is_formed}
use Rattle.sp_rules.specs.declared.fault.Fault.{Fault}
use Rattle.sp_types.specs.declared.words.Word.TheVariants as word_is
use Rattle.sp_types.specs.Types.{Ty, word, made, same}
use Rattle.sp_types.proofs.Same.{same_itself}
use Rattle.sp_typed_units.specs.declared.declarations.Constant.{Constant}
use Rattle.sp_typed_units.specs.declared.declarations.Typed.{Typed}
use Rattle.sp_solver.specs.Told.{told}
use Rattle.sp_names.specs.declared.rows.Declaration.{Declaration}
use Rattle.sp_names.specs.declared.sort.DeclSort.{DeclSort}
use Rattle.sp_names.specs.declared.sort.DeclSort.TheVariants as sort_is
use Rattle.sp_names.specs.Declarations.{rows, sort_of, number_at}
use Rattle.sp_type_constants.specs.declared.outcome.Outcome.{Outcome}
use Rattle.sp_type_constants.specs.declared.outcome.Outcome.TheVariants as outcome_is
use Rattle.sp_rule_lists.specs.Bodies.{declared_tests, lacks_value, inside_const, const_tests}
use Rattle.sp_rule_bodies.specs.Values.{is_regex}
use Rattle.sp_type_values.specs.declared.answer.Answer.{Answer}
use Rattle.sp_type_values.specs.Valued.{if_constant, constants_among, constants}
use Rattle.sp_type_values.specs.Answers.{constant_type, constant_value}
use Rattle.sp_type_values.specs.TypedRows.{shown_value, declared_constant, next_constant, if_declared, constants_from, typed_constants}
use Rattle.sp_type_answers.specs.Settled.{Answers}
use Rattle.sp_type_answers.specs.Lists.{typed_of}
use Rattle.sp_type_answers.specs.Rules.{Breaks}
use Rattle.sp_law_lists.specs.known_types.Clear.{none_hold}
use Rattle.sp_law_lists.proofs.known_types_lemmas.Full.{never}
use Rattle.sp_law_lists.specs.known_values.Values.{fits}
use Rattle.sp_law_lists.specs.known_values.Values as values
use Rattle.sp_law_lists.proofs.whole_list_lemmas.None.{none_parts}
use Rattle.sp_law_lists.specs.known_constants.Given.{AreUnbroken, asked}
use Rattle.sp_law_lists.proofs.known_constants_lemmas.Enums.{test_at}
use Rattle.sp_law_lists.proofs.known_constants_lemmas.Places.{constant_there, constant_fits}
use Rattle.sp_law_lists.proofs.known_constants_lemmas.Rounds.{constant_answered}
use Rattle.sp_law_lists.proofs.unbroken_list_lemmas.Lists.{are_unbroken}
use Rattle.sp_law_lists.specs.fit_expr.Around.{Around}
use Rattle.sp_law_lists.specs.fit_expr.Test.{has_value, constant_is_of}
use Rattle.sp_code_meaning.specs.Layouts.{Layout}
use Rattle.sp_law_lists.specs.known_kinds.Kept.{ConstantsKept}
use Rattle.sp_law_lists.proofs.passing_list_lemmas.Members.{round_of, found_below}

-- a regular expression is of the type of one
one_regex : (t : Ty) → values.is_regex t ≡ true → is_regex t ≡ true
one_regex (word word_is.Regex) e = refl
one_regex (word _) e = never e
one_regex (made m ts) e = never e

module _ (list : List Tree) (f : ℕ → Option Ty) (known : ℕ → Option Answer) where
  -- a constant as it stands in the row
  pub record Shown (o : Option Constant) (n : ℕ) : Type 0 where
    pub one : Constant
    pub is : o ≡ Some one
    pub typed : one.ty ≡ constant_type list f known n
    pub valued : one.value ≡ shown_value (constant_value list f known n)

  shown_there : (n : ℕ) (d : Declaration) (k : ℕ) → n ≡ k → Shown (Some (declared_constant list f known n d)) k
  shown_there n d k e = record { one = declared_constant list f known n d; is = refl; typed = ap (constant_type list f known) e; valued = ap (λ i. shown_value (constant_value list f known i)) e }

  one_shown : (s : DeclSort) (d : Declaration) (ds : List Declaration) (n k : ℕ) → ((m j : ℕ) → j < length (constants_among list f ds) → Shown (slice_get (constants_from list f known m ds) j) (m + j)) → k < length (if_constant list f d s ++ constants_among list f ds)
      → Shown (slice_get (if_declared list f known n d s ++ constants_from list f known (next_constant list f known n s) ds) k) (n + k)
  one_shown sort_is.Constant d ds n zero h lt = (let e : n ≡ n + 0 = omega arith in shown_there n d (n + 0) e)
  one_shown sort_is.Constant d ds n (suc k) h lt =
      let e : suc n + k ≡ n + suc k = omega arith in
      subst (λ i. Shown (slice_get (constants_from list f known (suc n) ds) k) i) e (h (suc n) k (omega (arith, lt)))
  one_shown _ d ds n k h lt = h n k lt

  all_shown : (ds : List Declaration) (n k : ℕ) → k < length (constants_among list f ds) → Shown (slice_get (constants_from list f known n ds) k) (n + k)
  all_shown [] n k lt = absurd (let z : ⊥ = omega (arith, lt) in z)
  all_shown (d ∷ ds) n k lt = one_shown (sort_of d.tree) d ds n k (all_shown ds) lt

  pub constant_shown : (n : ℕ) → n < length (constants list f) → Shown (slice_get (typed_constants list f known) n) n
  constant_shown n lt =
      let e : 0 + n ≡ n = omega arith in
      subst (λ i. Shown (slice_get (typed_constants list f known) n) i) e (all_shown (rows list) 0 n lt)

module _ (list : List Tree) (f : ℕ → Option Ty) (known : ℕ → Option Answer) where
  -- there are as many as are declared
  one_more : (s : DeclSort) (d : Declaration) (ds : List Declaration) (n : ℕ) → ((m : ℕ) → length (constants_from list f known m ds) ≡ length (constants_among list f ds))
      → length (if_declared list f known n d s ++ constants_from list f known (next_constant list f known n s) ds) ≡ length (if_constant list f d s ++ constants_among list f ds)
  one_more sort_is.Constant d ds n all = ap suc (all (suc n))
  one_more _ d ds n all = all n

  as_many : (ds : List Declaration) (n : ℕ) → length (constants_from list f known n ds) ≡ length (constants_among list f ds)
  as_many [] n = refl
  as_many (d ∷ ds) n = one_more (sort_of d.tree) d ds n (as_many ds)

  pub constant_listed : (n : ℕ) (x : Constant) → slice_get (typed_constants list f known) n ≡ Some x → n < length (constants list f)
  constant_listed n x at = (let lt = found_below (typed_constants list f known) n x at in let count = as_many (rows list) 0 in omega (arith, lt, count))

module _ (list : List Tree) (a : Answers list) (formed_list : list_all is_formed list ≡ true) (unbroken : (x : Fault) → Breaks list x → ⊥) (places : Layout) (locals : List Ty) (unit : Option ℕ) where
  abbrev f : ℕ → Option Ty
  f = told a.types

  abbrev t : Typed
  t = typed_of list a

  abbrev around : Around
  around = round_of t places locals unit

  abbrev it : AreUnbroken list f (told a.values) t
  it = are_unbroken list a formed_list unbroken

  -- where it has a value, or is a regular expression
  kept_by : (n : ℕ) (o : Outcome) (x : Option Constant) → Shown list f (told a.values) x n → constant_value list f (told a.values) n ≡ o → fits (constant_type list f (told a.values) n) o ≡ true → lacks_value (shown_value o) ≡ false
      → (is_regex (constant_type list f (told a.values) n) || constant_is_of x (constant_type list f (told a.values) n)) ≡ true
  kept_by n (outcome_is.Value v) x shown e fit has =
      let c = shown.one in
      let u = constant_type list f (told a.values) n in
      let value : has_value c.value ≡ true = ap has_value (shown.valued ∙ ap shown_value e) in
      let own : same c.ty u ≡ true = ap (λ w. same w u) shown.typed ∙ same_itself u in
      let one = subst (λ o. constant_is_of o u ≡ true) (sym shown.is) (and_from (has_value c.value) (same c.ty u) value own) in
      or_last (is_regex u) (constant_is_of x u) one
    where
      or_last : (b c : Bool) → c ≡ true → (b || c) ≡ true
      or_last true c e = refl
      or_last false c e = e
  kept_by n (outcome_is.Regex text) x shown e fit has =
      let u = constant_type list f (told a.values) n in
      ap (λ b. b || constant_is_of x u) (one_regex u fit)
  kept_by n outcome_is.NotConstant x shown e fit has = never (sym has)
  kept_by n outcome_is.Error x shown e fit has = never (sym has)
  kept_by n outcome_is.Unknown x shown e fit has = never fit

  -- Declared constants are kept.
  pub constants_kept : ConstantsKept around list (constant_type list f (told a.values))
  constants_kept g is =
      let n = number_at list g in
      let lt = constant_there list f g is in
      let fit = constant_fits list f (told a.values) n lt (constant_answered list f (told a.values) t it n lt) in
      let shown = constant_shown list f (told a.values) n lt in
      let c = shown.one in
      let tests = test_at (const_tests (asked t)) t.constants n c it.constants shown.is in
      let p = none_parts (declared_tests c.«module» c.ty c.written c.expr) _ tests in
      let lacks = not-true (lacks_value c.value) (and_parts (not (lacks_value c.value)) (none_hold (inside_const (asked t) c.«module» c.expr)) p.1).0 in
      kept_by n (constant_value list f (told a.values) n) (slice_get t.constants n) shown refl fit (sym (ap lacks_value shown.valued) ∙ lacks)
