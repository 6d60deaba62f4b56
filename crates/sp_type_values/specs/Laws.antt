-- An answer hangs on the answers of what is named, and what is named is there.
use Rattle.std.proofs.Common.{ℕ, ◌≡◌, ◌<◌, ◌≤◌, ◌+◌, ◌-◌, zero, suc, refl, ap, sym, ◌∙◌, arith, Bool, true, false, List, [], ◌∷◌, ◌++◌, length, length-append, Option, Some, None, slice_get}
use Rattle.std.specs.Prelude.{nat_lt, if◌then◌else◌}
use Rattle.std.proofs.lemmas.Bool.Decides.{nat_tests}
use Rattle.sp_ast.specs.Trees.{Tree, Trees, absent, row, node, none, more}
use Rattle.sp_ast.specs.declared.forms.Form.TheVariants as form_is
use Rattle.sp_types.specs.Types.{Ty, word}
use Rattle.sp_typed.specs.Exprs.{Expr, type_of}
use Rattle.sp_solver.specs.Rounds.{Within}
use Rattle.sp_dependencies.specs.Tries.{first_open, Hangs, AreBelow, IsInRange}
use Rattle.sp_dependencies.specs.TryLaws.{open_none}
use Rattle.sp_names.specs.declared.rows.Declaration.{Declaration}
use Rattle.sp_names.specs.declared.sort.DeclSort.{DeclSort}
use Rattle.sp_names.specs.declared.sort.DeclSort.TheVariants as sort_is
use Rattle.sp_names.specs.declared.sort.Meaning.{Meaning}
use Rattle.sp_names.specs.declared.sort.Meaning.TheVariants as meaning_is
use Rattle.sp_names.specs.Declarations.{sort_at, number_at, all_of, type_tree_of, library_enums}
use Rattle.sp_names.specs.Names.{declaration_of, enum_labels, labels_of, own_labels, path_means}
use Rattle.sp_names.specs.Types.{one_or_none}
use Rattle.sp_type_operands.specs.Literals.{unsigned_literal}
use Rattle.sp_type_context.specs.Typing.{typed, to_maybe, to_target}
use Rattle.sp_type_constants.specs.declared.outcome.Outcome.{Outcome}
use Rattle.sp_type_constants.specs.Values.{value_of}
use Rattle.sp_type_constants.specs.Labels.{label_value as labelled, next_label, fitting, fits_written}
use Rattle.sp_type_values.specs.declared.valued.Valued.{Valued}
use Rattle.sp_type_values.specs.declared.valued.Valued.TheVariants as is
use Rattle.sp_type_values.specs.declared.answer.Answer.{Answer}
use Rattle.sp_type_values.specs.Valued.{constants, labels_from, declared_labels, labels_before, labels, valued, constant_place, own_place, label_place, declaration_needs, meaning_needs, needs_in, needs_among, needs_of, needs}
use Rattle.sp_type_values.specs.Answers.{value_or, written_or, label_answer, known_values, here, constant_expr, label_expr, constant_answer, answer_of, gives}
use Rattle.sp_type_values.specs.Leaves.{Holds, maybe_holds}
use Rattle.sp_type_values.specs.Agreement.{value_same, Same, Agree, typed_same}

-- what is known stays known
module _ (list : List Tree) (f : ℕ → Option Ty) (before after : ℕ → Option Answer) where
  same_from : (js : List ℕ) → Within before after → first_open before js ≡ None → Same list f before after js
  same_from [] w e = tt
  same_from (j ∷ js) w e =
      let o = open_none before j js e in
      (o.0.1 ∙ sym (w j o.0.0 o.0.1), same_from js w o.1)

  value_alike : (e : Expr) → Holds (Agree list f before after) e → value_of (known_values list f before) e ≡ value_of (known_values list f after) e
  value_alike e h = value_same (known_values list f before) (known_values list f after) e h

  constant_same : (m : ℕ) (written : Option Ty) (value : Tree) → Same list f before after (needs_in list f m value)
      → constant_answer list f before written (constant_expr list f before m written value) ≡ constant_answer list f after written (constant_expr list f after m written value)
  constant_same m written value s =
      let t = typed_same list f before after m value s in
      let e = constant_expr list f before m written value in
      let v = value_alike e (maybe_holds (Agree list f before after) written (typed (here list f before m) value) t.1) in
      let with_value : Outcome → Answer = λ o. record { ty = written_or written e; value = fitting (fits_written written (type_of e)) o } in
      ap with_value v ∙ ap (λ x. constant_answer list f after written (to_maybe written x)) t.0

  label_same : (owner m : ℕ) (number : Tree) → Same list f before after (needs_in list f m number)
      → label_answer owner (labelled owner (value_of (known_values list f before) (label_expr list f before m number))) ≡ label_answer owner (labelled owner (value_of (known_values list f after) (label_expr list f after m number)))
  label_same owner m number s =
      let t = typed_same list f before after m number s in
      let v = value_alike (label_expr list f before m number) (maybe_holds (Agree list f before after) (Some (word unsigned_literal)) (typed (here list f before m) number) t.1) in
      ap (λ o. label_answer owner (labelled owner o)) v
      ∙ ap (λ x. label_answer owner (labelled owner (value_of (known_values list f after) (to_target (word unsigned_literal) x)))) t.0

  answer_same : (i : ℕ) (v : Option Valued) → Same list f before after (needs_of list f i v) → answer_of list f before i v ≡ answer_of list f after i v
  answer_same i None s = refl
  answer_same i (Some (is.Constant m written value)) s = constant_same m written value s
  answer_same i (Some (is.Numbered owner m number)) s = label_same owner m number s
  answer_same i (Some (is.First owner)) s = refl
  answer_same i (Some (is.Next owner)) s = ap (λ a. label_answer owner (next_label owner (value_or a))) s.0

pub hangs : (list : List Tree) (f : ℕ → Option Ty) → Hangs (needs list f) (gives list f)
hangs list f before after i w e =
    answer_same list f before after i (slice_get (valued list f) i) (same_from list f before after (needs list f i) w e)

-- places
below_more : (n : ℕ) (xs ys : List ℕ) → AreBelow n xs → AreBelow n ys → AreBelow n (xs ++ ys)
below_more n [] ys h k = k
below_more n (x ∷ xs) ys h k = (h.0, below_more n xs ys h.1 k)

if_below : (n p : ℕ) (b : Bool) → (b ≡ true → p < n) → AreBelow n (one_or_none (if b then Some p else None))
if_below n p true h = (h refl, tt)
if_below n p false h = tt

lt_of : (a b : ℕ) → nat_lt a b ≡ true → a < b
lt_of a b e = grind (arith, nat_tests)

many_labels : (owner m : ℕ) (first : Bool) (ts : List Tree) → length (labels_from owner m first ts) ≡ length ts
many_labels owner m first [] = refl
many_labels owner m first (t ∷ ts) = ap suc (many_labels owner m false ts)

many_declared : (owner : ℕ) (o : Option Declaration) → length (declared_labels owner o) ≡ length (labels_of o)
many_declared owner None = refl
many_declared owner (Some d) = many_labels owner d.«module» true (enum_labels (type_tree_of d.tree))

module _ (list : List Tree) (f : ℕ → Option Ty) where
  -- a label of an enum tells that there is one
  there : (xs : List ℕ) (n label : ℕ) → label < length (labels_of (declaration_of list (slice_get xs n))) → n < length xs
  there [] n label lt = absurd (let z : ⊥ = omega (arith, lt) in z)
  there (x ∷ xs) zero label lt = omega arith
  there (x ∷ xs) (suc n) label lt = (let h = there xs n label lt in omega (arith, h))

  one_more : (n : ℕ) → length (labels_before list (suc n)) ≡ length (labels_before list n) + length (own_labels list n)
  one_more n =
      let o = declaration_of list (slice_get (all_of sort_is.Enum list) n) in
      length-append (labels_before list n) (declared_labels (library_enums + n) o) ∙ ap (λ k. length (labels_before list n) + k) (many_declared (library_enums + n) o)

  rises : (n m : ℕ) → n ≤ m → length (labels_before list n) ≤ length (labels_before list m)
  rises n zero le =
      let is : n ≡ zero = omega (arith, le) in
      let same = ap (λ k. length (labels_before list k)) is in
      omega (arith, same)
  rises n (suc m) le = by (λ below. rises n m below) (nat_lt m n) refl
    where
      by : (n ≤ m → length (labels_before list n) ≤ length (labels_before list m)) → (b : Bool) → nat_lt m n ≡ b → length (labels_before list n) ≤ length (labels_before list (suc m))
      by up true e =
          let lt = lt_of m n e in
          let is : n ≡ suc m = omega (arith, le, lt) in
          let same = ap (λ k. length (labels_before list k)) is in
          omega (arith, same)
      by up false e =
          let below : n ≤ m = grind (arith, nat_tests) in
          let h = up below in
          let step = one_more m in
          omega (arith, h, step)

  pub within : (n label : ℕ) → label < length (own_labels list n) → length (constants list f) + length (labels_before list n) + label < length (valued list f)
  within n label lt =
      let many = length (all_of sort_is.Enum list) in
      let has = there (all_of sort_is.Enum list) n label lt in
      let step = one_more n in
      let up = rises (suc n) many (omega (arith, has)) in
      let all = length-append (constants list f) (labels list) in
      omega (arith, lt, step, up, all)

  constant_below : (n : ℕ) → AreBelow (length (valued list f)) (one_or_none (constant_place list f n))
  constant_below n = if_below (length (valued list f)) n (nat_lt n (length (constants list f)))
      (λ e. (let h = lt_of n (length (constants list f)) e in let all = length-append (constants list f) (labels list) in omega (arith, h, all)))

  own_below : (n label : ℕ) → AreBelow (length (valued list f)) (one_or_none (own_place list f n label))
  own_below n label = if_below (length (valued list f)) _ (nat_lt label (length (own_labels list n))) (λ e. within n label (lt_of label (length (own_labels list n)) e))

  label_below : (owner label : ℕ) → AreBelow (length (valued list f)) (one_or_none (label_place list f owner label))
  label_below owner label = by (nat_lt owner library_enums)
    where
      by : (b : Bool) → AreBelow (length (valued list f)) (one_or_none (if b then None else own_place list f (owner - library_enums) label))
      by true = tt
      by false = own_below (owner - library_enums) label

  declaration_below : (g : ℕ) (s : DeclSort) → AreBelow (length (valued list f)) (declaration_needs list f g s)
  declaration_below g sort_is.Constant = constant_below (number_at list g)
  declaration_below g _ = tt

  meaning_below : (w : Meaning) → AreBelow (length (valued list f)) (meaning_needs list f w)
  meaning_below (meaning_is.Declaration g) = declaration_below g (sort_at list g)
  meaning_below (meaning_is.Label owner label) = label_below owner label
  meaning_below _ = tt

  mutual
    tree_below : (m : ℕ) (t : Tree) → AreBelow (length (valued list f)) (needs_in list f m t)
    tree_below m absent = tt
    tree_below m (row ts) = trees_below m ts
    tree_below m (node form_is.Path span ts) = meaning_below (path_means list f m (node form_is.Path span ts))
    tree_below m (node (form_is.Type form) span ts) = tt
    tree_below m (node _ span ts) = trees_below m ts

    trees_below : (m : ℕ) (ts : Trees) → AreBelow (length (valued list f)) (needs_among list f m ts)
    trees_below m none = tt
    trees_below m (more t ts) = below_more (length (valued list f)) (needs_in list f m t) (needs_among list f m ts) (tree_below m t) (trees_below m ts)

  one_below : (i : ℕ) (v : Option Valued) → i < length (valued list f) → AreBelow (length (valued list f)) (needs_of list f i v)
  one_below i None lt = tt
  one_below i (Some (is.Constant m written value)) lt = tree_below m value
  one_below i (Some (is.Numbered owner m number)) lt = tree_below m number
  one_below i (Some (is.First owner)) lt = tt
  one_below i (Some (is.Next owner)) lt = (omega (arith, lt), tt)

  pub in_range : IsInRange (length (valued list f)) (needs list f)
  in_range i lt = one_below i (slice_get (valued list f) i) lt
