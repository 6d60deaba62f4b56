-- Constants of a list and what they mean in its bodies.
use Rattle.std.specs.Prelude.{nat_lt, if◌then◌else◌}
use Rattle.std.proofs.Common.{ℕ, ◌≡◌, ◌<◌, ◌+◌, zero, suc, Bool, true, false, refl, sym, ap, subst, ◌∙◌, arith, List, [], ◌∷◌, ◌++◌, length, length-append, Option, Some, None, slice_get}
use Rattle.std.proofs.lemmas.Bool.Decides.{nat_tests}
use Rattle.sp_ast.specs.Trees.{Tree}
use Rattle.sp_ast.specs.Views.{present}
use Rattle.sp_value.specs.Val.{Val}
use Rattle.sp_types.specs.Types.{Ty}
use Rattle.sp_typed.specs.declared.words.LeafOp.{LeafOp}
use Rattle.sp_typed.specs.declared.words.LeafOp.TheVariants as leaf_is
use Rattle.sp_typed.specs.Exprs.{Expr, Exprs, leaf, one, two, three, many, none, more, type_of}
use Rattle.sp_typed_units.specs.declared.declarations.Constant.{Constant}
use Rattle.sp_typed_units.specs.declared.declarations.ConstantValue.TheVariants as constant_is
use Rattle.sp_typed_units.specs.declared.declarations.Typed.{Typed}
use Rattle.sp_names.specs.declared.rows.Declaration.{Declaration}
use Rattle.sp_names.specs.declared.sort.DeclSort.{DeclSort}
use Rattle.sp_names.specs.declared.sort.DeclSort.TheVariants as sort_is
use Rattle.sp_names.specs.Declarations.{rows, sort_of}
use Rattle.sp_type_context.specs.Typing.{typed, to_maybe}
use Rattle.sp_type_constants.specs.declared.outcome.Outcome.{Outcome}
use Rattle.sp_type_constants.specs.declared.outcome.Outcome.TheVariants.{Value, Regex, NotConstant, Error, Unknown}
use Rattle.sp_type_constants.specs.Labels.{fitting, fits_written}
use Rattle.sp_type_constants.specs.Values.{value_of}
use Rattle.sp_type_values.specs.declared.answer.Answer.{Answer}
use Rattle.sp_type_values.specs.Valued.{written_tree, value_tree, written_type, constant_of, if_constant, constants_among, constants, labels, valued}
use Rattle.sp_type_values.specs.Answers.{answer_at, value_or, constant_value, known_values, here, constant_expr, answer_of}
use Rattle.sp_type_values.specs.Leaves.{Holds, HoldsAll, maybe_holds}
use Rattle.sp_type_values.specs.TypedRows.{shown_value, declared_constant, next_constant, if_declared, constants_from, typed_constants}
use Rattle.sp_meaning_states.specs.States.{State, Result}
use Rattle.sp_meaning.specs.Globals.{Globals, constant_values, globals_of}
use Rattle.sp_code_meaning.specs.Layouts.{Layout}
use Rattle.sp_meaning.specs.Globals as bodies
use Rattle.sp_code_meaning.specs.Exprs.{expr_means}
use Rattle.sp_law_constants.specs.Constants.{AlwaysGives, GivesAt}
use Rattle.sp_law_constants.specs.Declared.{AreTyped, ExpressionsAreMeant, ConstantsAreMeant}
use Rattle.sp_law_constants.proofs.Means.{value_meant}
use Rattle.sp_law_constants.proofs.Labels.{no_some, before, answer_is, label_told}
use Rattle.sp_law_constants.proofs.NamedLabels.{IsListed, typed_there}

-- what is shown of a value, and what has one
shown : (o : Outcome) (v : Val) → shown_value o ≡ constant_is.Value v → o ≡ Value v
shown (Value w) v e = cc
shown (Regex text) v e = cc
shown NotConstant v e = cc
shown Error v e = cc
shown Unknown v e = cc

has_value : (o : Option Answer) (v : Val) → value_or o ≡ Value v → (a : Answer) × (o ≡ Some a) × (a.value ≡ Value v)
has_value None v e = cc
has_value (Some a) v e = (a, refl, e)

fitted : (b : Bool) (o : Outcome) (v : Val) → fitting b o ≡ Value v → o ≡ Value v
fitted true o v e = e
fitted false (Value w) v e = cc
fitted false (Regex text) v e = cc
fitted false NotConstant v e = cc
fitted false Error v e = cc
fitted false Unknown v e = cc

values_at : (cs : List Constant) (n : ℕ) (c : Constant) → slice_get cs n ≡ Some c → slice_get (constant_values cs) n ≡ Some (bodies.constant_value c.value)
values_at [] n c e = absurd (no_some c e)
values_at (d ∷ cs) zero c e = (let z : d ≡ c = cc in ap (λ (d : Constant). Some (bodies.constant_value d.value)) z)
values_at (d ∷ cs) (suc n) c e = values_at cs n c e

module _ (P Q : LeafOp → Type 0) (h : (op : LeafOp) → P op → Q op) where
  mutual
    in_both : (e : Expr) → Holds P e → Holds Q e
    in_both (leaf i) p = h i.op p
    in_both (one i a) p = in_both a p
    in_both (two i a b) p = (in_both a p.0, in_both b p.1)
    in_both (three i a b c) p = (in_both a p.0, in_both b p.1, in_both c p.2)
    in_both (many i es) p = all_in_both es p

    all_in_both : (es : Exprs) → HoldsAll P es → HoldsAll Q es
    all_in_both none p = tt
    all_in_both (more e es) p = (in_both e p.0, all_in_both es p.1)

module _ (list : List Tree) (f : ℕ → Option Ty) (known : ℕ → Option Answer) where
  -- a constant of the typed list, by its number, and the same among what has a value
  record Stands (n j : ℕ) (ds : List Declaration) (c : Constant) : Type 0 where
    declaration : Declaration
    is : c ≡ declared_constant list f known (n + j) declaration
    valued_too : slice_get (constants_among list f ds) j ≡ Some (constant_of list f declaration)

  one_stands : (s : DeclSort) (d : Declaration) (ds : List Declaration) (n j : ℕ) (c : Constant) → slice_get (if_declared list f known n d s ++ constants_from list f known (next_constant list f known n s) ds) j ≡ Some c
      → ((m i : ℕ) → slice_get (constants_from list f known m ds) i ≡ Some c → Stands m i ds c)
      → (e : Declaration) × (c ≡ declared_constant list f known (n + j) e) × (slice_get (if_constant list f d s ++ constants_among list f ds) j ≡ Some (constant_of list f e))
  one_stands sort_is.Constant d ds n zero c at rest =
      let z : declared_constant list f known n d ≡ c = cc in
      let s : n ≡ n + 0 = omega arith in
      (d, sym z ∙ ap (λ k. declared_constant list f known k d) s, refl)
  one_stands sort_is.Constant d ds n (suc j) c at rest =
      let h = rest (suc n) j at in
      let s : suc n + j ≡ n + suc j = omega arith in
      (h.declaration, h.is ∙ ap (λ k. declared_constant list f known k h.declaration) s, h.valued_too)
  one_stands _ d ds n j c at rest = (let h = rest n j at in (h.declaration, h.is, h.valued_too))

  stands : (ds : List Declaration) (n j : ℕ) (c : Constant) → slice_get (constants_from list f known n ds) j ≡ Some c → Stands n j ds c
  stands [] n j c at = absurd (no_some c at)
  stands (d ∷ ds) n j c at = (let h = one_stands (sort_of d.tree) d ds n j c at (λ m i. stands ds m i c) in record { declaration = h.0; is = h.1; valued_too = h.2 })

  one_there : (s : DeclSort) (d : Declaration) (ds : List Declaration) (n j : ℕ) → j < length (if_constant list f d s ++ constants_among list f ds)
      → ((m i : ℕ) → i < length (constants_among list f ds) → (c : Constant) × (slice_get (constants_from list f known m ds) i ≡ Some c))
      → (c : Constant) × (slice_get (if_declared list f known n d s ++ constants_from list f known (next_constant list f known n s) ds) j ≡ Some c)
  one_there sort_is.Constant d ds n zero lt rest = (declared_constant list f known n d, refl)
  one_there sort_is.Constant d ds n (suc j) lt rest = rest (suc n) j (omega (arith, lt))
  one_there _ d ds n j lt rest = rest n j lt

  there : (ds : List Declaration) (n j : ℕ) → j < length (constants_among list f ds) → (c : Constant) × (slice_get (constants_from list f known n ds) j ≡ Some c)
  there [] n j lt = absurd (let z : ⊥ = omega (arith, lt) in z)
  there (d ∷ ds) n j lt = one_there (sort_of d.tree) d ds n j lt (λ m i. there ds m i)

  -- a constant with a value is declared, and is answered so
  placed : (n : ℕ) (v : Val) → constant_value list f known n ≡ Value v → (n < length (constants list f)) × (value_or (known n) ≡ Value v)
  placed n v e = by (nat_lt n (length (constants list f))) refl e
    where
      by : (b : Bool) → nat_lt n (length (constants list f)) ≡ b → value_or (answer_at known (if b then Some n else None)) ≡ Value v → (n < length (constants list f)) × (value_or (known n) ≡ Value v)
      by true t e = ((let z : n < length (constants list f) = grind (arith, nat_tests) in z), e)
      by false t e = cc

  constant_given : (n : ℕ) (v : Val) → constant_value list f known n ≡ Value v → slice_get (constant_values (typed_constants list f known)) n ≡ Some (Some v)
  constant_given n v e =
      let c = there (rows list) 0 n (placed n v e).0 in
      let s = stands (rows list) 0 n c.0 c.1 in
      let z : 0 + n ≡ n = omega arith in
      let value = ap (λ (c : Constant). bodies.constant_value c.value) s.is ∙ ap (λ k. bodies.constant_value (shown_value (constant_value list f known k))) z ∙ ap (λ o. bodies.constant_value (shown_value o)) e in
      values_at (typed_constants list f known) n c.0 c.1 ∙ ap Some value

  module _ (t : Typed) (it : AreTyped list f known t) where
    abbrev globals : Globals
    globals = globals_of t

    given_at : (op : LeafOp) → IsListed list op → GivesAt (known_values list f known) globals op
    given_at (leaf_is.Constant n) h = λ v e. ap (λ cs. slice_get (constant_values cs) n) it.constants_are ∙ constant_given n v e
    given_at (leaf_is.Label owner n) h = λ v e. ap (λ es. bodies.label_value (record globals { labels = bodies.enum_labels es }) owner n) it.enums_are ∙ label_told list f known it.settled owner n v h e
    given_at _ h = tt

    pub expression : (call : ℕ → List Val → State → Result) (layout : Layout) (m : ℕ) (target : Option Ty) (tree : Tree) (v : Val)
        → value_of (known_values list f known) (to_maybe target (typed (here list f known m) tree)) ≡ Value v → AlwaysGives v (expr_means globals call layout (to_maybe target (typed (here list f known m) tree)))
    expression call layout m target tree v e =
        let x = to_maybe target (typed (here list f known m) tree) in
        value_meant (known_values list f known) globals call layout x v (in_both (IsListed list) (GivesAt (known_values list f known) globals) given_at x (maybe_holds (IsListed list) target (typed (here list f known m) tree) (typed_there list f known m tree))) e

    declared_value : (n : ℕ) (d : Declaration) (v : Val) → slice_get (constants list f) n ≡ Some (constant_of list f d) → constant_value list f known n ≡ Value v
        → value_of (known_values list f known) (constant_expr list f known d.«module» (written_type list f d.«module» (present (written_tree d.tree))) (value_tree d.tree)) ≡ Value v
    declared_value n d v at e =
        let p = placed n v e in
        let a = has_value (known n) v p.1 in
        let all = length-append (constants list f) (labels list) in
        let lt : n < length (valued list f) = omega (arith, p.0, all) in
        let same = answer_is list f known it.settled n a.0 lt a.1 in
        let entry = before (constants list f) (labels list) n p.0 ∙ at in
        let written = written_type list f d.«module» (present (written_tree d.tree)) in
        let x = constant_expr list f known d.«module» written (value_tree d.tree) in
        fitted (fits_written written (type_of x)) (value_of (known_values list f known) x) v (ap (λ o. (answer_of list f known n o).value) (sym entry) ∙ ap (λ (a : Answer). a.value) same ∙ a.2)

    constant_meant : (call : ℕ → List Val → State → Result) (layout : Layout) (n : ℕ) (c : Constant) (v : Val) → slice_get t.constants n ≡ Some c → c.value ≡ constant_is.Value v → AlwaysGives v (expr_means globals call layout c.expr)
    constant_meant call layout n c v at is =
        let s = stands (rows list) 0 n c (sym (ap (λ cs. slice_get cs n) it.constants_are) ∙ at) in
        let d = s.declaration in
        let z : 0 + n ≡ n = omega arith in
        let value = shown (constant_value list f known n) v (sym (ap (λ (c : Constant). c.value) s.is ∙ ap (λ k. shown_value (constant_value list f known k)) z) ∙ is) in
        let written = written_type list f d.«module» (present (written_tree d.tree)) in
        let meant = expression call layout d.«module» written (value_tree d.tree) v (declared_value n d v s.valued_too value) in
        subst (λ (c : Constant). AlwaysGives v (expr_means globals call layout c.expr)) (sym s.is) meant

pub expressions_are_meant : ExpressionsAreMeant
expressions_are_meant list f known t it call layout m target tree v e = expression list f known t it call layout m target tree v e

pub constants_are_meant : ConstantsAreMeant
constants_are_meant list f known t it call layout n c v at is = constant_meant list f known t it call layout n c v at is
