-- The units of a list in which no rule is broken: the members of their variables and fields are of the types that these store, and what
-- fields read is stored in members of integers.
use Rattle.std.specs.Prelude.{true, false, not, ◌&&◌}
use Rattle.std.specs.List.{list_all}
use Rattle.std.proofs.Common.{ℕ, ◌≡◌, ◌+◌, refl, sym, ap, subst, ◌∙◌, arith, List, [], ◌∷◌, length, Option, Some, None, slice_get}
use Rattle.std.proofs.lemmas.Bool.{and_parts, and_from, not-true}
use Rattle.sp_ast.specs.Trees.{Tree, Trees}
use Rattle.sp_ast.specs.Slots.{is_formed}
use Rattle.sp_rules.specs.declared.fault.Fault.{Fault}
use Rattle.sp_types.specs.declared.words.Word.TheVariants as word_is
use Rattle.sp_types.specs.Types.{Ty, word, same, is_known, goes, widens}
use Rattle.sp_typed.specs.Exprs.{Expr, type_of}
use Rattle.sp_typed_units.specs.declared.declarations.Member.{Member}
use Rattle.sp_typed_units.specs.declared.declarations.Parameter.{Parameter}
use Rattle.sp_typed_units.specs.declared.declarations.Unit.{Unit}
use Rattle.sp_typed_units.specs.declared.declarations.Variable.{Variable}
use Rattle.sp_typed_units.specs.Parts.{parts}
use Rattle.sp_type_operands.specs.Literals.{is_past}
use Rattle.sp_type_context.specs.Contexts.{Around}
use Rattle.sp_type_context.specs.Typing.{typed, to_target}
use Rattle.sp_type_fields.specs.Values.{Values}
use Rattle.sp_type_fields.specs.Parts.{Fields}
use Rattle.sp_type_scopes.specs.Parameters.{parameters_in, with_parameters}
use Rattle.sp_solver.specs.Told.{told}
use Rattle.sp_names.specs.declared.rows.Declaration.{Declaration}
use Rattle.sp_names.specs.declared.sort.DeclSort.TheVariants as sort_is
use Rattle.sp_names.specs.Declarations.{all_of, sort_of, declaration_at}
use Rattle.sp_names.specs.Names.{declaration_of}
use Rattle.sp_names.specs.Types.{or_unknown}
use Rattle.sp_type_modules.specs.Members.{unit_items, members_of, declared_unit, unit_declaration, unit_members, first_member, numbered, kinds_of}
use Rattle.sp_type_modules.specs.Arounds.{stored_by, kind_type, kind_member, some_member, unit_member}
use Rattle.sp_rule_bodies.specs.Known.{Known}
use Rattle.sp_rule_bodies.specs.Values.{is_no_value, value_goes, target_tests, written_tests}
use Rattle.sp_rule_lists.specs.Lists.{all_tests, option_tests}
use Rattle.sp_rule_lists.specs.Names.{order_names, variable_names, sink_names, parts_names}
use Rattle.sp_rule_lists.specs.Bodies.{member_type, inside_tests, first_value_tests, variable_tests}
use Rattle.sp_type_modules.specs.declared.sources.Source.{Source}
use Rattle.sp_type_modules.specs.declared.sources.Source.TheVariants as source_is
use Rattle.sp_type_modules.specs.declared.sources.Question.{Question}
use Rattle.sp_type_modules.specs.Sources.{Named, unit_sources, firsts, declared_among, asked as questions_from, questions_of, units, questions, kind_of, members}
use Rattle.sp_type_fields.specs.Fields.{field_type}
use Rattle.sp_type_members.specs.Tries.{in_unit, source_type, source_open, when_open, try_unit, try_asked}
use Rattle.sp_type_modules.specs.inside.Aligned.{members_are, numbered_is}
use Rattle.sp_solver.specs.declared.attempt.Attempt.TheVariants.{Done}
use Rattle.sp_type_units.specs.UnitRows.{inside_unit}
use Rattle.sp_type_units.specs.Fields.{number_or}
use Rattle.sp_type_list_context.specs.Contexts.{parameter_trees}
use Rattle.sp_type_answers.specs.Settled.{Answers}
use Rattle.sp_type_answers.specs.Lists.{typed_of}
use Rattle.sp_type_answers.specs.Rules.{Breaks}
use Rattle.sp_law_lists.specs.known_types.Full.{is_full, is_right}
use Rattle.sp_law_lists.specs.known_types.Clear.{none_hold}
use Rattle.sp_law_lists.proofs.known_types_lemmas.Full.{never, full_is_known}
use Rattle.sp_law_lists.proofs.known_types_lemmas.Tests.{at_first, both_false, not_so}
use Rattle.sp_law_lists.specs.whole_list.Whole.{is_known_if, is_known_member, is_known_variable}
use Rattle.sp_law_lists.proofs.whole_list_lemmas.Modules.{none_found, some_found}
use Rattle.sp_law_lists.proofs.whole_list_lemmas.None.{none_parts}
use Rattle.sp_law_lists.proofs.known_constants_lemmas.Declarations.{AllOf}
use Rattle.sp_law_lists.specs.known_members.Given.{unit_reads}
use Rattle.sp_law_lists.proofs.known_members_lemmas.Shapes.{is_unit_sort, unit_tree}
use Rattle.sp_law_lists.proofs.known_members_lemmas.Contexts.{FullMembers, home, parameters_alike}
use Rattle.sp_law_lists.proofs.known_members_lemmas.Rounds.{NoneIsPassed, members_known}
use Rattle.sp_law_lists.proofs.known_members_lemmas.Units.{context_at, v, contexts, fine, items, ps, fields, row_here, suits, items_are_fine, names}
use Rattle.sp_law_lists.specs.fit_expr.Test.{member_type as type_of_member}
use Rattle.sp_law_lists.specs.fit_list.Units.{has_member}
use Rattle.sp_law_lists.specs.known_kinds.Made.{is_targeted}
use Rattle.sp_law_lists.proofs.known_kinds_lemmas.Making.{targeted_made}
use Rattle.sp_law_lists.proofs.known_kinds_lemmas.Values.{seen_is, full_type, turned, key_same}
use Rattle.sp_law_lists.specs.passing_list.Stored.{value_stored, variables_stored}
use Rattle.sp_law_lists.proofs.passing_list_lemmas.FunctionBodies.{each_at}
use Rattle.sp_law_lists.proofs.passing_list_lemmas.Members.{found_below, row_of_member}
use Rattle.sp_law_lists.proofs.passing_list_lemmas.FirstNames.{IsOwn}
use Rattle.sp_law_lists.proofs.passing_list_lemmas.Asked.{question_at, kind_at, in_all}
use Rattle.sp_law_lists.proofs.passing_list_lemmas.Untaken.{IsBroughtTo, is_stored, IsMember, VariableIs, PartsAre, all_variables, all_fields}

-- A value that goes to a type, and was brought to it, is of it.
brought_same : (g : Around) (t : Ty) (m : ℕ) (e : Expr) (x : Tree) → e ≡ to_target t (typed g x) → is_full t ≡ true → is_right e ≡ true → none_hold (target_tests m t e) ≡ true → same t (type_of e) ≡ true
brought_same g t m e x is full right tests =
    let behind = (and_parts (not (is_no_value e)) _ tests).1 in
    let p = (and_parts (not (is_known t && not (value_goes t e))) _ behind).0 in
    let go = not_so (value_goes t e) (both_false (is_known t) (not (value_goes t e)) (not-true (is_known t && not (value_goes t e)) p) (full_is_known t full)) in
    let q = and_parts (not (is_past e)) (goes (type_of e) t) go in
    let past : is_past e ≡ false = not-true (is_past e) q.0 in
    let targeted : is_targeted t e ≡ true = ap (is_targeted t) is ∙ targeted_made t (typed g x) in
    let narrow = subst (λ u. not (widens u t && not (same u t)) ≡ true) (seen_is e past) targeted in
    turned (type_of e) t (key_same (type_of e) t (full_is_known (type_of e) (full_type e right)) (full_is_known t full) q.1 narrow)

-- variables whose members are of the types of their values
value_so : (g : Around) (k : Known) (m : ℕ) (y : Member) (o : Option Expr) → IsBroughtTo g y.ty o → is_full y.ty ≡ true → is_known_if o ≡ true → none_hold (option_tests (first_value_tests k m y.ty) o) ≡ true → value_stored (Some y) o ≡ true
value_so g k m y None is full right tests = refl
value_so g k m y (Some e) is full right tests = brought_same g y.ty m e is.0 is.1 full (at_first is_right e right) (none_parts (target_tests m y.ty e) (inside_tests k m e) tests).0

pub rows_stored : (g : Around) (v : Values) (known_fields : Fields) (k : Known) (m : ℕ) (rows : List Member) (vs : List Variable) → list_all is_known_member rows ≡ true → AllOf (VariableIs g v known_fields rows) vs → list_all is_known_variable vs ≡ true → none_hold (all_tests (variable_tests k m rows) vs) ≡ true
    → variables_stored rows vs ≡ true
rows_stored g v known_fields k m rows [] known all right tests = refl
rows_stored g v known_fields k m rows (x ∷ vs) known all right tests =
    let o = slice_get rows x.member in
    let own = all.0 in
    let r = and_parts (is_known_variable x) (list_all is_known_variable vs) right in
    let q = none_parts (variable_tests k m rows x) (all_tests (variable_tests k m rows) vs) tests in
    let asked = (none_parts (written_tests m x.written) (option_tests (first_value_tests k m (member_type o)) x.value) q.0).1 in
    let here = subst (λ y. none_hold (option_tests (first_value_tests k m (member_type y)) x.value) ≡ true) own.stands asked in
    let one = value_so g k m own.member x.value own.value (each_at is_known_member rows x.member own.member own.stands known) r.0 here in
    and_from (has_member o) (value_stored o x.value && variables_stored rows vs) (ap has_member own.stands)
    (and_from (value_stored o x.value) (variables_stored rows vs) (ap (λ y. value_stored y x.value) own.stands ∙ one) (rows_stored g v known_fields k m rows vs known all.1 r.1 q.1))

-- a member that has a type
typed_member : (o : Option Member) (t : Ty) → type_of_member o ≡ Some t → (y : Member) × (o ≡ Some y) × (y.ty ≡ t)
typed_member None t e = none_found t e
typed_member (Some y) t e = (y, refl, some_found y.ty t e)

stored_kind : (stored : ℕ → Ty) (k : ℕ) (s : Source) → is_stored s ≡ true → kind_type stored k (kind_of s) ≡ stored k
stored_kind stored k (source_is.Variable t) e = refl
stored_kind stored k (source_is.Field t) e = refl
stored_kind stored k source_is.Sink e = never e

kind_ty : (u : Ty) (k : ℕ) (s : Source) → is_full (kind_member u k (kind_of s)).ty ≡ true → is_full u ≡ true
kind_ty u k (source_is.Variable t) e = e
kind_ty u k (source_is.Field t) e = e
kind_ty u k source_is.Sink e = e

done_is : (b u : Ty) (o : Option ℕ) → when_open b o ≡ Done u → b ≡ u
done_is b u None e = cc
done_is b u (Some j) e = absurd (let z : ⊥ = cc in z)

module _ (list : List Tree) (a : Answers list) (formed_list : list_all is_formed list ≡ true) (unbroken : (x : Fault) → Breaks list x → ⊥) (reads : list_all unit_reads (typed_of list a).units ≡ true) (passed : NoneIsPassed) where
  abbrev f : ℕ → Option Ty
  f = told a.types

  abbrev worth : Values
  worth = v list a formed_list unbroken

  abbrev round_units : List Around
  round_units = contexts list a formed_list unbroken

  abbrev last : ℕ → Option Ty
  last = told a.stored

  full : FullMembers list last
  full = members_known list a formed_list unbroken reads passed

  -- What is stored is what its source gives where all is known.
  answered : (i : ℕ) (q : Question) (c : Around) → slice_get (questions list) i ≡ Some q → slice_get round_units q.unit ≡ Some c → is_full (or_unknown (last i)) ≡ true → or_unknown (last i) ≡ source_type (in_unit list last q.unit c) worth q.source
  answered i q c at here known = by (last i) refl known
    where
      by : (o : Option Ty) → last i ≡ o → is_full (or_unknown o) ≡ true → or_unknown o ≡ source_type (in_unit list last q.unit c) worth q.source
      by None e known = never known
      by (Some u) e known =
          let all = length (questions list) in
          let inside = in_unit list last q.unit c in
          let done = sym (ap (try_unit list all last worth q) here) ∙ sym (ap (try_asked list round_units worth all last i) at) ∙ a.kept.settled.solved i u e in
          sym (done_is (source_type inside worth q.source) u (source_open list all last inside worth q.source) done)

  module _ (n g : ℕ) (d : Declaration) (at : slice_get (all_of sort_is.Unit list) n ≡ Some g) (is : declaration_at list g ≡ Some d) (sort : is_unit_sort (sort_of d.tree) ≡ true) where
    abbrev m : ℕ
    m = d.«module»

    abbrev trees : Trees
    trees = items list a formed_list unbroken n g d at is sort

    abbrev own : List Parameter
    own = ps list a formed_list unbroken n g d at is sort

    abbrev its_fields : Fields
    its_fields = fields list a formed_list unbroken n g d at is sort

    abbrev row_ : Unit
    row_ = row_here list a formed_list unbroken n g d at is sort

    abbrev unit : Tree
    unit = (let w = (fine list a formed_list unbroken n g d at is sort).1 in unit_tree w.span w.parameters w.items)

    abbrev inside : Around
    inside = inside_unit n own (home list a last m)

    abbrev stored : ℕ → Ty
    stored = stored_by list last n

    -- the context in which its members are asked for
    abbrev outer : Around
    outer = with_parameters 0 false own (home list a (told []) m)

    asked_in : slice_get round_units n ≡ Some outer
    asked_in =
        let w = (fine list a formed_list unbroken n g d at is sort).1 in
        context_at list f (told a.values) (told []) (all_of sort_is.Unit list) n g d at is
        ∙ ap (λ x. Some (with_parameters 0 false (parameters_in (home list a (told []) m) (parameter_trees x)) (home list a (told []) m))) w.is
        ∙ ap (λ xs. Some (with_parameters 0 false xs (home list a (told []) m))) (parameters_alike list a (told []) last m w.parameters)

    there : declared_unit (unit_declaration list n) ≡ unit
    there = ap declared_unit (ap (declaration_of list) at ∙ is) ∙ (fine list a formed_list unbroken n g d at is sort).1.is

    pub members_there : unit_members list n ≡ members_of unit
    members_there = ap members_of there

    questions_there : questions_of list n ≡ questions_from n (unit_sources unit)
    questions_there = ap (λ u. questions_from n (unit_sources u)) there

    -- The member of what is the first of its name is of the type of what is stored there.
    stored_own : (w : Named) → is_stored w.source ≡ true → IsOwn unit (field_type inside worth) w → IsMember inside worth its_fields row_.members (its_fields.number w.name) (source_type inside worth w.source)
    stored_own w has_type it =
        let ds = firsts (declared_among (unit_items unit)) in
        let k = it.place in
        let number : numbered w.name 0 (members_of unit) ≡ Some k = sym (ap (numbered w.name 0) (members_are unit)) ∙ sym (numbered_is w.name 0 ds) ∙ it.number in
        let kind : slice_get (kinds_of (members_of unit)) k ≡ Some (kind_of w.source) = sym (ap (λ ms. slice_get (kinds_of ms) k) (members_are unit)) ∙ kind_at ds k w it.stands in
        let question = in_all list n k (record { unit = n; source = w.source }) (found_below (all_of sort_is.Unit list) n g at) (ap (λ qs. slice_get qs k) questions_there ∙ question_at n ds k w it.stands) in
        let found : unit_member stored (unit_members list n) (numbered w.name 0 (unit_members list n)) ≡ Some (kind_member (kind_type stored k (kind_of w.source)) k (kind_of w.source)) =
        ap (λ ms. unit_member stored ms (numbered w.name 0 ms)) members_there ∙ ap (unit_member stored (members_of unit)) number ∙ ap (some_member stored k) kind in
        let known_kind = kind_ty (kind_type stored k (kind_of w.source)) k w.source (full (word (word_is.Unit n)) w.name (kind_member (kind_type stored k (kind_of w.source)) k (kind_of w.source)) found) in
        let known : is_full (stored k) ≡ true = subst (λ u. is_full u ≡ true) (stored_kind stored k w.source has_type) known_kind in
        let same_type : stored k ≡ source_type inside worth w.source = answered (first_member list n + k) (record { unit = n; source = w.source }) outer question asked_in known in
        let z : 0 + k ≡ k = omega arith in
        let row_type : type_of_member (slice_get row_.members k) ≡ Some (source_type inside worth w.source) =
        row_of_member stored 0 (members_of unit) k (kind_of w.source) kind ∙ ap (λ i. Some (kind_type stored i (kind_of w.source))) z ∙ ap Some (stored_kind stored k w.source has_type ∙ same_type) in
        subst (λ i. IsMember inside worth its_fields row_.members i (source_type inside worth w.source)) (sym (ap number_or number)) (typed_member (slice_get row_.members k) (source_type inside worth w.source) row_type)

    variable_names_here : none_hold (all_tests (variable_names m) row_.variables) ≡ true
    variable_names_here =
        let x = none_parts (all_tests order_names row_.orders) _ (names list a formed_list unbroken n g d at is sort) in
        (none_parts (all_tests (variable_names m) row_.variables) _ x.1).0

    part_names_here : none_hold (parts_names m (parts row_.parts)) ≡ true
    part_names_here =
        let x = none_parts (all_tests order_names row_.orders) _ (names list a formed_list unbroken n g d at is sort) in
        let y = none_parts (all_tests (variable_names m) row_.variables) _ x.1 in
        (none_parts (all_tests (sink_names m) row_.sinks) (parts_names m (parts row_.parts)) y.1).1

    pub own_variables : AllOf (VariableIs inside worth its_fields row_.members) row_.variables
    own_variables = all_variables inside worth its_fields row_.members unit (λ place. refl) stored_own m variable_names_here

    pub own_fields : PartsAre inside worth its_fields row_.members (parts row_.parts)
    own_fields = all_fields inside worth its_fields row_.members unit (λ place. refl) stored_own list f m (suits list a formed_list unbroken n g d at is sort).1 (items_are_fine list a formed_list unbroken n g d at is sort) part_names_here
