-- The members of units as questions: where each reading can be read, the type of each is full wherever the types are known on which
-- it hangs, and all of these are full.
use Rattle.std.specs.List.{list_all}
use Rattle.std.proofs.Common.{ℕ, ◌≡◌, ◌≤◌, zero, suc, true, false, sym, ap, subst, ◌∙◌, arith, List, [], ◌∷◌, Option, Some, None, slice_get}
use Rattle.sp_ast.specs.Trees.{Tree, Trees}
use Rattle.sp_ast.specs.Slots.{is_formed}
use Rattle.sp_rules.specs.declared.fault.Fault.{Fault}
use Rattle.sp_types.specs.Types.{Ty}
use Rattle.sp_typed_units.specs.declared.declarations.Parameter.{Parameter}
use Rattle.sp_typed_units.specs.declared.declarations.Unit.{Unit}
use Rattle.sp_typed_units.specs.Parts.{parts}
use Rattle.sp_type_context.specs.Contexts.{Around}
use Rattle.sp_type_fields.specs.Values.{Values}
use Rattle.sp_type_scopes.specs.Parameters.{parameters_in, with_parameters}
use Rattle.sp_solver.specs.Rounds.{Within}
use Rattle.sp_solver.specs.Told.{told}
use Rattle.sp_names.specs.declared.rows.Declaration.{Declaration}
use Rattle.sp_names.specs.declared.sort.DeclSort.TheVariants as sort_is
use Rattle.sp_names.specs.Declarations.{all_of, sort_of, declaration_at}
use Rattle.sp_names.specs.Names.{declaration_of}
use Rattle.sp_type_modules.specs.Members.{unit_items, declared_unit, unit_declaration}
use Rattle.sp_rule_lists.specs.Lists.{all_tests}
use Rattle.sp_rule_lists.specs.Names.{order_names, variable_names, sink_names, parts_names}
use Rattle.sp_rule_lists.specs.Bodies.{parameter_tests, order_tests, variable_tests}
use Rattle.sp_rule_lists.specs.Fields.{parts_tests}
use Rattle.sp_type_values.specs.Answers.{values}
use Rattle.sp_type_modules.specs.declared.sources.Source.{Source}
use Rattle.sp_type_modules.specs.declared.sources.Question.{Question}
use Rattle.sp_type_modules.specs.Sources.{declared_among, sources_of, firsts, asked as questions_from, questions_of, questions_before, units, questions}
use Rattle.sp_type_members.specs.Tries.{in_unit, source_type, source_open}
use Rattle.sp_type_list_context.specs.Contexts.{parameter_trees}
use Rattle.sp_type_answers.specs.Settled.{Answers}
use Rattle.sp_type_answers.specs.Lists.{typed_of}
use Rattle.sp_type_answers.specs.Rules.{Breaks}
use Rattle.sp_law_lists.specs.known_types.Full.{is_full}
use Rattle.sp_law_lists.proofs.whole_list_lemmas.None.{none_parts}
use Rattle.sp_law_lists.specs.known_constants.Given.{asked}
use Rattle.sp_law_lists.proofs.known_constants_lemmas.Declarations.{AllOf, both_of, at_all}
use Rattle.sp_law_lists.specs.known_members.Given.{unit_reads}
use Rattle.sp_law_lists.proofs.known_members_lemmas.Shapes.{is_unit_sort}
use Rattle.sp_law_lists.proofs.known_members_lemmas.Contexts.{home, parameters_alike}
use Rattle.sp_law_lists.proofs.known_members_lemmas.Fields.{AllFull}
use Rattle.sp_law_lists.proofs.known_members_lemmas.Items.{first_sources, IsGood, items_good}
use Rattle.sp_law_lists.proofs.known_members_lemmas.Units.{IsDeclared, all_declared, found_at, context_at, k, v, contexts, count, unit_at, members_full, fine, pts, items, ps, fields, row_here, suits, items_are_fine, tests, names, parameters_are_full}

module _ (list : List Tree) (a : Answers list) (formed_list : list_all is_formed list ≡ true) (unbroken : (x : Fault) → Breaks list x → ⊥) (reads : list_all unit_reads (typed_of list a).units ≡ true) where
  abbrev f : ℕ → Option Ty
  f = told a.types

  abbrev worth : Values
  worth = v list a formed_list unbroken

  abbrev round_units : List Around
  round_units = contexts list a formed_list unbroken

  abbrev all : ℕ
  all = count list a formed_list unbroken

  -- a member of a unit as a question, in the context of its unit
  pub record IsAnswered (q : Question) : Type 0 where
    pub context : Around
    pub stands : slice_get round_units q.unit ≡ Some context
    pub sound : (r : ℕ → Option Ty) → Within r (told a.stored) → AllFull r → source_open list all r (in_unit list r q.unit context) worth q.source ≡ None → is_full (source_type (in_unit list (told a.stored) q.unit context) worth q.source) ≡ true

  asked_all : (n : ℕ) (g : Around) (xs : List Source) → slice_get round_units n ≡ Some g
      → AllOf (λ x. (r : ℕ → Option Ty) → Within r (told a.stored) → AllFull r → source_open list all r (in_unit list r n g) worth x ≡ None → is_full (source_type (in_unit list (told a.stored) n g) worth x) ≡ true) xs
      → AllOf IsAnswered (questions_from n xs)
  asked_all n g [] e h = tt
  asked_all n g (x ∷ xs) e h = (record { context = g; stands = e; sound = h.0 }, asked_all n g xs e h.1)

  module _ (n g : ℕ) (d : Declaration) (at : slice_get (all_of sort_is.Unit list) n ≡ Some g) (is : declaration_at list g ≡ Some d) (sort : is_unit_sort (sort_of d.tree) ≡ true) where
    abbrev m : ℕ
    m = d.«module»

    abbrev here : Trees
    here = items list a formed_list unbroken n g d at is sort

    abbrev trees : Trees
    trees = pts list a formed_list unbroken n g d at is sort

    abbrev own : List Parameter
    own = ps list a formed_list unbroken n g d at is sort

    abbrev row_ : Unit
    row_ = row_here list a formed_list unbroken n g d at is sort

    abbrev Good : Source → Type 0
    Good x =
        IsGood list a formed_list unbroken n m own (parameters_are_full list a formed_list unbroken n g d at is sort) (members_full list a formed_list unbroken) (fields list a formed_list unbroken n g d at is sort) x

    declared_good : AllOf (λ x. Good x.source) (declared_among here)
    declared_good =
        let known = k list a formed_list unbroken in
        let p = none_parts (all_tests (parameter_tests m) row_.parameters) _ (tests list a formed_list unbroken n g d at is sort) in
        let q = none_parts (all_tests (order_tests known) row_.orders) _ p.1 in
        let o = none_parts (all_tests (variable_tests known m row_.members) row_.variables) (parts_tests known m (parts row_.parts)) q.1 in
        let x = none_parts (all_tests order_names row_.orders) _ (names list a formed_list unbroken n g d at is sort) in
        let y = none_parts (all_tests (variable_names m) row_.variables) _ x.1 in
        let z = none_parts (all_tests (sink_names m) row_.sinks) (parts_names m (parts row_.parts)) y.1 in
        let readings = unit_at list a formed_list unbroken unit_reads n g d (fine list a formed_list unbroken n g d at is sort).1 at is reads in
        items_good list a formed_list unbroken n m own (parameters_are_full list a formed_list unbroken n g d at is sort) (members_full list a formed_list unbroken) (fields list a formed_list unbroken n g d at is sort) row_.members here
        (suits list a formed_list unbroken n g d at is sort).1 (items_are_fine list a formed_list unbroken n g d at is sort) o.0 (o.1, z.1, readings)

    -- the context in which its members are asked for
    asked_in : slice_get round_units n ≡ Some (with_parameters 0 false own (home list a (told []) m))
    asked_in =
        context_at list f (told a.values) (told []) (all_of sort_is.Unit list) n g d at is
        ∙ ap (λ x. Some (with_parameters 0 false (parameters_in (home list a (told []) m) (parameter_trees x)) (home list a (told []) m))) (fine list a formed_list unbroken n g d at is sort).1.is
        ∙ ap (λ xs. Some (with_parameters 0 false xs (home list a (told []) m))) (parameters_alike list a (told []) (told a.stored) m trees)

    unit_answered : AllOf IsAnswered (questions_of list n)
    unit_answered =
        let there : unit_declaration list n ≡ Some d = ap (declaration_of list) at ∙ is in
        let same : unit_items (declared_unit (unit_declaration list n)) ≡ here = ap (λ o. unit_items (declared_unit o)) there ∙ ap unit_items (fine list a formed_list unbroken n g d at is sort).1.is in
        subst (λ xs. AllOf IsAnswered (questions_from n (sources_of (firsts (declared_among xs))))) (sym same)
        (asked_all n (with_parameters 0 false own (home list a (told []) m)) (sources_of (firsts (declared_among here))) asked_in (first_sources Good (declared_among here) declared_good))

  questions_answered : (n : ℕ) → n ≤ units list → AllOf IsAnswered (questions_before list n)
  questions_answered zero le = tt
  questions_answered (suc n) le =
      let there = found_at (all_of sort_is.Unit list) n (omega (arith, le)) in
      let declared = at_all (IsDeclared list) (all_of sort_is.Unit list) n there.0 (all_declared list) there.1 in
      both_of IsAnswered (questions_before list n) (questions_of list n) (questions_answered n (omega (arith, le))) (unit_answered n there.0 declared.0 there.1 declared.1 declared.2)

  pub all_answered : AllOf IsAnswered (questions list)
  all_answered = questions_answered (units list) (let z : units list ≤ units list = omega arith in z)
