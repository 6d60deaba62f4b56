-- All is known of the units of a list in which no rule is broken, and in which each reading can be read.
use Rattle.std.specs.List.{list_all}
use Rattle.std.proofs.Common.{ℕ, ◌≡◌, ◌+◌, ◌<◌, arith, true, ap, ◌∙◌, List, length, Some, slice_get}
use Rattle.std.proofs.lemmas.Bool.{and_from}
use Rattle.sp_ast.specs.Trees.{Tree, Trees}
use Rattle.sp_ast.specs.Slots.{is_formed}
use Rattle.sp_ast.specs.Groups.{is_of, are_of}
use Rattle.sp_ast.specs.declared.groups.Group.TheVariants as group_is
use Rattle.sp_rules.specs.declared.fault.Fault.{Fault}
use Rattle.sp_typed_units.specs.declared.declarations.Parameter.{Parameter}
use Rattle.sp_typed_units.specs.declared.declarations.Unit.{Unit}
use Rattle.sp_typed_units.specs.Parts.{parts}
use Rattle.sp_type_fields.specs.Attributes.{element_of}
use Rattle.sp_type_fields.specs.Readings.{counted_read}
use Rattle.sp_type_fields.specs.Parts.{Fields}
use Rattle.sp_solver.specs.Told.{told}
use Rattle.sp_names.specs.declared.rows.Declaration.{Declaration}
use Rattle.sp_names.specs.declared.sort.DeclSort.TheVariants as sort_is
use Rattle.sp_names.specs.Declarations.{all_of, sort_of, declaration_at}
use Rattle.sp_names.specs.Names.{declaration_of}
use Rattle.sp_type_modules.specs.Members.{members_of, first_member, declared_unit, unit_declaration, unit_members}
use Rattle.sp_type_modules.specs.Arounds.{stored_by}
use Rattle.sp_rule_bodies.specs.Known.{Known}
use Rattle.sp_rule_lists.specs.Lists.{all_tests}
use Rattle.sp_rule_lists.specs.Names.{order_names, variable_names, sink_names, parts_names}
use Rattle.sp_rule_lists.specs.Bodies.{parameter_tests, order_tests, variable_tests}
use Rattle.sp_rule_lists.specs.Fields.{parts_tests}
use Rattle.sp_type_hook_rows.specs.HookRows.{is_some_tree}
use Rattle.sp_rule_units.specs.Units.{in_unit as rules_in, variables_tests, parts_tests as parts_rules}
use Rattle.sp_type_answers.specs.Settled.{Answers}
use Rattle.sp_type_answers.specs.Lists.{typed_of}
use Rattle.sp_type_answers.specs.Rules.{Breaks}
use Rattle.sp_law_lists.specs.whole_list.Whole.{is_known_parameter, is_known_member, is_known_variable, are_known_parts, is_known_order, is_known_unit}
use Rattle.sp_law_lists.proofs.whole_list_lemmas.None.{none_parts}
use Rattle.sp_law_lists.specs.known_types.Full.{is_full}
use Rattle.sp_law_lists.specs.known_types.Clear.{none_hold}
use Rattle.sp_law_lists.specs.known_constants.Fine.{IsFine, AreFine}
use Rattle.sp_law_lists.specs.known_members.Given.{parts_read, unit_reads}
use Rattle.sp_law_lists.proofs.known_members_lemmas.Shapes.{unit_tree, is_unit_sort}
use Rattle.sp_law_lists.proofs.known_members_lemmas.Fields.{AllFull, IsGood, v, last}
use Rattle.sp_law_lists.proofs.known_members_lemmas.Units.{k, unit_at, members_full, fine, items, ps, fields, row_here, suits, items_are_fine, tests, names, rules, parameters_are_full}
use Rattle.sp_law_lists.proofs.known_members_lemmas.Rounds.{NoneIsPassed, rounds_full, stored_full, members_known}
use Rattle.sp_law_lists.proofs.known_members_lemmas.Every.{every_unit}
use Rattle.sp_law_lists.proofs.known_units_lemmas.Members.{rows_full, found_below, is_asked}
use Rattle.sp_law_lists.proofs.known_units_lemmas.Fields.{elements_typed}
use Rattle.sp_law_lists.proofs.known_units_lemmas.Parts.{PartsSound, variables_known, orders_known, items_known}

module _ (list : List Tree) (a : Answers list) (formed_list : list_all is_formed list ≡ true) (unbroken : (x : Fault) → Breaks list x → ⊥) (reads : list_all unit_reads (typed_of list a).units ≡ true) (passed : NoneIsPassed) where
  abbrev us : List Unit
  us = (typed_of list a).units

  abbrev known : Known
  known = k list a formed_list unbroken

  answers : AllFull (told a.stored)
  answers i u e = (let k = a.kept.settled.found i u e in rounds_full list a formed_list unbroken reads passed k.0 i u k.1)

  module _ (n g : ℕ) (d : Declaration) (at : slice_get (all_of sort_is.Unit list) n ≡ Some g) (is : declaration_at list g ≡ Some d) (sort : is_unit_sort (sort_of d.tree) ≡ true) where
    abbrev m : ℕ
    m = d.«module»

    abbrev here : Trees
    here = items list a formed_list unbroken n g d at is sort

    abbrev own : List Parameter
    own = ps list a formed_list unbroken n g d at is sort

    abbrev row_ : Unit
    row_ = row_here list a formed_list unbroken n g d at is sort

    abbrev facts : Fields
    facts = fields list a formed_list unbroken n g d at is sort

    full : list_all is_known_parameter own ≡ true
    full = parameters_are_full list a formed_list unbroken n g d at is sort

    abbrev tree_ : Tree
    tree_ = unit_tree (fine list a formed_list unbroken n g d at is sort).1.span (fine list a formed_list unbroken n g d at is sort).1.parameters here

    members_are_full : list_all is_known_member row_.members ≡ true
    members_are_full =
        let there : unit_declaration list n ≡ Some d = ap (declaration_of list) at ∙ is in
        let same : length (unit_members list n) ≡ length (members_of tree_) =
        ap (λ o. length (members_of (declared_unit o))) there ∙ ap (λ x. length (members_of x)) (fine list a formed_list unbroken n g d at is sort).1.is in
        let lt = found_below (all_of sort_is.Unit list) n g at in
        rows_full (stored_by list (told a.stored) n) 0 (members_of tree_) (λ j below. (
        let s : 0 + j < length (unit_members list n) = omega (arith, below, same) in
        stored_full list a formed_list unbroken reads passed (first_member list n + (0 + j)) (is_asked list n (0 + j) lt s)
        ))

    -- no rule is broken in what it reads
    sound : PartsSound list a formed_list unbroken n m own full (members_full list a formed_list unbroken) (members_known list a formed_list unbroken reads passed) answers (stored_full list a formed_list unbroken reads passed) us (rules_in row_) facts (parts row_.parts)
    sound =
        let p = none_parts (all_tests (parameter_tests m) row_.parameters) _ (tests list a formed_list unbroken n g d at is sort) in
        let q = none_parts (all_tests (order_tests known) row_.orders) _ p.1 in
        let o = none_parts (all_tests (variable_tests known m row_.members) row_.variables) (parts_tests known m (parts row_.parts)) q.1 in
        let x = none_parts (all_tests order_names row_.orders) _ (names list a formed_list unbroken n g d at is sort) in
        let y = none_parts (all_tests (variable_names m) row_.variables) _ x.1 in
        let z = none_parts (all_tests (sink_names m) row_.sinks) (parts_names m (parts row_.parts)) y.1 in
        let r = none_parts (variables_tests us (rules_in row_) row_.variables) (parts_rules us (rules_in row_) (parts row_.parts)) (rules list a formed_list unbroken n g d at is sort) in
        (o.1, z.1, unit_at list a formed_list unbroken unit_reads n g d (fine list a formed_list unbroken n g d at is sort).1 at is reads, r.1)

    pub reads_sound : (none_hold (parts_tests known m (parts row_.parts)) ≡ true) × (none_hold (parts_names m (parts row_.parts)) ≡ true) × (parts_read (parts row_.parts) ≡ true)
    reads_sound = (sound.0, sound.1, sound.2)

    -- an element of what a field with brackets reads has a full type
    pub elements_full : (x : Tree) (counts : Trees) → is_of group_is.Bases x ≡ true → IsFine list (told a.types) m x → are_of group_is.Counts counts ≡ true → AreFine list (told a.types) m counts
        → IsGood list a formed_list unbroken n m own (counted_read (last list a formed_list unbroken n m own) (v list a formed_list unbroken n m own) x counts).spec → is_some_tree counts ≡ true
        → is_full (element_of (counted_read (last list a formed_list unbroken n m own) (v list a formed_list unbroken n m own) x counts).ty) ≡ true
    elements_full x counts of h of_counts fine_counts good some =
        elements_typed list a formed_list unbroken n m own full (members_full list a formed_list unbroken) (members_known list a formed_list unbroken reads passed) answers (stored_full list a formed_list unbroken reads passed) us (rules_in row_) x counts of h of_counts fine_counts good some

    pub one_known : is_known_unit row_ ≡ true
    one_known =
        let p = none_parts (all_tests (parameter_tests m) row_.parameters) _ (tests list a formed_list unbroken n g d at is sort) in
        let q = none_parts (all_tests (order_tests known) row_.orders) _ p.1 in
        let o = none_parts (all_tests (variable_tests known m row_.members) row_.variables) (parts_tests known m (parts row_.parts)) q.1 in
        let x = none_parts (all_tests order_names row_.orders) _ (names list a formed_list unbroken n g d at is sort) in
        let y = none_parts (all_tests (variable_names m) row_.variables) _ x.1 in
        let any_members = members_full list a formed_list unbroken in
        let members = members_known list a formed_list unbroken reads passed in
        let stored = stored_full list a formed_list unbroken reads passed in
        let suits_ = (suits list a formed_list unbroken n g d at is sort).1 in
        let fine_ = items_are_fine list a formed_list unbroken n g d at is sort in
        and_from (list_all is_known_parameter row_.parameters) _ full
        (and_from (list_all is_known_member row_.members) _ members_are_full
        (and_from (list_all is_known_variable row_.variables) _ (variables_known list a formed_list unbroken n m own full any_members members answers stored us (rules_in row_) facts row_.members here suits_ fine_ o.0 y.0)
        (and_from (are_known_parts (parts row_.parts)) (list_all is_known_order row_.orders)
        (items_known list a formed_list unbroken n m own full any_members members answers stored us (rules_in row_) facts here suits_ fine_ sound)
        (orders_known list a formed_list unbroken n m own full any_members members answers stored us (rules_in row_) facts here x.0 q.0))))

  -- All is known of all units.
  pub units_known : list_all is_known_unit us ≡ true
  units_known = every_unit list a formed_list unbroken is_known_unit one_known
