-- Where no rule is broken, all that units read can be read.
use Rattle.std.specs.List.{list_all}
use Rattle.std.proofs.Common.{ℕ, ◌≡◌, true, List, Some, slice_get}
use Rattle.sp_ast.specs.Trees.{Tree}
use Rattle.sp_ast.specs.Slots.{is_formed}
use Rattle.sp_rules.specs.declared.fault.Fault.{Fault}
use Rattle.sp_typed_units.specs.declared.declarations.Unit.{Unit}
use Rattle.sp_typed_units.specs.declared.declarations.Typed.{Typed}
use Rattle.sp_typed_units.specs.Parts.{parts}
use Rattle.sp_names.specs.declared.rows.Declaration.{Declaration}
use Rattle.sp_names.specs.declared.sort.DeclSort.TheVariants as sort_is
use Rattle.sp_names.specs.Declarations.{all_of, sort_of, declaration_at}
use Rattle.sp_rule_lists.specs.Lists.{all_tests}
use Rattle.sp_rule_lists.specs.Bodies.{parameter_tests, order_tests, variable_tests}
use Rattle.sp_rule_lists.specs.Fields.{parts_tests}
use Rattle.sp_type_answers.specs.Settled.{Answers}
use Rattle.sp_type_answers.specs.Lists.{typed_of}
use Rattle.sp_type_answers.specs.Rules.{Breaks}
use Rattle.sp_law_lists.proofs.whole_list_lemmas.None.{none_parts}
use Rattle.sp_law_lists.specs.known_members.Given.{unit_reads}
use Rattle.sp_law_lists.proofs.known_members_lemmas.Shapes.{is_unit_sort}
use Rattle.sp_rule_units.specs.Units.{in_unit as rules_in, variables_tests, parts_tests as parts_rules}
use Rattle.sp_law_lists.proofs.known_members_lemmas.Units.{k, items, ps, fields, row_here, suits, items_are_fine, tests, rules}
use Rattle.sp_law_lists.proofs.known_members_lemmas.Parts.{items_read}
use Rattle.sp_law_lists.proofs.known_members_lemmas.Every.{every_unit}

module _ (list : List Tree) (a : Answers list) (formed_list : list_all is_formed list ≡ true) (unbroken : (x : Fault) → Breaks list x → ⊥) where
  abbrev known_list : Typed
  known_list = typed_of list a

  one_reads : (n g : ℕ) (d : Declaration) (at : slice_get (all_of sort_is.Unit list) n ≡ Some g) (is : declaration_at list g ≡ Some d) (sort : is_unit_sort (sort_of d.tree) ≡ true) → unit_reads (row_here list a formed_list unbroken n g d at is sort) ≡ true
  one_reads n g d at is sort =
      let m = d.«module» in
      let known = k list a formed_list unbroken in
      let u = row_here list a formed_list unbroken n g d at is sort in
      let here = items list a formed_list unbroken n g d at is sort in
      let p = none_parts (all_tests (parameter_tests m) u.parameters) _ (tests list a formed_list unbroken n g d at is sort) in
      let q = none_parts (all_tests (order_tests known) u.orders) _ p.1 in
      let o = none_parts (all_tests (variable_tests known m u.members) u.variables) (parts_tests known m (parts u.parts)) q.1 in
      let r = none_parts (variables_tests known_list.units (rules_in u) u.variables) (parts_rules known_list.units (rules_in u) (parts u.parts)) (rules list a formed_list unbroken n g d at is sort) in
      items_read list a formed_list unbroken n m (ps list a formed_list unbroken n g d at is sort) known_list.units (rules_in u) (fields list a formed_list unbroken n g d at is sort) here (suits list a formed_list unbroken n g d at is sort).1
      (items_are_fine list a formed_list unbroken n g d at is sort) (o.1, r.1)

  -- All units read what can be read.
  pub units_read : list_all unit_reads known_list.units ≡ true
  units_read = every_unit list a formed_list unbroken unit_reads one_reads
