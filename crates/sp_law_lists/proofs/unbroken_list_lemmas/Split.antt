-- Where no rule is broken in a list, no test holds, in any part of what is asked of it.
use Rattle.std.specs.Prelude.{Bool, true, false, not, ◌&&◌, List, [], ◌∷◌, ◌++◌}
use Rattle.std.proofs.Common.{◌≡◌, inl, inr, refl}
use Rattle.sp_ast.specs.Trees.{Tree}
use Rattle.sp_rules.specs.declared.fault.Fault.{Fault}
use Rattle.sp_rules.specs.Least.{Among}
use Rattle.sp_solver.specs.Told.{told}
use Rattle.sp_typed_units.specs.declared.declarations.Typed.{Typed}
use Rattle.sp_names.specs.Faults.{name_faults}
use Rattle.sp_rule_lists.specs.Lists.{all_tests}
use Rattle.sp_rule_lists.specs.Told.{values_of}
use Rattle.sp_rule_lists.specs.Names.{order_names, enum_names, constant_names, unit_names, function_names, hook_names, list_names}
use Rattle.sp_rule_lists.specs.Bodies.{order_tests, alias_tests, conversion_tests, enum_tests, const_tests, function_tests, hook_tests}
use Rattle.sp_rule_lists.specs.Wholes.{unit_tests, outer_tests, list_tests}
use Rattle.sp_rule_units.specs.Units.{all_tests as all_unit_tests}
use Rattle.sp_type_hook_rows.specs.Sites.{sites}
use Rattle.sp_type_hook_rows.specs.HookRows.{hook_rows}
use Rattle.sp_type_hook_rows.specs.Tests.{containers, hook_tests as hook_row_tests}
use Rattle.sp_type_answers.specs.Settled.{Answers}
use Rattle.sp_type_answers.specs.Lists.{typed_of}
use Rattle.sp_type_answers.specs.NameRules.{name_tests}
use Rattle.sp_type_answers.specs.Rules.{Breaks, tests, typed_tests, limits_from}
use Rattle.sp_law_lists.specs.known_types.Clear.{none_hold}
use Rattle.sp_law_lists.proofs.whole_list_lemmas.None.{none_parts}
use Rattle.sp_law_lists.specs.known_constants.Given.{asked}

none_by : (b : Bool) (x : Fault) (cs : List (Bool × Fault)) → (((y : Fault) → Among cs (true, y) → ⊥) → none_hold cs ≡ true) → ((y : Fault) → Among ((b, x) ∷ cs) (true, y) → ⊥) → (not b && none_hold cs) ≡ true
none_by true x cs rest h = absurd (h x (inl refl))
none_by false x cs rest h = rest (λ y a. h y (inr a))

none_when : (cs : List (Bool × Fault)) → ((y : Fault) → Among cs (true, y) → ⊥) → none_hold cs ≡ true
none_when [] h = refl
none_when (c ∷ cs) h = none_by c.0 c.1 cs (none_when cs) h

module _ (list : List Tree) (a : Answers list) (unbroken : (x : Fault) → Breaks list x → ⊥) where
  abbrev t : Typed
  t = typed_of list a

  none_of_all : none_hold (tests list a) ≡ true
  none_of_all = none_when (tests list a) (λ x among. unbroken x (a, among))

  names : none_hold (name_tests list a) ≡ true
  names = (none_parts (name_tests list a) (typed_tests t ++ limits_from 0 list) none_of_all).0

  bodies : none_hold (list_tests t (values_of t)) ≡ true
  bodies =
      let p = none_parts (name_tests list a) (typed_tests t ++ limits_from 0 list) none_of_all in
      let q = none_parts (typed_tests t) (limits_from 0 list) p.1 in
      (none_parts (list_tests t (values_of t)) (all_unit_tests t) q.0).0

  -- the rules of units
  pub unit_rules : none_hold (all_unit_tests t) ≡ true
  unit_rules =
      let p = none_parts (name_tests list a) (typed_tests t ++ limits_from 0 list) none_of_all in
      let q = none_parts (typed_tests t) (limits_from 0 list) p.1 in
      (none_parts (list_tests t (values_of t)) (all_unit_tests t) q.0).1

  -- names of declarations, and names in expressions
  pub declared_names : none_hold (name_faults list (told a.types)) ≡ true
  declared_names = (none_parts (name_faults list (told a.types)) _ names).0

  pub record AreNamed : Type 0 where
    pub orders : none_hold (all_tests order_names t.orders) ≡ true
    pub enums : none_hold (all_tests enum_names t.enums) ≡ true
    pub constants : none_hold (all_tests constant_names t.constants) ≡ true
    pub units : none_hold (all_tests unit_names t.units) ≡ true
    pub functions : none_hold (all_tests function_names t.functions) ≡ true
    pub hooks : none_hold (all_tests hook_names t.hooks) ≡ true

  pub are_named : AreNamed
  are_named =
      let p = none_parts (name_faults list (told a.types)) _ names in
      let q = none_parts (hook_row_tests (containers list (sites list)) (hook_rows list (told a.types))) (list_names t) p.1 in
      let b = none_parts (all_tests order_names t.orders) _ q.1 in
      let c = none_parts (all_tests enum_names t.enums) _ b.1 in
      let d = none_parts (all_tests constant_names t.constants) _ c.1 in
      let e = none_parts (all_tests unit_names t.units) _ d.1 in
      let f = none_parts (all_tests function_names t.functions) (all_tests hook_names t.hooks) e.1 in
      record { orders = b.0; enums = c.0; constants = d.0; units = e.0; functions = f.0; hooks = f.1 }

  -- what is asked of all else
  pub record AreAsked : Type 0 where
    pub orders : none_hold (all_tests (order_tests (asked t)) t.orders) ≡ true
    pub aliases : none_hold (all_tests alias_tests t.aliases) ≡ true
    pub conversions : none_hold (all_tests conversion_tests t.conversions) ≡ true
    pub enums : none_hold (all_tests (enum_tests (asked t)) t.enums) ≡ true
    pub constants : none_hold (all_tests (const_tests (asked t)) t.constants) ≡ true
    pub units : none_hold (all_tests (unit_tests (asked t)) t.units) ≡ true
    pub functions : none_hold (all_tests (function_tests t (values_of t)) t.functions) ≡ true
    pub hooks : none_hold (all_tests (hook_tests t (values_of t)) t.hooks) ≡ true

  pub are_asked : AreAsked
  are_asked =
      let k = asked t in
      let p = none_parts (outer_tests k t) (all_tests (function_tests t (values_of t)) t.functions ++ all_tests (hook_tests t (values_of t)) t.hooks) bodies in
      let q = none_parts (all_tests (function_tests t (values_of t)) t.functions) (all_tests (hook_tests t (values_of t)) t.hooks) p.1 in
      let b = none_parts (all_tests (order_tests k) t.orders) _ p.0 in
      let c = none_parts (all_tests alias_tests t.aliases) _ b.1 in
      let d = none_parts (all_tests conversion_tests t.conversions) _ c.1 in
      let e = none_parts (all_tests (enum_tests k) t.enums) _ d.1 in
      let f = none_parts (all_tests (const_tests k) t.constants) (all_tests (unit_tests k) t.units) e.1 in
      record { orders = b.0; aliases = c.0; conversions = d.0; enums = e.0; constants = f.0; units = f.1; functions = q.0; hooks = q.1 }
