-- The rules of bodies over a whole typed list.
use Rattle.std.specs.Prelude.{Bool, List, [], ◌++◌}
use Rattle.sp_rules.specs.declared.fault.Fault.{Fault}
use Rattle.sp_typed_units.specs.declared.declarations.Unit.{Unit}
use Rattle.sp_typed_units.specs.declared.declarations.Typed.{Typed}
use Rattle.sp_typed_units.specs.Parts.{parts}
use Rattle.sp_type_constants.specs.Known.{Known as Values}
use Rattle.sp_rule_bodies.specs.Known.{Known}
use Rattle.sp_rule_lists.specs.Lists.{all_tests}
use Rattle.sp_rule_lists.specs.Told.{known_in}
use Rattle.sp_rule_lists.specs.Bodies.{parameter_tests, order_tests, variable_tests, alias_tests, conversion_tests, enum_tests, const_tests, function_tests, hook_tests}
use Rattle.sp_rule_lists.specs.Fields.{parts_tests}

-- A unit: its parameters, its byte orders, its variables, and what it reads.
abbrev pub unit_tests : Known → Unit → List (Bool × Fault)
unit_tests k u =
    all_tests (parameter_tests u.«module») u.parameters ++ (all_tests (order_tests k) u.orders ++ (all_tests (variable_tests k u.«module» u.members) u.variables ++ parts_tests k u.«module» (parts u.parts)))

-- What is asked outside of bodies, where no slot is that of a variable of `for`.
abbrev pub outer_tests : Known → Typed → List (Bool × Fault)
outer_tests k t =
    all_tests (order_tests k) t.orders ++ (all_tests alias_tests t.aliases ++ (all_tests conversion_tests t.conversions ++ (all_tests (enum_tests k) t.enums ++ (all_tests (const_tests k) t.constants ++ all_tests (unit_tests k) t.units))))

-- All that is asked of the bodies of a typed list.
abbrev pub list_tests : Typed → Values → List (Bool × Fault)
list_tests t values =
    outer_tests (known_in t values []) t ++ (all_tests (function_tests t values) t.functions ++ all_tests (hook_tests t values) t.hooks)
