-- What is broken in a typed list.
use Rattle.std.specs.Prelude.{true}
use Rattle.sp_rules.specs.declared.fault.Fault.{Fault}
use Rattle.sp_rules.specs.Least.{Among}
use Rattle.sp_typed_units.specs.declared.declarations.Typed.{Typed}
use Rattle.sp_type_constants.specs.Known.{Known}
use Rattle.sp_rule_lists.specs.Names.{list_names}
use Rattle.sp_rule_lists.specs.Wholes.{list_tests}

-- A rule on names is broken: one of the tests of a list holds, with this fault.
abbrev pub BreaksName : Typed → Fault → Type 0
BreaksName t f = Among (list_names t) (true, f)

-- A rule of bodies is broken.
abbrev pub BreaksIn : Typed → Known → Fault → Type 0
BreaksIn t values f = Among (list_tests t values) (true, f)
