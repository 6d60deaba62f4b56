-- All rules over a list of modules.
use Rattle.std.specs.Prelude.{ℕ, ◌≡◌, ◌+◌, Bool, true, List, [], ◌∷◌, ◌++◌, Option, None}
use Rattle.sp_ast.specs.Trees.{Tree}
use Rattle.sp_rules.specs.declared.fault.Fault.{Fault}
use Rattle.sp_rules.specs.Least.{Among, checked}
use Rattle.sp_rule_lists.specs.Told.{values_of}
use Rattle.sp_rule_lists.specs.Wholes.{list_tests}
use Rattle.sp_rule_units.specs.Units.{all_tests}
use Rattle.sp_rule_units.specs.Limits.{module_limits}
use Rattle.sp_typed_units.specs.declared.declarations.Typed.{Typed}
use Rattle.sp_type_answers.specs.Settled.{Answers}
use Rattle.sp_type_answers.specs.Lists.{typed_of}
use Rattle.sp_type_answers.specs.NameRules.{name_tests}

-- how many declarations, items and parameters there may be, in modules of which the first has the number m
abbrev pub limits_from : ℕ → List Tree → List (Bool × Fault)
limits_from m [] = []
limits_from m (t ∷ ts) = module_limits m t ++ limits_from (m + 1) ts

-- what is asked of a typed list: of its bodies, and of its units
abbrev pub typed_tests : Typed → List (Bool × Fault)
typed_tests t = list_tests t (values_of t) ++ all_tests t

-- All that is asked of a list.
abbrev pub tests : (list : List Tree) → Answers list → List (Bool × Fault)
tests list a = name_tests list a ++ (typed_tests (typed_of list a) ++ limits_from 0 list)

-- A rule is broken in a list.
abbrev pub Breaks : List Tree → Fault → Type 0
Breaks list f = (a : Answers list) × Among (tests list a) (true, f)

-- what is typed of a list, and the least of all rules that are broken in it, under the same answers
abbrev pub IsAsked : List Tree → Typed → Option Fault → Type 0
IsAsked list t least = (a : Answers list) × (t ≡ typed_of list a) × (least ≡ checked None (tests list a))
