-- The rules on what names mean, over a list of modules.
use Rattle.std.specs.Prelude.{ℕ, ◌≡◌, Bool, true, List, ◌++◌, Option, None}
use Rattle.sp_ast.specs.Trees.{Tree}
use Rattle.sp_types.specs.Types.{Ty}
use Rattle.sp_solver.specs.Told.{told}
use Rattle.sp_names.specs.Faults.{name_faults}
use Rattle.sp_rules.specs.declared.fault.Fault.{Fault}
use Rattle.sp_rules.specs.Least.{Among, checked}
use Rattle.sp_typed_units.specs.declared.declarations.Typed.{Typed}
use Rattle.sp_type_values.specs.declared.answer.Answer.{Answer}
use Rattle.sp_type_hook_rows.specs.declared.sites.Site.{Site}
use Rattle.sp_type_hook_rows.specs.declared.rows.HookRow.{HookRow}
use Rattle.sp_type_hook_rows.specs.Sites.{sites}
use Rattle.sp_type_hook_rows.specs.HookRows.{hook_rows}
use Rattle.sp_type_hook_rows.specs.Tests.{containers, hook_tests}
use Rattle.sp_rule_lists.specs.Names.{list_names}
use Rattle.sp_type_answers.specs.Settled.{Answers}
use Rattle.sp_type_answers.specs.Lists.{typed_list, typed_of}

-- what is typed of a list, under its answers
abbrev pub IsTyped : List Tree → Typed → Type 0
IsTyped list t = (a : Answers list) × (t ≡ typed_of list a)

-- All that is asked of names: of declarations and of paths of types, of what hooks are of, and of names in bodies and in units.
abbrev pub tests_at : List Tree → (ℕ → Option Ty) → List Site → List HookRow → Typed → List (Bool × Fault)
tests_at list f ss rs t = name_faults list f ++ (hook_tests (containers list ss) rs ++ list_names t)

abbrev pub tests_of : List Tree → (ℕ → Option Ty) → (ℕ → Option Answer) → List (Option Ty) → List (Bool × Fault)
tests_of list f known stored = tests_at list f (sites list) (hook_rows list f) (typed_list list f known stored)

abbrev pub name_tests : (list : List Tree) → Answers list → List (Bool × Fault)
name_tests list a = tests_of list (told a.types) (told a.values) a.stored

-- what is typed of a list, and the least of the rules on names that are broken, under the same answers
abbrev pub IsAnswered : List Tree → Typed → Option Fault → Type 0
IsAnswered list t least = (a : Answers list) × (t ≡ typed_of list a) × (least ≡ checked None (name_tests list a))

-- A rule on names is broken in a list.
abbrev pub BreaksName : List Tree → Fault → Type 0
BreaksName list f = (a : Answers list) × Among (name_tests list a) (true, f)
