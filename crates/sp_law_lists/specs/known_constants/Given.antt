-- A typed list with the constants and the enums of a list of modules, in which no rule on them is broken.
use Rattle.std.specs.Prelude.{ℕ, ◌≡◌, List, [], length, Option, IsTrue}
use Rattle.std.specs.List.{list_all}
use Rattle.sp_ast.specs.Trees.{Tree}
use Rattle.sp_ast.specs.Slots.{is_formed}
use Rattle.sp_types.specs.Types.{Ty}
use Rattle.sp_typed.specs.Exprs.{Expr}
use Rattle.sp_typed_units.specs.declared.declarations.Typed.{Typed}
use Rattle.sp_solver.specs.Rounds.{IsSettled}
use Rattle.sp_dependencies.specs.Tries.{tries}
use Rattle.sp_names.specs.declared.sort.DeclSort.TheVariants as sort_is
use Rattle.sp_names.specs.Declarations.{sort_at, number_at}
use Rattle.sp_names.specs.Faults.{name_faults}
use Rattle.sp_type_modules.specs.Heads.{function_gives}
use Rattle.sp_type_modules.specs.Arounds.{Facts}
use Rattle.sp_rule_bodies.specs.Known.{Known}
use Rattle.sp_rule_lists.specs.Lists.{all_tests}
use Rattle.sp_rule_lists.specs.Told.{known_in, values_of}
use Rattle.sp_rule_lists.specs.Names.{constant_names, enum_names}
use Rattle.sp_rule_lists.specs.Bodies.{const_tests, enum_tests}
use Rattle.sp_type_values.specs.declared.answer.Answer.{Answer}
use Rattle.sp_type_values.specs.Valued.{valued, needs}
use Rattle.sp_type_values.specs.Answers.{gives, constant_type}
use Rattle.sp_type_values.specs.TypedRows.{typed_constants, typed_enums}
use Rattle.sp_law_lists.specs.known_types.Full.{is_full}
use Rattle.sp_law_lists.specs.known_types.Clear.{none_hold}
use Rattle.sp_law_lists.specs.whole_list.Known.{HasType}

-- what the rules outside of bodies ask of a typed list
abbrev pub asked : Typed → Known
asked t = known_in t (values_of t) []

-- what a list tells where constants have their answers, and so much is known of members
abbrev pub facts_with : List Tree → (ℕ → Option Ty) → (ℕ → Option Answer) → (ℕ → ℕ → Ty) → (Expr → Option ℕ) → Facts
facts_with list f known stored number = record { answers = f; constant = constant_type list f known; stored = stored; number = number }

-- Types and values are settled, the constants and the enums of the typed list are those of the modules, declarations have full
-- types, and no rule on the names of declarations, on constants and on labels is broken.
pub record AreUnbroken (list : List Tree) (f : ℕ → Option Ty) (known : ℕ → Option Answer) (t : Typed) : Type 0 where
  pub formed : IsTrue (list_all is_formed list)
  pub settled : IsSettled (tries (length (valued list f)) (needs list f) (gives list f)) known
  pub constants_are : t.constants ≡ typed_constants list f known
  pub enums_are : t.enums ≡ typed_enums list f known
  pub types : (g : ℕ) → HasType list f g
  pub results : (g : ℕ) → sort_at list g ≡ sort_is.Function → IsTrue (is_full (function_gives list f (number_at list g)))
  pub names : IsTrue (none_hold (name_faults list f))
  pub constant_paths : IsTrue (none_hold (all_tests constant_names t.constants))
  pub enum_paths : IsTrue (none_hold (all_tests enum_names t.enums))
  pub constants : IsTrue (none_hold (all_tests (const_tests (asked t)) t.constants))
  pub enums : IsTrue (none_hold (all_tests (enum_tests (asked t)) t.enums))
