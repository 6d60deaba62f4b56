-- The answers of a list of modules: the types of its type declarations, the types and values of its constants and labels, and
-- the types of the members of its units.
use Rattle.std.specs.Prelude.{ℕ, ◌≡◌, [], List, length, Option}
use Rattle.sp_ast.specs.Trees.{Tree}
use Rattle.sp_types.specs.Types.{Ty}
use Rattle.sp_solver.specs.Rounds.{IsSettled}
use Rattle.sp_solver.specs.Told.{told}
use Rattle.sp_names.specs.Aliases.{IsResolved}
use Rattle.sp_dependencies.specs.Tries.{tries}
use Rattle.sp_type_values.specs.declared.answer.Answer.{Answer}
use Rattle.sp_type_values.specs.Valued.{valued, needs}
use Rattle.sp_type_values.specs.Answers.{gives, values}
use Rattle.sp_type_members.specs.Tries.{AreStored}
use Rattle.sp_type_context.specs.Contexts.{Around}
use Rattle.sp_type_fields.specs.Values.{Values}
use Rattle.sp_type_list_context.specs.Contexts.{seeing_parameters}

-- Constants and labels, for the types of type declarations: each that has an answer has it by what is named in it; one that is
-- made of itself, or of one that is, has none.
pub record AreValued (list : List Tree) (f : ℕ → Option Ty) (answers : List (Option Answer)) : Type 0 where
  pub settled : IsSettled (tries (length (valued list f)) (needs list f) (gives list f)) (told answers)
  pub all : length answers ≡ length (valued list f)

-- what stands round the expressions of units while the types of their members are asked for
abbrev pub first_contexts : List Tree → List (Option Ty) → List (Option Answer) → List Around
first_contexts list types answers = seeing_parameters list (told types) (told answers) (told [])

abbrev pub worth : List Tree → List (Option Ty) → List (Option Answer) → Values
worth list types answers = values list (told types) (told answers)

-- All three, each on the ones before it.
pub record Answers (list : List Tree) : Type 0 where
  pub types : List (Option Ty)
  pub values : List (Option Answer)
  pub stored : List (Option Ty)
  pub resolved : IsResolved list types
  pub valued : AreValued list (told types) values
  pub kept : AreStored list (first_contexts list types values) (worth list types values) stored
