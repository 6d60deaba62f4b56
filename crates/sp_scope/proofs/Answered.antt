-- Answers of a list are what its typed list is under.
use Rattle.std.proofs.Common.{◌≡◌, List, Option, None, sym, subst, ◌∙◌, ap}
use Rattle.sp_ast.specs.Trees.{Tree}
use Rattle.sp_types.specs.Types.{Ty}
use Rattle.sp_solver.specs.Told.{told}
use Rattle.sp_names.specs.Aliases.{IsResolved}
use Rattle.sp_rules.specs.declared.fault.Fault.{Fault}
use Rattle.sp_rules.specs.Least.{checked}
use Rattle.sp_typed_units.specs.declared.declarations.Typed.{Typed}
use Rattle.sp_type_values.specs.declared.answer.Answer.{Answer}
use Rattle.sp_type_members.specs.Tries.{AreStored}
use Rattle.sp_type_answers.specs.Settled.{AreValued, Answers, first_contexts, worth}
use Rattle.sp_type_answers.specs.Lists.{typed_list}
use Rattle.sp_type_answers.specs.NameRules.{tests_of, IsAnswered}

module _ (list : List Tree) (types : List (Option Ty)) (values : List (Option Answer)) (stored : List (Option Ty)) where
  pub answered : IsResolved list types → AreValued list (told types) values → AreStored list (first_contexts list types values) (worth list types values) stored → (t : Typed) (least : Option Fault) → t ≡ typed_list list (told types) (told values) stored → least ≡ checked None (tests_of list (told types) (told values) stored) → IsAnswered list t least
  answered resolved valued kept t least is tested =
      (record { types = types; values = values; stored = stored; resolved = resolved; valued = valued; kept = kept }, is, tested)
