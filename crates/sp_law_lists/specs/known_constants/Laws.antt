-- What is known of constants and labels.
use Rattle.std.specs.Prelude.{◌≡◌, ◌<◌, ℕ, Bool, List, Option, length, IsTrue}
use Rattle.std.specs.List.{list_all}
use Rattle.sp_ast.specs.Trees.{Tree}
use Rattle.sp_ast.specs.Groups.{is_of}
use Rattle.sp_ast.specs.declared.groups.Group.TheVariants.{Types}
use Rattle.sp_types.specs.Types.{Ty}
use Rattle.sp_typed.specs.declared.words.OneOp.{OneOp}
use Rattle.sp_typed.specs.Exprs.{Expr}
use Rattle.sp_typed.specs.Nodes.{holds}
use Rattle.sp_typed_units.specs.declared.declarations.Typed.{Typed}
use Rattle.sp_names.specs.declared.sort.DeclSort.TheVariants.{Constant}
use Rattle.sp_names.specs.Declarations.{sort_at, number_at}
use Rattle.sp_type_modules.specs.Arounds.{around}
use Rattle.sp_type_constants.specs.Known.{Known as Values}
use Rattle.sp_type_constants.specs.Outcomes.{is_constant}
use Rattle.sp_type_constants.specs.Values.{value_of}
use Rattle.sp_rule_bodies.specs.Known.{Known}
use Rattle.sp_rule_lists.specs.Told.{values_of}
use Rattle.sp_type_values.specs.declared.answer.Answer.{Answer}
use Rattle.sp_type_values.specs.Valued.{valued}
use Rattle.sp_type_values.specs.Answers.{constant_type}
use Rattle.sp_law_lists.specs.known_types.Full.{is_full}
use Rattle.sp_law_lists.specs.known_types.Clear.{may_stand}
use Rattle.sp_law_lists.specs.known_values.Given.{AreTold}
use Rattle.sp_law_lists.specs.whole_list.Types.{is_type}
use Rattle.sp_law_lists.specs.whole_list.Whole.{is_known_constant, is_known_enum}
use Rattle.sp_law_lists.specs.known_constants.Good.{constant_op, is_answered, is_told}
use Rattle.sp_law_lists.specs.known_constants.Fine.{IsFine}
use Rattle.sp_law_lists.specs.known_constants.Given.{facts_with, AreUnbroken}

-- No node of an expression that is constant takes a member.
abbrev pub ConstantsTakeNoMember : Type 0
ConstantsTakeNoMember =
    (k : Values) (e : Expr) → IsTrue (is_constant (value_of k e))
    → IsTrue (holds (may_stand constant_op) e)

-- Where each alternative has its parts and each name in a type names something, each type that is written is one.
abbrev pub WrittenTypesAreTypes : Type 0
WrittenTypesAreTypes =
    (list : List Tree) (f : ℕ → Option Ty) (m : ℕ) (t : Tree) → IsTrue (is_of Types t)
    → IsFine list f m t → IsTrue (is_type list f m t)

-- In a list in which no rule on them is broken each constant and each label has an answer, of a full type and with a value that
-- fits it; and each constant is of a full type.
abbrev pub ConstantsAreAnsweredAnswered : Type 0
ConstantsAreAnsweredAnswered =
    (list : List Tree) (f : ℕ → Option Ty) (known : ℕ → Option Answer) (t : Typed)
    → AreUnbroken list f known t → (i : ℕ) → i < length (valued list f)
    → IsTrue (is_answered (known i))

abbrev pub ConstantsAreAnsweredTyped : Type 0
ConstantsAreAnsweredTyped =
    (list : List Tree) (f : ℕ → Option Ty) (known : ℕ → Option Answer) (t : Typed)
    → AreUnbroken list f known t → (g : ℕ) → sort_at list g ≡ Constant
    → IsTrue (is_full (constant_type list f known (number_at list g)))

-- All is known of the constants and the enums of such a list: each node of their values and their numbers is a value of a full type.
abbrev pub ConstantsAreKnownConstants : Type 0
ConstantsAreKnownConstants =
    (list : List Tree) (f : ℕ → Option Ty) (known : ℕ → Option Answer) (t : Typed)
    → AreUnbroken list f known t → IsTrue (list_all is_known_constant t.constants)

abbrev pub ConstantsAreKnownEnums : Type 0
ConstantsAreKnownEnums =
    (list : List Tree) (f : ℕ → Option Ty) (known : ℕ → Option Answer) (t : Typed)
    → AreUnbroken list f known t → IsTrue (list_all is_known_enum t.enums)

-- In such a list all that is named in any tree is told, and so are the names round the expressions of each module, with the values
-- that the typed list tells.
abbrev pub NamesAreToldTrees : Type 0
NamesAreToldTrees =
    (list : List Tree) (f : ℕ → Option Ty) (known : ℕ → Option Answer) (t : Typed)
    → AreUnbroken list f known t → (m : ℕ) (u : Tree) → IsTrue (is_told list f known m u)

abbrev pub NamesAreToldNames : Type 0
NamesAreToldNames =
    (list : List Tree) (f : ℕ → Option Ty) (known : ℕ → Option Answer) (t : Typed)
    → AreUnbroken list f known t
    → (only : OneOp → Bool) (k : Known) (rules m : ℕ) (stored : ℕ → ℕ → Ty) (number : Expr → Option ℕ)
    → AreTold (around list (facts_with list f known stored number) m) only k rules (values_of t)
    (is_told list f known m)
