-- What is known where no rule is broken.
use Rattle.std.specs.Prelude.{◌≡◌, ◌<◌, ℕ, List, Option, length, IsTrue}
use Rattle.std.specs.List.{list_all}
use Rattle.sp_ast.specs.Trees.{Tree}
use Rattle.sp_solver.specs.Told.{told}
use Rattle.sp_names.specs.declared.sort.DeclSort.TheVariants.{Function}
use Rattle.sp_names.specs.Declarations.{sort_at, number_at}
use Rattle.sp_type_modules.specs.Heads.{function_gives}
use Rattle.sp_rule_lists.specs.Told.{known_in, values_of}
use Rattle.sp_type_list_context.specs.Contexts.{in_module}
use Rattle.sp_type_answers.specs.Settled.{Answers}
use Rattle.sp_type_answers.specs.Lists.{typed_of}
use Rattle.sp_law_lists.specs.known_types.Full.{is_full}
use Rattle.sp_law_lists.specs.known_types.Clear.{any_op}
use Rattle.sp_law_lists.specs.known_types.Given.{IsKnown}
use Rattle.sp_law_lists.specs.known_values.Given.{AreTold}
use Rattle.sp_law_lists.specs.whole_list.Known.{HasType}
use Rattle.sp_law_lists.specs.whole_list.Types.{is_type}
use Rattle.sp_law_lists.specs.whole_list.Whole.{is_known_constant, is_known_enum, is_known_function, is_known_order}
use Rattle.sp_law_lists.specs.known_constants.Good.{is_told}
use Rattle.sp_law_lists.specs.known_constants.Given.{AreUnbroken}
use Rattle.sp_law_lists.specs.unbroken_list.Given.{AreFormed, IsUnbroken, HaveMembers}

-- In a list in which no rule is broken each declaration of a type has a full one, each function gives a value of a full type or
-- nothing, and no rule on constants and labels is broken in the typed list: so all that is said of constants and labels holds of it.
abbrev pub ConstantsAreToldTypes : Type 0
ConstantsAreToldTypes =
    (list : List Tree) (a : Answers list) → AreFormed list → IsUnbroken list
    → (g : ℕ) → HasType list (told a.types) g

abbrev pub ConstantsAreToldResults : Type 0
ConstantsAreToldResults =
    (list : List Tree) (a : Answers list) → AreFormed list → IsUnbroken list
    → (g : ℕ) → sort_at list g ≡ Function
    → IsTrue (is_full (function_gives list (told a.types) (number_at list g)))

abbrev pub ConstantsAreToldConstants : Type 0
ConstantsAreToldConstants =
    (list : List Tree) (a : Answers list) → AreFormed list → IsUnbroken list
    → AreUnbroken list (told a.types) (told a.values) (typed_of list a)

-- All is known of the constants, the enums and the byte orders of modules of such a list: each node of their values is a value of a
-- full type.
abbrev pub ConstantsAreKnownConstants : Type 0
ConstantsAreKnownConstants =
    (list : List Tree) (a : Answers list) → AreFormed list → IsUnbroken list
    → IsTrue (list_all is_known_constant (typed_of list a).constants)

abbrev pub ConstantsAreKnownEnums : Type 0
ConstantsAreKnownEnums =
    (list : List Tree) (a : Answers list) → AreFormed list → IsUnbroken list
    → IsTrue (list_all is_known_enum (typed_of list a).enums)

abbrev pub ConstantsAreKnownOrders : Type 0
ConstantsAreKnownOrders =
    (list : List Tree) (a : Answers list) → AreFormed list → IsUnbroken list
    → IsTrue (list_all is_known_order (typed_of list a).orders)

-- Where members have full types too, all is known that the expressions of a module can name, and all of that is told that has a
-- value.
abbrev pub ModulesAreKnownKnown : Type 0
ModulesAreKnownKnown =
    (list : List Tree) (a : Answers list) → AreFormed list → IsUnbroken list
    → HaveMembers list (told a.stored) → (slots : List ℕ) (m : ℕ)
    → IsKnown (in_module list (told a.types) (told a.values) (told a.stored) m) any_op
    (known_in (typed_of list a) (values_of (typed_of list a)) slots) m
    (is_type list (told a.types) m) (is_told list (told a.types) (told a.values) m)

abbrev pub ModulesAreKnownNamed : Type 0
ModulesAreKnownNamed =
    (list : List Tree) (a : Answers list) → AreFormed list → IsUnbroken list
    → (slots : List ℕ) (m : ℕ)
    → AreTold (in_module list (told a.types) (told a.values) (told a.stored) m) any_op
    (known_in (typed_of list a) (values_of (typed_of list a)) slots) m
    (values_of (typed_of list a)) (is_told list (told a.types) (told a.values) m)

-- Where members have full types, all is known of all functions: their parameters, their
-- results, and each node of their bodies.
abbrev pub FunctionsAreKnown : Type 0
FunctionsAreKnown =
    (list : List Tree) (a : Answers list) → AreFormed list → IsUnbroken list
    → HaveMembers list (told a.stored)
    → IsTrue (list_all is_known_function (typed_of list a).functions)
