-- What is known of the members of units where no rule is broken.
use Rattle.std.specs.Prelude.{◌≡◌, ℕ, List, None, IsTrue}
use Rattle.std.specs.List.{list_all}
use Rattle.sp_ast.specs.Trees.{Tree}
use Rattle.sp_solver.specs.Told.{told}
use Rattle.sp_typed_units.specs.declared.declarations.Typed.{Typed}
use Rattle.sp_rule_lists.specs.Told.{known_in, values_of}
use Rattle.sp_type_list_context.specs.Contexts.{in_module}
use Rattle.sp_type_answers.specs.Settled.{Answers}
use Rattle.sp_type_answers.specs.Lists.{typed_of}
use Rattle.sp_unbuilt.specs.Unbuilt.{Texts, first_unbuilt}
use Rattle.sp_law_lists.specs.known_types.Clear.{any_op}
use Rattle.sp_law_lists.specs.known_types.Given.{IsKnown}
use Rattle.sp_law_lists.specs.whole_list.Types.{is_type}
use Rattle.sp_law_lists.specs.whole_list.Whole.{is_known_function}
use Rattle.sp_law_lists.specs.known_constants.Good.{is_told}
use Rattle.sp_law_lists.specs.unbroken_list.Given.{AreFormed, IsUnbroken, HaveMembers}
use Rattle.sp_law_lists.specs.known_members.Given.{HaveReadings}

-- In a list in which no rule is broken, all that units read can be read. And what is built reads integers alone.
abbrev pub ReadingsAreKnownUnbroken : Type 0
ReadingsAreKnownUnbroken =
    (list : List Tree) (a : Answers list) → AreFormed list → IsUnbroken list
    → HaveReadings (typed_of list a)

abbrev pub ReadingsAreKnownBuilt : Type 0
ReadingsAreKnownBuilt =
    (texts : Texts) (list : List Tree) (t : Typed) → first_unbuilt texts list t ≡ None
    → HaveReadings t

-- So all members of units have full types, and all ranges of bitfields: each field reads something that can be read, and what is
-- stored in it hangs on other members by its conversions alone, and these hang on no member that is made of itself.
abbrev pub MembersAreKnown : Type 0
MembersAreKnown =
    (list : List Tree) (a : Answers list) → AreFormed list → IsUnbroken list
    → HaveMembers list (told a.stored)

-- So all is known that the expressions of a module can name.
abbrev pub ModulesAreKnown : Type 0
ModulesAreKnown =
    (list : List Tree) (a : Answers list) → AreFormed list → IsUnbroken list
    → (slots : List ℕ) (m : ℕ)
    → IsKnown (in_module list (told a.types) (told a.values) (told a.stored) m) any_op
    (known_in (typed_of list a) (values_of (typed_of list a)) slots) m
    (is_type list (told a.types) m) (is_told list (told a.types) (told a.values) m)

-- And all is known of all functions.
abbrev pub FunctionsAreKnown : Type 0
FunctionsAreKnown =
    (list : List Tree) (a : Answers list) → AreFormed list → IsUnbroken list
    → IsTrue (list_all is_known_function (typed_of list a).functions)
