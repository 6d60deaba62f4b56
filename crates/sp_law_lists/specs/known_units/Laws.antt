-- What is known of units where no rule is broken.
use Rattle.std.specs.Prelude.{List, IsTrue}
use Rattle.std.specs.List.{list_all}
use Rattle.sp_ast.specs.Trees.{Tree}
use Rattle.sp_type_answers.specs.Settled.{Answers}
use Rattle.sp_type_answers.specs.Lists.{typed_of}
use Rattle.sp_law_lists.specs.whole_list.Whole.{is_known_unit}
use Rattle.sp_law_lists.specs.unbroken_list.Given.{AreFormed, IsUnbroken}

-- In a list in which no rule is broken, all is known of units: their parameters and their members have full types, and each node of
-- what they read, of their variables and of their byte orders is a value of a full type.
abbrev pub UnitsAreKnown : Type 0
UnitsAreKnown =
    (list : List Tree) (a : Answers list) → AreFormed list → IsUnbroken list
    → IsTrue (list_all is_known_unit (typed_of list a).units)
