-- What is known of hooks, and of whole lists, where no rule is broken.
use Rattle.std.specs.Prelude.{List, IsTrue}
use Rattle.std.specs.List.{list_all}
use Rattle.sp_ast.specs.Trees.{Tree}
use Rattle.sp_type_answers.specs.Settled.{Answers}
use Rattle.sp_type_answers.specs.Lists.{typed_of}
use Rattle.sp_law_lists.specs.whole_list.Whole.{is_known_hook, AllKnown}
use Rattle.sp_law_lists.specs.unbroken_list.Given.{AreFormed, IsUnbroken}

-- In a list in which no rule is broken all is known of hooks: their parameters have full types, and each node of their
-- priorities and of their bodies is a value of a full type. `self` and `$$` are, since a hook is of a unit, and of a field that
-- stands in it, or of the elements of one that has some.
abbrev pub HooksAreKnown : Type 0
HooksAreKnown =
    (list : List Tree) (a : Answers list) → AreFormed list → IsUnbroken list
    → IsTrue (list_all is_known_hook (typed_of list a).hooks)

-- So all is known of such a list.
abbrev pub ListsAreKnown : Type 0
ListsAreKnown =
    (list : List Tree) (a : Answers list) → AreFormed list → IsUnbroken list
    → AllKnown (typed_of list a)
