-- What passes the test of what fits.
use Rattle.std.specs.Prelude.{◌≡◌, ℕ, List, Option, Some, None, slice_get}
use Rattle.sp_ast.specs.Trees.{Tree}
use Rattle.sp_types.specs.Types.{Ty}
use Rattle.sp_typed_units.specs.declared.declarations.Function.{Function}
use Rattle.sp_typed_units.specs.declared.declarations.Hook.{Hook}
use Rattle.sp_typed_units.specs.declared.declarations.Unit.{Unit as TypedUnit}
use Rattle.sp_unbuilt.specs.Unbuilt.{Texts, first_unbuilt}
use Rattle.sp_type_answers.specs.Settled.{Answers}
use Rattle.sp_type_answers.specs.Lists.{typed_of}
use Rattle.sp_meaning.specs.Globals.{globals_of}
use Rattle.sp_law_programs.specs.finished_bodies.Built.{StmtIsBuilt}
use Rattle.sp_lower_stmt.specs.Literals.{StmtLiteralsFit}
use Rattle.sp_lower_unit.specs.Values.{ValuesFit}
use Rattle.sp_law_programs.specs.finished_units.Built.{UnitIsBuilt}
use Rattle.sp_law_lists.specs.unbroken_list.Given.{AreFormed, IsUnbroken}
use Rattle.sp_law_lists.specs.fit_expr.Passes.{ConstantsFit}
use Rattle.sp_law_lists.specs.fit_list.Passes.{Bodies, ListPasses}
use Rattle.sp_law_lists.specs.fit_list.Bodies.{FunctionPasses, HookPasses}
use Rattle.sp_law_lists.specs.field_places.Apart.{AreApart}
use Rattle.sp_law_lists.specs.passing_list.Built.{IsBuilt}

-- In a list in which no rule is broken and all is built, its bodies and the values of its variables are built of nodes that are built.
abbrev pub ListsAreBuilt : Type 0
ListsAreBuilt =
    (texts : Texts) (list : List Tree) (a : Answers list) → AreFormed list
    → IsUnbroken list → first_unbuilt texts list (typed_of list a) ≡ None
    → IsBuilt (typed_of list a)

-- In such a list each function passes the test of what fits, and so does each hook, where `$$` is of the type that the hook sees.
abbrev pub BodiesPassFunctions : Type 0
BodiesPassFunctions =
    (texts : Texts) (list : List Tree) (a : Answers list) → AreFormed list
    → IsUnbroken list → first_unbuilt texts list (typed_of list a) ≡ None
    → (f : ℕ) (x : Function) → slice_get (typed_of list a).functions f ≡ Some x
    → FunctionPasses (typed_of list a) x

abbrev pub BodiesPassHooks : Type 0
BodiesPassHooks =
    (texts : Texts) (list : List Tree) (a : Answers list) → AreFormed list
    → IsUnbroken list → first_unbuilt texts list (typed_of list a) ≡ None
    → (h : ℕ) (x : Hook) → slice_get (typed_of list a).hooks h ≡ Some x
    → (o : Option Ty) × HookPasses (typed_of list a) o x

-- So all bodies of functions and hooks are built of what has a meaning, and the literals in them are of their types.
abbrev pub BodiesAreBuiltBuilt : Type 0
BodiesAreBuiltBuilt =
    (texts : Texts) (list : List Tree) (a : Answers list) → AreFormed list
    → IsUnbroken list → first_unbuilt texts list (typed_of list a) ≡ None
    → Bodies (typed_of list a) (StmtIsBuilt (globals_of (typed_of list a)) (typed_of list a).functions)

abbrev pub BodiesAreBuiltLiterals : Type 0
BodiesAreBuiltLiterals =
    (texts : Texts) (list : List Tree) (a : Answers list) → AreFormed list
    → IsUnbroken list → first_unbuilt texts list (typed_of list a) ≡ None
    → Bodies (typed_of list a) StmtLiteralsFit

-- So are its units: they have no sinks and are no filters, each of their fields reads an integer, and the values of their variables pass
-- and have literals of their types.
abbrev pub UnitsAreBuiltBuilt : Type 0
UnitsAreBuiltBuilt =
    (texts : Texts) (list : List Tree) (a : Answers list) → AreFormed list
    → IsUnbroken list → first_unbuilt texts list (typed_of list a) ≡ None
    → (u : ℕ) (x : TypedUnit) → slice_get (typed_of list a).units u ≡ Some x
    → UnitIsBuilt (typed_of list a) u x

abbrev pub UnitsAreBuiltValues : Type 0
UnitsAreBuiltValues =
    (texts : Texts) (list : List Tree) (a : Answers list) → AreFormed list
    → IsUnbroken list → first_unbuilt texts list (typed_of list a) ≡ None
    → (u : ℕ) (x : TypedUnit) → slice_get (typed_of list a).units u ≡ Some x
    → ValuesFit x.variables

-- The constants of a list in which no rule is broken that have a value have one of the kind of their type.
abbrev pub EachConstantFits : Type 0
EachConstantFits =
    (list : List Tree) (a : Answers list) → AreFormed list → IsUnbroken list
    → ConstantsFit (typed_of list a)

-- Such a list passes, where the fields of each unit stand at places of their own, so that each body of a hook hangs on one field alone or
-- on fields of one name.
abbrev pub ListsPass : Type 0
ListsPass =
    (texts : Texts) (list : List Tree) (a : Answers list) → AreFormed list
    → IsUnbroken list → first_unbuilt texts list (typed_of list a) ≡ None
    → AreApart list → ListPasses (typed_of list a)
