-- What is known of declarations, and of what stands round the expressions of a module.
use Rattle.std.specs.Prelude.{◌≡◌, ℕ, Bool, false, List, Option, Some, IsTrue, is_none}
use Rattle.sp_ast.specs.Trees.{Tree}
use Rattle.sp_types.specs.Types.{Ty}
use Rattle.sp_solver.specs.Rounds.{IsSettled}
use Rattle.sp_typed.specs.declared.words.OneOp.{OneOp}
use Rattle.sp_typed_units.specs.declared.declarations.Typed.{Typed}
use Rattle.sp_names.specs.declared.rows.Declaration.{Declaration}
use Rattle.sp_names.specs.Declarations.{declaration_at, sort_of}
use Rattle.sp_names.specs.Aliases.{tries}
use Rattle.sp_type_context.specs.Contexts.{Around}
use Rattle.sp_type_functions.specs.Functions.{function_of}
use Rattle.sp_type_context.specs.declared.places.Place.{Place}
use Rattle.sp_type_modules.specs.Written.{type_at, misplaced_in}
use Rattle.sp_type_modules.specs.Arounds.{Facts, around}
use Rattle.sp_type_constants.specs.Known.{Known as Values}
use Rattle.sp_rule_bodies.specs.Known.{Known}
use Rattle.sp_type_declarations.specs.Aliases.{is_alias}
use Rattle.sp_rule_lists.specs.Names.{stmt_names}
use Rattle.sp_rule_lists.specs.Told.{known_in}
use Rattle.sp_rule_lists.specs.Bodies.{function_tests}
use Rattle.sp_law_lists.specs.known_types.Full.{is_full}
use Rattle.sp_law_lists.specs.known_types.Clear.{none_hold, any_op}
use Rattle.sp_law_lists.specs.known_types.Given.{IsKnown}
use Rattle.sp_law_lists.specs.known_values.Given.{AreTold}
use Rattle.sp_law_lists.specs.known_bodies.Decided.{Decides}
use Rattle.sp_law_lists.specs.whole_list.Types.{is_type}
use Rattle.sp_law_lists.specs.whole_list.Trees.{is_function}
use Rattle.sp_law_lists.specs.whole_list.Known.{Stands, HasType, AreKnown}
use Rattle.sp_law_lists.specs.whole_list.Whole.{is_known_function}

-- Where each alias has an answer and is written as a type may be, each declaration of a type has a full type.
abbrev pub TypesAreFull : Type 0
TypesAreFull =
    (list : List Tree) (f : ℕ → Option Ty) → IsSettled (tries list) f
    → ((g : ℕ) (d : Declaration) → declaration_at list g ≡ Some d → IsTrue (is_alias (sort_of d.tree)) → Stands list f g d)
    → (g : ℕ) → HasType list f g

-- Where each declaration of a type has a full one, what is declared with a type that is written in a module has a full type, unless
-- that can't stand there.
abbrev pub WrittenTypesAreFull : Type 0
WrittenTypesAreFull =
    (list : List Tree) (f : ℕ → Option Ty) (m : ℕ) (place : Place) (t : Tree)
    → ((g : ℕ) → HasType list f g) → IsTrue (is_type list f m t)
    → IsTrue (is_none (misplaced_in list f m place t)) → IsTrue (is_full (type_at list f m place t))

-- Where declarations have full types, all is known that the expressions of a module can name.
abbrev pub ModulesAreKnown : Type 0
ModulesAreKnown =
    (list : List Tree) (facts : Facts) (only : OneOp → Bool) (k : Known) (m n : ℕ)
    (is_path : Tree → Bool)
    → AreKnown list facts only → Decides (around list facts m) only k n (is_type list facts.answers m) is_path
    → IsKnown (around list facts m) only k n (is_type list facts.answers m) is_path

-- Where it is known what names mean as constants, and that fits their types, it is known of each unsigned expression in which no rule
-- is broken whether it is constant.
abbrev pub IndexesAreDecided : Type 0
IndexesAreDecided =
    (t : Typed) (values : Values) (slots : List ℕ) (g : Around) (only : OneOp → Bool) (m : ℕ)
    (is_type is_path : Tree → Bool)
    → AreTold g only (known_in t values slots) m values is_path
    → Decides g only (known_in t values slots) m is_type is_path

-- A function in which no test holds, in a context in which all that can be named is known, and fits its type where it is a
-- constant: all is known of the function, its parameters, its result, and each node of its body.
abbrev pub FunctionsAreKnown : Type 0
FunctionsAreKnown =
    (t : Typed) (values : Values) (g : Around) (owner : List ℕ) (m : ℕ)
    (is_type is_path : Tree → Bool) (d : Tree)
    → ((slots : List ℕ) → IsKnown g any_op (known_in t values slots) m is_type is_path)
    → ((slots : List ℕ) → AreTold g any_op (known_in t values slots) m values is_path)
    → IsTrue (is_function is_type is_path d)
    → IsTrue (none_hold (stmt_names m (function_of g owner m d).body))
    → IsTrue (none_hold (function_tests t values (function_of g owner m d)))
    → IsTrue (is_known_function (function_of g owner m d))
