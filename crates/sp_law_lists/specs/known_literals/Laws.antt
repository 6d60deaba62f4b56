-- What is known of numbers.
use Rattle.std.specs.Prelude.{◌≡◌, ℕ, IsTrue, IsFalse}
use Rattle.sp_ast.specs.Trees.{Tree}
use Rattle.sp_typed.specs.Exprs.{Expr}
use Rattle.sp_typed.specs.Nodes.{holds}
use Rattle.sp_type_operands.specs.Literals.{is_past}
use Rattle.sp_type_context.specs.Contexts.{Around}
use Rattle.sp_type_context.specs.Typing.{typed}
use Rattle.sp_rule_bodies.specs.Known.{Known}
use Rattle.sp_lower_expr.specs.Literals.{LiteralsFit}
use Rattle.sp_law_lists.specs.known_literals.Widened.{AreWidened, IsWidened, is_sound}

-- Where no rule is broken at the nodes of an expression, what is widened is in its range, and the whole is no literal past its type,
-- each number in it is one of its type.
abbrev pub LiteralsAreInRange : Type 0
LiteralsAreInRange =
    (k : Known) (m : ℕ) (e : Expr) → IsTrue (holds (is_sound k m) e) → IsFalse (is_past e)
    → LiteralsFit e

-- Where what is named is in its range where it is widened, so is what is typed.
abbrev pub TypingWidensValues : Type 0
TypingWidensValues =
    (g : Around) (t : Tree) → AreWidened g → IsWidened (typed g t)
