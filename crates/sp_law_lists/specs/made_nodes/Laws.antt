-- What is true of each node that typing makes.
use Rattle.std.specs.Prelude.{Bool, IsTrue}
use Rattle.sp_ast.specs.Trees.{Tree}
use Rattle.sp_typed.specs.Exprs.{Expr}
use Rattle.sp_typed.specs.Nodes.{holds}
use Rattle.sp_type_context.specs.Contexts.{Around}
use Rattle.sp_type_context.specs.Typing.{typed}
use Rattle.sp_law_lists.specs.made_nodes.Makes.{Makes}

-- A test that holds of what is named, and of each node that is made round parts, holds at each node of what is typed, whatever literals
-- take the types of their places and whatever is widened.
abbrev pub NodesHold : Type 0
NodesHold =
    (g : Around) (p : Expr → Bool) (t : Tree) → Makes g p → IsTrue (holds p (typed g t))
