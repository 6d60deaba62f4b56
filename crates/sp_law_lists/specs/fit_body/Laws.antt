-- What passes the test fits in every program of its list.
use Rattle.std.specs.Prelude.{Bool, IsTrue}
use Rattle.sp_typed.specs.Stmts.{Stmt}
use Rattle.sp_law_lists.specs.fit_expr.Around.{globals_in, locals_in}
use Rattle.sp_law_lists.specs.fit_body.Bodies.{Body, round_in}
use Rattle.sp_law_lists.specs.fit_body.Test.{stmt_passes}
use Rattle.sp_law_lists.specs.fit_body.Passes.{StmtPasses}

-- A statement of a body that passes the test, in a loop or in none, fits in every program of its list, it is built of what has a
-- meaning, its literals are of their types, calls in it have as many arguments as parameters, and what it changes is a place.
abbrev pub PassingStatementsFit : Type 0
PassingStatementsFit =
    (body : Body) (in_loop : Bool) (s : Stmt) → IsTrue (stmt_passes body in_loop s)
    → StmtPasses body.around.list body.around.places (locals_in body.around) body.around.unit
    (round_in (globals_in body.around).ranges body.returns) in_loop s
