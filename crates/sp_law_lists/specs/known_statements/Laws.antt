-- What is known of the statements of a body.
use Rattle.std.specs.Prelude.{ℕ, Bool, false, List, Option, IsTrue}
use Rattle.std.specs.List.{list_all}
use Rattle.sp_ast.specs.Trees.{Tree}
use Rattle.sp_types.specs.Types.{Ty}
use Rattle.sp_typed.specs.declared.words.OneOp.{OneOp}
use Rattle.sp_typed.specs.Nodes.{holds}
use Rattle.sp_typed.specs.Stmts.{Stmt}
use Rattle.sp_typed.specs.StmtNodes.{stmts_in, nodes_hold}
use Rattle.sp_type_context.specs.Contexts.{Around as Names}
use Rattle.sp_type_stmts.specs.declared.body.Body.{Body as TypedBody}
use Rattle.sp_type_stmts.specs.Statements.{typed_body}
use Rattle.sp_rule_bodies.specs.Known.{Known}
use Rattle.sp_law_lists.specs.known_types.Full.{is_right}
use Rattle.sp_law_lists.specs.known_types.Clear.{is_clear, any_op}
use Rattle.sp_law_lists.specs.known_types.Given.{IsKnown}
use Rattle.sp_law_lists.specs.known_types.Stmts.{is_good, exprs_hold, is_quiet}
use Rattle.sp_law_lists.specs.known_bodies.Slots.{IsBlind}
use Rattle.sp_law_lists.specs.known_bodies.Decided.{DecidesUnder}
use Rattle.sp_law_lists.specs.known_bodies.Trees.{is_body}
use Rattle.sp_law_lists.specs.known_literals.Widened.{AreWidened}
use Rattle.sp_law_lists.specs.fit_body.Bodies.{Body}
use Rattle.sp_law_lists.specs.fit_body.Test.{stmt_passes}
use Rattle.sp_law_lists.specs.known_kinds.Made.{AreMade, IsAsked}
use Rattle.sp_law_lists.specs.known_kinds.Kept.{OffsetKept, SlotsKept}
use Rattle.sp_law_lists.specs.known_statements.Built.{stmt_built}
use Rattle.sp_law_lists.specs.known_statements.Declared.{locals_full_in}
use Rattle.sp_law_lists.specs.known_statements.Ready.{returns_so, IsReady}

-- A typed body is as typing makes it, where what stands round it is kept so by the body, whose locals are those of its slots from a
-- number on, and all in it is built.
abbrev pub TypingMakesStatements : Type 0
TypingMakesStatements =
    (body : Body) (g : Names) (b : TypedBody) (slots : List Ty) (t : Tree)
    → AreMade body.around g → AreWidened g → SlotsKept body.around (typed_body b g slots t).1
    → IsTrue (stmt_built (typed_body b g slots t).0)
    → IsReady body b.result false (typed_body b g slots t).0

-- A statement passes the test of what fits, where it is as typing makes it, of what is built and with its slots, no rule is broken at
-- its nodes and at the statements in it, each of its expressions is a value of a full type, but that `add` and `delete` may take the key
-- of a set, and each local that it declares has a full type. What is asked of the arguments of a call is what the list says of them, and
-- the body returns a value of the type that is wanted, or nothing.
abbrev pub StatementsPass : Type 0
StatementsPass =
    (body : Body) (wanted : Option Ty) (k : Known) (m : ℕ) (in_loop : Bool) (s : Stmt)
    → IsAsked body.around k → OffsetKept body.around → IsTrue (returns_so body.returns wanted)
    → IsTrue (locals_full_in s) → IsReady body wanted in_loop s
    → IsTrue (nodes_hold (is_clear any_op k m) s) → IsTrue (list_all (is_quiet k wanted m) (stmts_in s))
    → IsTrue (exprs_hold (holds is_right) is_good s)
    → IsTrue (stmt_passes body in_loop s)

-- Where all that can be named round a body is known, also whether indexes are constant behind locals of full types, and no rule is
-- broken at its nodes and statements, each local that it declares has a full type.
abbrev pub LocalsAreFull : Type 0
LocalsAreFull =
    (g : Names) (only : OneOp → Bool) (k : Known) (m : ℕ) (is_type is_path : Tree → Bool)
    (b : TypedBody) (wanted : Option Ty) (slots : List Ty) (t : Tree)
    → IsKnown g only k m is_type is_path → IsBlind k → DecidesUnder g only k m is_type is_path
    → IsTrue (is_body is_type is_path t)
    → IsTrue (nodes_hold (is_clear only k m) (typed_body b g slots t).0)
    → IsTrue (list_all (is_quiet k wanted m) (stmts_in (typed_body b g slots t).0))
    → IsTrue (locals_full_in (typed_body b g slots t).0)
