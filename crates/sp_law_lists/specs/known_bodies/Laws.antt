-- What is known of a body in which no rule is broken.
use Rattle.std.specs.Prelude.{◌≡◌, ℕ, List, Bool, Option, IsTrue}
use Rattle.std.specs.List.{list_all}
use Rattle.sp_ast.specs.Trees.{Tree}
use Rattle.sp_ast.specs.Slots.{is_formed}
use Rattle.sp_types.specs.Types.{Ty}
use Rattle.sp_typed.specs.declared.words.OneOp.{OneOp}
use Rattle.sp_typed.specs.Exprs.{Expr}
use Rattle.sp_typed.specs.Nodes.{holds}
use Rattle.sp_typed.specs.StmtNodes.{stmts_in, nodes_hold}
use Rattle.sp_type_context.specs.Contexts.{Around}
use Rattle.sp_type_stmts.specs.declared.body.Body.{Body}
use Rattle.sp_type_stmts.specs.Scopes.{Scope}
use Rattle.sp_type_stmts.specs.Owners.{kept}
use Rattle.sp_type_stmts.specs.Statements.{typed_body}
use Rattle.sp_rule_bodies.specs.Known.{Known}
use Rattle.sp_law_lists.specs.known_types.Full.{is_right}
use Rattle.sp_law_lists.specs.known_types.Clear.{is_clear}
use Rattle.sp_law_lists.specs.known_types.Trees.{written_hold}
use Rattle.sp_law_lists.specs.known_types.Given.{IsKnown}
use Rattle.sp_law_lists.specs.known_types.Stmts.{is_good, exprs_hold, is_quiet}
use Rattle.sp_law_lists.specs.known_bodies.Slots.{plain, IsBlind}
use Rattle.sp_law_lists.specs.known_bodies.Decided.{DecidesUnder}
use Rattle.sp_law_lists.specs.known_bodies.Trees.{is_body}

-- An expression whose owners are kept in slots is plainly what it was.
abbrev pub KeptIsPlain : Type 0
KeptIsPlain =
    (sc : Scope) (e : Expr) → plain (kept sc e).0 ≡ plain e

-- Where all that can be named round a body is known, also whether indexes are constant behind locals of full types, and no rule is broken at its nodes and statements, each node of each
-- expression in it is a value of a full type, but that `add` and `delete` may take the key of a set.
abbrev pub BodiesAreKnown : Type 0
BodiesAreKnown =
    (g : Around) (only : OneOp → Bool) (k : Known) (m : ℕ) (is_type is_path : Tree → Bool)
    (b : Body) (wanted : Option Ty) (slots : List Ty) (t : Tree)
    → IsKnown g only k m is_type is_path → IsBlind k → DecidesUnder g only k m is_type is_path → IsTrue (is_body is_type is_path t)
    → IsTrue (nodes_hold (is_clear only k m) (typed_body b g slots t).0)
    → IsTrue (list_all (is_quiet k wanted m) (stmts_in (typed_body b g slots t).0))
    → IsTrue (exprs_hold (holds is_right) is_good (typed_body b g slots t).0)

-- A tree in which each alternative has its parts is one of a body, where tests hold of each type and of each path that is
-- written in it.
abbrev pub FormedIsBody : Type 0
FormedIsBody =
    (is_type is_path : Tree → Bool) (t : Tree) → IsTrue (is_formed t)
    → IsTrue (written_hold is_type is_path t) → IsTrue (is_body is_type is_path t)
