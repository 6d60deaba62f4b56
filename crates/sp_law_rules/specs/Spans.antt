-- Where the nodes of typed expressions begin in the text.
use Rattle.std.specs.Prelude.{ℕ, ◌≡◌, Bool, true, ◌&&◌, ◌||◌, ◌==◌, List, Option, Some, None, IsTrue}
use Rattle.std.specs.List.{list_all}
use Rattle.sp_base.specs.declared.places.Span.{Span}
use Rattle.sp_lex.specs.declared.tokens.Token.{Token}
use Rattle.sp_ast.specs.Trees.{Tree}
use Rattle.sp_rules.specs.declared.fault.Fault.{Fault}
use Rattle.sp_types.specs.Types.{Ty}
use Rattle.sp_typed.specs.declared.words.LeafOp.{LeafOp}
use Rattle.sp_typed.specs.declared.words.LeafOp.TheVariants as leaf_is
use Rattle.sp_typed.specs.declared.words.OneOp.{OneOp}
use Rattle.sp_typed.specs.declared.words.OneOp.TheVariants as one_is
use Rattle.sp_typed.specs.declared.words.ManyOp.{ManyOp}
use Rattle.sp_typed.specs.declared.words.ManyOp.TheVariants as many_is
use Rattle.sp_typed.specs.declared.words.Written.{Written}
use Rattle.sp_typed.specs.declared.words.Standing.{Standing}
use Rattle.sp_typed.specs.Exprs.{Expr, leaf, one, two, three, many, exprs, span_of}
use Rattle.sp_typed.specs.Nodes.{nodes, holds, all_hold}
use Rattle.sp_typed_units.specs.declared.declarations.Parameter.{Parameter}
use Rattle.sp_type_context.specs.declared.places.Place.{Place}
use Rattle.sp_type_context.specs.declared.context.Member.{Member}
use Rattle.sp_type_context.specs.declared.context.Callable.{Callable}
use Rattle.sp_type_context.specs.Contexts.{Around}
use Rattle.sp_type_context.specs.Typing.{typed}
use Rattle.sp_type_scopes.specs.Decorators.{with_current, with_self}
use Rattle.sp_type_scopes.specs.Parameters.{with_parameters}
use Rattle.sp_type_stmts.specs.Scopes.{Local}
use Rattle.sp_type_stmts.specs.Visible.{with_locals}
use Rattle.sp_type_modules.specs.Arounds.{Facts, around}
use Rattle.sp_rule_bodies.specs.Known.{Known}
use Rattle.sp_rule_bodies.specs.ExprTests.{expr_tests}
use Rattle.sp_rule_lists.specs.Names.{expr_names}
use Rattle.sp_law_rules.specs.Places.{begins_token, begins_at}

-- whether a slice of the text begins at a token, or is the empty one at its front, where what stands for no tree is
abbrev pub is_placed : List Token → Span → Bool
is_placed tokens span = (span.from == 0 && span.to == 0) || begins_token tokens span.from

abbrev pub option_placed : List Token → Option Span → Bool
option_placed tokens None = true
option_placed tokens (Some span) = is_placed tokens span

-- a type that is written, and what in it can't stand where it does
abbrev pub written_placed : List Token → Written → Bool
written_placed tokens w = is_placed tokens w.span && option_placed tokens w.misplaced

-- The slices that a node tells beside its own: a name that names nothing, what is misplaced in a type that is written, a type behind `cast`, a member that there
-- isn't, the path behind `new`, and the name of a method of units.
abbrev pub leaf_placed : List Token → LeafOp → Bool
leaf_placed tokens (leaf_is.Nothing name) = is_placed tokens name
leaf_placed tokens (leaf_is.Empty w) = option_placed tokens w.misplaced
leaf_placed tokens _ = true

abbrev pub one_placed : List Token → OneOp → Bool
one_placed tokens (one_is.Cast w) = written_placed tokens w
one_placed tokens (one_is.NoMember name) = is_placed tokens name
one_placed tokens _ = true

abbrev pub many_placed : List Token → ManyOp → Bool
many_placed tokens (many_is.New of path) = is_placed tokens path
many_placed tokens (many_is.OfUnit method name) = is_placed tokens name
many_placed tokens _ = true

abbrev pub op_placed : List Token → Expr → Bool
op_placed tokens (leaf h) = leaf_placed tokens h.op
op_placed tokens (one h a) = one_placed tokens h.op
op_placed tokens (two h a b) = true
op_placed tokens (three h a b c) = true
op_placed tokens (many h es) = many_placed tokens h.op

abbrev pub node_placed : List Token → Expr → Bool
node_placed tokens e = op_placed tokens e && is_placed tokens (span_of e)

-- What stands round an expression places what it names where that is written: paths, `self` and `$$`, types, members, methods, and what
-- stands for arguments that were left out.
pub record NamesPlaced (tokens : List Token) (g : Around) : Type 0 where
  pub path : (span : Span) (t : Tree) → IsTrue (is_placed tokens span) → IsTrue (begins_at tokens t) → IsTrue (holds (node_placed tokens) (g.path span t))
  pub named : (span : Span) (t : Tree) → IsTrue (is_placed tokens span) → IsTrue (begins_at tokens t) → IsTrue (holds (node_placed tokens) (g.named span t))
  pub itself : (span : Span) → IsTrue (is_placed tokens span) → IsTrue (holds (node_placed tokens) (g.itself span))
  pub current : (span : Span) → IsTrue (is_placed tokens span) → IsTrue (holds (node_placed tokens) (g.current span))
  pub written : (place : Place) (t : Tree) → IsTrue (begins_at tokens t) → IsTrue (written_placed tokens (g.written place t))
  pub member : (t : Ty) (name : List ℕ) (found : Member) → g.member t name ≡ Some found → IsTrue (one_placed tokens found.op)
  pub method : (t : Ty) (name : List ℕ) (span : Span) (ts : List Ty) (found : Callable) → g.method t name span ts ≡ Some found → IsTrue (is_placed tokens span) → IsTrue (many_placed tokens found.op)
  pub left_out : (op : ManyOp) (span : Span) (n : ℕ) → IsTrue (is_placed tokens span) → IsTrue (all_hold (node_placed tokens) (exprs (g.left_out op span n)))

-- Where each node of a tree begins at a token, so does each node of the expression that it is typed as, but for what stands for no
-- tree.
abbrev pub ExpressionsBeginAtTokens : Type 0
ExpressionsBeginAtTokens =
    (tokens : List Token) (g : Around) (t : Tree) → NamesPlaced tokens g → IsTrue (begins_at tokens t)
    → IsTrue (holds (node_placed tokens) (typed g t))

-- What stands round the expressions of a module is such.
abbrev pub ModulesPlaceNames : Type 0
ModulesPlaceNames = (tokens : List Token) (list : List Tree) (facts : Facts) (m : ℕ) → NamesPlaced tokens (around list facts m)

-- So is what stands in it with `$$`, `self`, parameters or locals.
abbrev pub InnerPlaceNames : Type 0
InnerPlaceNames =
    (tokens : List Token) (g : Around) → NamesPlaced tokens g
    → ((t : Ty) (standing : Standing) → NamesPlaced tokens (with_current t standing g))
    × ((t : Ty) (standing : Standing) → NamesPlaced tokens (with_self t standing g))
    × ((first : ℕ) (hides : Bool) (ps : List Parameter) → NamesPlaced tokens (with_parameters first hides ps g))
    × ((ls : List Local) → NamesPlaced tokens (with_locals ls g))

-- The place of each of some tests begins at a token.
abbrev pub tests_placed : List Token → List (Bool × Fault) → Bool
tests_placed tokens cs = list_all (λ c. is_placed tokens c.1.span) cs

-- So does the place of each test at each node of an expression whose nodes begin at tokens.
abbrev pub TestsBeginAtTokens : Type 0
TestsBeginAtTokens =
    (tokens : List Token) (k : Known) (m : ℕ) (e : Expr) → IsTrue (holds (node_placed tokens) e)
    → IsTrue (list_all (λ n. tests_placed tokens (expr_tests k m n)) (nodes e))

-- So is it told of each name in it that names nothing.
abbrev pub NamesBeginAtTokens : Type 0
NamesBeginAtTokens =
    (tokens : List Token) (m : ℕ) (e : Expr) → IsTrue (holds (node_placed tokens) e) → IsTrue (tests_placed tokens (expr_names m e))
