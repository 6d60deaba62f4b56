-- What is known of the kinds of parts.
use Rattle.std.specs.Prelude.{◌≡◌, ℕ, Bool, List, Option, Some, slice_get, IsTrue, IsFalse}
use Rattle.sp_ast.specs.Trees.{Tree}
use Rattle.sp_types.specs.Types.{Ty}
use Rattle.sp_typed.specs.declared.words.LeafOp.TheVariants.{Itself, Current}
use Rattle.sp_typed.specs.declared.words.Standing.{Standing}
use Rattle.sp_typed.specs.Exprs.{Expr, type_of}
use Rattle.sp_typed.specs.Nodes.{holds}
use Rattle.sp_typed_units.specs.declared.declarations.Parameter.{Parameter}
use Rattle.sp_type_operands.specs.Literals.{is_past}
use Rattle.sp_type_context.specs.declared.context.Member.{Member}
use Rattle.sp_type_context.specs.Contexts.{Around as Names}
use Rattle.sp_type_context.specs.Typing.{typed}
use Rattle.sp_type_scopes.specs.Decorators.{with_current, with_self}
use Rattle.sp_type_stmts.specs.Scopes.{Local, Scope}
use Rattle.sp_type_stmts.specs.Owners.{kept}
use Rattle.sp_type_stmts.specs.Visible.{with_locals}
use Rattle.sp_type_scopes.specs.Parameters.{with_parameters}
use Rattle.sp_type_modules.specs.Heads.{function_gives, function_takes as takes_of}
use Rattle.sp_type_modules.specs.Arounds.{Facts, member_of, around as module_names}
use Rattle.sp_rule_bodies.specs.Known.{Known}
use Rattle.sp_rule_bodies.specs.Values.{is_regex}
use Rattle.sp_rule_bodies.specs.ExprTests.{may_change}
use Rattle.sp_rule_lists.specs.Told.{function_takes}
use Rattle.sp_law_lists.specs.known_types.Full.{is_right}
use Rattle.sp_law_lists.specs.known_types.Clear.{is_clear, any_op}
use Rattle.sp_law_lists.specs.known_literals.Widened.{IsWidened}
use Rattle.sp_law_lists.specs.fit_expr.Around.{Around}
use Rattle.sp_law_lists.specs.fit_expr.Test.{expr_passes, place_passes}
use Rattle.sp_law_lists.specs.known_kinds.Made.{given_by, leaf_made, member_made, IsMade, AreMade, IsAsked, owner_kept, keeps_owner, is_built}
use Rattle.sp_law_lists.specs.known_kinds.Kept.{LocalsKept, ParametersKept, ConstantsKept, OffsetKept, SlotsKept}

-- Where each name has the type under which a body keeps it, each node that typing makes has the type that its form gives.
abbrev pub TypingMakesKinds : Type 0
TypingMakesKinds =
    (around : Around) (g : Names) (t : Tree) → AreMade around g → IsMade around (typed g t)

-- Names have the types under which a body keeps them: in a module whose constants are kept, whose functions are those of the list and
-- whose members are members, behind locals and parameters that are kept, and where `self` and `$$` are of a type of which the body keeps
-- them.
abbrev pub NamesAreMadeModule : Type 0
NamesAreMadeModule =
    (around : Around) (list : List Tree) (facts : Facts) (m : ℕ)
    → ConstantsKept around list facts.constant
    → ((f : ℕ) → function_gives list facts.answers f ≡ given_by (slice_get around.list.functions f))
    → ((f n : ℕ) → slice_get (takes_of list facts.answers f) n ≡ function_takes (slice_get around.list.functions f) n)
    → ((t : Ty) (name : List ℕ) (found : Member) → member_of list facts.stored t name ≡ Some found → IsTrue (member_made around found.op t found.ty))
    → AreMade around (module_names list facts m)

abbrev pub NamesAreMadeLocals : Type 0
NamesAreMadeLocals =
    (around : Around) (g : Names) (ls : List Local) → AreMade around g → LocalsKept around ls
    → AreMade around (with_locals ls g)

abbrev pub NamesAreMadeParameters : Type 0
NamesAreMadeParameters =
    (around : Around) (g : Names) (first : ℕ) (hides : Bool) (ps : List Parameter)
    → AreMade around g → ParametersKept around first ps
    → AreMade around (with_parameters first hides ps g)

abbrev pub NamesAreMadeItself : Type 0
NamesAreMadeItself =
    (around : Around) (g : Names) (t : Ty) (s : Standing) → AreMade around g
    → IsTrue (leaf_made around (Itself s) t) → AreMade around (with_self t s g)

abbrev pub NamesAreMadeCurrent : Type 0
NamesAreMadeCurrent =
    (around : Around) (g : Names) (t : Ty) (s : Standing) → AreMade around g
    → IsTrue (leaf_made around (Current s) t) → AreMade around (with_current t s g)

-- What is kept in slots is made as it was, and widens what it did; and where the body keeps its slots, each owner of a changed member is
-- kept in a slot of its type.
abbrev pub OwnersAreKeptMade : Type 0
OwnersAreKeptMade =
    (around : Around) (sc : Scope) (e : Expr) → IsMade around e → IsMade around (kept sc e).0

abbrev pub OwnersAreKeptWidened : Type 0
OwnersAreKeptWidened =
    (sc : Scope) (e : Expr) → IsWidened e → IsWidened (kept sc e).0

abbrev pub OwnersAreKeptOwners : Type 0
OwnersAreKeptOwners =
    (around : Around) (sc : Scope) (e : Expr) → SlotsKept around (kept sc e).1.slots
    → IsTrue (holds (keeps_owner around) (kept sc e).0)

-- An expression passes the test of what fits, where each node has the type that its form gives, all in it is built, no rule is broken
-- at its nodes, each is a value of a full type, what is widened is in its range, owners are kept in locals of their types, and the whole
-- is no regular expression and no literal past its type. What is asked of the arguments of a call is what the list says of them.
abbrev pub ExpressionsPass : Type 0
ExpressionsPass =
    (around : Around) (k : Known) (m : ℕ) (e : Expr) → IsAsked around k → OffsetKept around
    → IsTrue (holds is_built e) → IsMade around e → IsTrue (holds (is_clear any_op k m) e) → IsTrue (holds is_right e)
    → IsWidened e → IsTrue (holds (keeps_owner around) e) → IsFalse (is_past e) → IsFalse (is_regex (type_of e))
    → IsTrue (expr_passes around e)

-- So does such a place that may be changed, where the owner of its member is kept in a local of its type.
abbrev pub PlacesPass : Type 0
PlacesPass =
    (around : Around) (k : Known) (m : ℕ) (owner : Option ℕ) (e : Expr) → IsAsked around k → OffsetKept around
    → IsTrue (holds is_built e) → IsMade around e → IsTrue (holds (is_clear any_op k m) e) → IsTrue (holds is_right e)
    → IsWidened e → IsTrue (holds (keeps_owner around) e) → IsTrue (may_change k e) → IsTrue (owner_kept around owner e)
    → IsTrue (place_passes around owner e)
