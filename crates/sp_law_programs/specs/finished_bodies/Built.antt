-- Expressions and statements that are built of what has a meaning.
use Rattle.std.specs.Prelude.{◌≡◌, true, List, Option, Some, None, slice_get}
use Rattle.sp_words.specs.Methods.{changes}
use Rattle.sp_value.specs.Val.{Val}
use Rattle.sp_typed.specs.declared.words.LeafOp.{LeafOp}
use Rattle.sp_typed.specs.declared.words.LeafOp.TheVariants as leaf_is
use Rattle.sp_typed.specs.declared.words.TwoOp.{TwoOp}
use Rattle.sp_typed.specs.declared.words.TwoOp.TheVariants as two_is
use Rattle.sp_typed.specs.declared.words.ManyOp.{ManyOp}
use Rattle.sp_typed.specs.declared.words.ManyOp.TheVariants as many_is
use Rattle.sp_typed.specs.declared.stmt_words.BareOp.{BareOp}
use Rattle.sp_typed.specs.declared.stmt_words.BareOp.TheVariants as bare_is
use Rattle.sp_typed.specs.declared.stmt_words.ValuedOp.{ValuedOp}
use Rattle.sp_typed.specs.declared.stmt_words.ValuedOp.TheVariants as valued_is
use Rattle.sp_typed.specs.Exprs.{Expr, Exprs, leaf, one, two, three, many, none, more}
use Rattle.sp_typed.specs.Stmts.{Stmt, Stmts, Branches, Cases, bare, valued, assign, print, block, branch, while_loop, for_loop, switch, no_stmts, more_stmts, no_branches, more_branches, no_cases, more_cases}
use Rattle.sp_typed_units.specs.declared.declarations.Function.{Function}
use Rattle.sp_meaning.specs.Globals.{Globals}
use Rattle.sp_meaning.specs.Operations.{member_named, is_item, local_named}
use Rattle.sp_law_code.specs.exprs.Parts.{OneOf}

-- there is something
abbrev pub IsThere : {A : Type 0} → Option A → Type 0
IsThere (Some x) = Unit {0}
IsThere None = ⊥

-- a constant that is there and has a value
abbrev pub HasValue : Option (Option Val) → Type 0
HasValue (Some (Some v)) = Unit {0}
HasValue o = ⊥

-- the constant index of a member of a tuple is no part that is evaluated
abbrev pub PartIsBuilt : TwoOp → Type 0 → Type 0
PartIsBuilt (two_is.Item n) B = Unit {0}
PartIsBuilt o B = B

-- A call names one of these functions. A method that changes its receiver has a place there, and else all parts are values.
abbrev pub PartsAreBuilt : List Function → ManyOp → (values : Type 0) → (receiver : Type 0) → Type 0
PartsAreBuilt functions (many_is.Call f) values receiver = IsThere (slice_get functions f) × values
PartsAreBuilt functions (many_is.Method m slot) values receiver = OneOf (changes m) receiver values
PartsAreBuilt functions o values receiver = values

-- a statement without parts that has a meaning
abbrev pub BareIsBuilt : BareOp → Type 0
BareIsBuilt (bare_is.Local l) = Unit {0}
BareIsBuilt bare_is.Return = Unit {0}
BareIsBuilt (bare_is.Break meant) = Unit {0}
BareIsBuilt (bare_is.Continue meant) = Unit {0}
BareIsBuilt o = ⊥

-- `add` and `delete` have a place, and other statements with one expression have a value
abbrev pub ValuedIsBuilt : ValuedOp → (value : Type 0) → (place : Type 0) → Type 0
ValuedIsBuilt (valued_is.Add owner) value place = place
ValuedIsBuilt (valued_is.Delete owner) value place = place
ValuedIsBuilt o value place = value

module _ (globals : Globals) (functions : List Function) where
  -- a leaf that has a meaning
  abbrev pub LeafIsBuilt : LeafOp → Type 0
  LeafIsBuilt leaf_is.True = Unit {0}
  LeafIsBuilt leaf_is.False = Unit {0}
  LeafIsBuilt (leaf_is.Number n) = Unit {0}
  LeafIsBuilt (leaf_is.TypedNumber n) = Unit {0}
  LeafIsBuilt (leaf_is.Text x) = Unit {0}
  LeafIsBuilt (leaf_is.Bytes b) = Unit {0}
  LeafIsBuilt (leaf_is.Empty w) = Unit {0}
  LeafIsBuilt (leaf_is.Itself s) = Unit {0}
  LeafIsBuilt (leaf_is.Current s) = Unit {0}
  LeafIsBuilt (leaf_is.Local l) = Unit {0}
  LeafIsBuilt (leaf_is.Parameter n s) = Unit {0}
  LeafIsBuilt (leaf_is.Constant c) = HasValue (slice_get globals.constants c)
  LeafIsBuilt (leaf_is.Label k l) = Unit {0}
  LeafIsBuilt l = ⊥

  abbrev mutual
    -- an expression whose leaves and places have a meaning; whether its operators have one is a matter of the kinds of their parts
    pub ExprIsBuilt : Expr → Type 0
    ExprIsBuilt (leaf h) = LeafIsBuilt h.op
    ExprIsBuilt (one h a) = ExprIsBuilt a
    ExprIsBuilt (two h a b) = ExprIsBuilt a × PartIsBuilt h.op (ExprIsBuilt b)
    ExprIsBuilt (three h c a b) = ExprIsBuilt c × ExprIsBuilt a × ExprIsBuilt b
    ExprIsBuilt (many h es) = PartsAreBuilt functions h.op (AllAreBuilt es) (ReceiverIsBuilt es)

    pub AllAreBuilt : Exprs → Type 0
    AllAreBuilt none = Unit {0}
    AllAreBuilt (more e es) = ExprIsBuilt e × AllAreBuilt es

    -- a receiver that is changed, and the arguments behind it
    pub ReceiverIsBuilt : Exprs → Type 0
    ReceiverIsBuilt none = ⊥
    ReceiverIsBuilt (more r es) = PlaceIsBuilt r × AllAreBuilt es

    -- a local, a member of a unit, or an item of such a place
    pub PlaceIsBuilt : Expr → Type 0
    PlaceIsBuilt (leaf h) = IsThere (local_named h.op)
    PlaceIsBuilt (one h a) = IsThere (member_named h.op) × ExprIsBuilt a
    PlaceIsBuilt (two h a b) = (is_item h.op ≡ true) × PlaceIsBuilt a × ExprIsBuilt b
    PlaceIsBuilt e = ⊥

  abbrev mutual
    -- a statement that is built of what has a meaning
    pub StmtIsBuilt : Stmt → Type 0
    StmtIsBuilt (bare h) = BareIsBuilt h.op
    StmtIsBuilt (valued h e) = ValuedIsBuilt h.op (ExprIsBuilt e) (PlaceIsBuilt e)
    StmtIsBuilt (assign h target e) = PlaceIsBuilt target × ExprIsBuilt e
    StmtIsBuilt (print at es) = AllAreBuilt es
    StmtIsBuilt (block ss) = StmtsAreBuilt ss
    StmtIsBuilt (branch bs b) = BranchesAreBuilt bs × StmtIsBuilt b
    StmtIsBuilt (while_loop e b) = ExprIsBuilt e × StmtIsBuilt b
    StmtIsBuilt (for_loop h e b) = ExprIsBuilt e × StmtIsBuilt b
    StmtIsBuilt (switch slot e cs b) = ExprIsBuilt e × CasesAreBuilt cs × StmtIsBuilt b

    pub StmtsAreBuilt : Stmts → Type 0
    StmtsAreBuilt no_stmts = Unit {0}
    StmtsAreBuilt (more_stmts b ss) = StmtIsBuilt b × StmtsAreBuilt ss

    pub BranchesAreBuilt : Branches → Type 0
    BranchesAreBuilt no_branches = Unit {0}
    BranchesAreBuilt (more_branches e b bs) = ExprIsBuilt e × StmtIsBuilt b × BranchesAreBuilt bs

    pub CasesAreBuilt : Cases → Type 0
    CasesAreBuilt no_cases = Unit {0}
    CasesAreBuilt (more_cases es b cs) = AllAreBuilt es × StmtIsBuilt b × CasesAreBuilt cs
