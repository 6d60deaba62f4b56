-- What the code of a statement asks of the kinds of its parts.
use Rattle.std.specs.Prelude.{◌≡◌, ℕ, ◌+◌, Bool, true, List, [], ◌∷◌, Option, Some}
use Rattle.sp_words.specs.declared.operators.BinaryOp.TheVariants as op_is
use Rattle.sp_words.specs.declared.operators.AssignOp.{AssignOp}
use Rattle.sp_words.specs.declared.operators.AssignOp.TheVariants as assign_is
use Rattle.sp_methods.specs.Kinds.{Kind, Void, Bools, Text, SetOf}
use Rattle.sp_typed.specs.declared.stmt_words.BareOp.{BareOp}
use Rattle.sp_typed.specs.declared.stmt_words.BareOp.TheVariants as bare_is
use Rattle.sp_typed.specs.declared.stmt_words.ValuedOp.{ValuedOp}
use Rattle.sp_typed.specs.declared.stmt_words.ValuedOp.TheVariants as valued_is
use Rattle.sp_typed.specs.Exprs.{Expr, Exprs, two, none, more}
use Rattle.sp_typed.specs.Stmts.{Stmt, Stmts, Branches, Cases, bare, valued, assign, print, block, branch, while_loop, for_loop, switch, no_stmts, more_stmts, no_branches, more_branches, no_cases, more_cases}
use Rattle.sp_meaning_states.specs.Types.{zero_value, kind_of_type}
use Rattle.sp_meaning.specs.Globals.{Globals}
use Rattle.sp_code_meaning.specs.Layouts.{Layout}
use Rattle.sp_code_meaning.specs.Exprs.{slot_local}
use Rattle.sp_code.specs.Kinds.{kind_of_two, IsGoneOver}
use Rattle.sp_code.specs.Machine.{Plain}
use Rattle.sp_code.specs.Shapes.{Round, Shapes, IsResult, IsKeyOf}
use Rattle.sp_code_programs.specs.exprs.Code.{kind_of, kind_at}
use Rattle.sp_law_code.specs.exprs.Parts.{IsAlways, IsLocal, Fits, AllFit, PlaceFits}

-- a set that gets a key
abbrev pub IsSetFor : Kind → Kind → Type 0
IsSetFor c j = c ≡ SetOf j

-- a target of a kind to which a value of a kind is assigned
abbrev pub IsAssigned : AssignOp → Kind → Kind → Type 0
IsAssigned assign_is.Set k j = j ≡ k
IsAssigned assign_is.Add k j = kind_of_two op_is.Add k j ≡ Some k
IsAssigned assign_is.Subtract k j = kind_of_two op_is.Subtract k j ≡ Some k

-- The locals of the body are of these kinds, the unit at hand is this one, where it is known, and the body returns as this one.
module _ (p : Plain) (shapes : Shapes) (globals : Globals) (layout : Layout) (locals : List Kind) (unit : Option ℕ) (round : Round) where
  -- a local of a kind
  abbrev pub HasLocal : ℕ → Kind → Type 0
  HasLocal l k = IsLocal p shapes globals layout locals unit l k

  -- an expression of a kind
  abbrev pub FitsAs : Expr → Kind → Type 0
  FitsAs e k = Fits p shapes globals layout locals unit e × (kind_of globals layout e ≡ k)

  -- a statement without parts; a break and a continue stand in a loop
  abbrev pub BareFits : (in_loop : Bool) → BareOp → Type 0
  BareFits in_loop (bare_is.Local l) =
      HasLocal (layout.first + l.slot) (kind_of_type globals.ranges l.ty) × IsAlways p shapes globals layout locals unit (kind_of_type globals.ranges l.ty) (zero_value globals.ranges l.ty)
  BareFits in_loop bare_is.Return = IsResult round Void
  BareFits in_loop (bare_is.Break meant) = in_loop ≡ true
  BareFits in_loop (bare_is.Continue meant) = in_loop ≡ true
  BareFits in_loop op = Unit {0}

  -- a key of a container that stands in a place
  abbrev pub KeyFits : (Kind → Kind → Type 0) → Option ℕ → Expr → Type 0
  KeyFits IsKey owner (two h a b) = PlaceFits p shapes globals layout locals unit owner a × Fits p shapes globals layout locals unit b × IsKey (kind_of globals layout a) (kind_of globals layout b)
  KeyFits IsKey owner target = ⊥

  abbrev pub ValuedFits : ValuedOp → Expr → Type 0
  ValuedFits (valued_is.Local l) e = Fits p shapes globals layout locals unit e × HasLocal (layout.first + l.slot) (kind_of globals layout e)
  ValuedFits valued_is.Return e = Fits p shapes globals layout locals unit e × IsResult round (kind_of globals layout e)
  ValuedFits valued_is.Throw e = FitsAs e Text
  ValuedFits (valued_is.Assert text) e = FitsAs e Bools
  ValuedFits (valued_is.Add owner) e = KeyFits IsSetFor (slot_local layout owner) e
  ValuedFits (valued_is.Delete owner) e = KeyFits IsKeyOf (slot_local layout owner) e
  ValuedFits valued_is.Expr e = Fits p shapes globals layout locals unit e

  -- values that are compared with a local
  abbrev pub ValuesFit : ℕ → Exprs → Type 0
  ValuesFit l none = Unit {0}
  ValuesFit l (more e es) = Fits p shapes globals layout locals unit e × (kind_of_two op_is.Equal (kind_at locals l) (kind_of globals layout e) ≡ Some Bools) × ValuesFit l es

  abbrev mutual
    -- the parts of a statement are of the kinds that its form asks
    pub StmtFits : (in_loop : Bool) → Stmt → Type 0
    StmtFits in_loop (bare h) = BareFits in_loop h.op
    StmtFits in_loop (valued h e) = ValuedFits h.op e
    StmtFits in_loop (assign h target e) =
        PlaceFits p shapes globals layout locals unit (slot_local layout h.owner) target × Fits p shapes globals layout locals unit e × IsAssigned h.op (kind_of globals layout target) (kind_of globals layout e)
    StmtFits in_loop (print at es) = AllFit p shapes globals layout locals unit es
    StmtFits in_loop (block ss) = StmtsFit in_loop ss
    StmtFits in_loop (branch bs b) = BranchesFit in_loop bs × StmtFits in_loop b
    StmtFits in_loop (while_loop e b) = FitsAs e Bools × StmtFits true b
    StmtFits in_loop (for_loop h e b) =
        Fits p shapes globals layout locals unit e × IsGoneOver (kind_of globals layout e) (kind_of_type globals.ranges h.ty) × HasLocal (layout.first + h.slot) (kind_of_type globals.ranges h.ty) × StmtFits true b
    StmtFits in_loop (switch slot e cs b) =
        Fits p shapes globals layout locals unit e × HasLocal (layout.first + slot) (kind_of globals layout e) × CasesFit in_loop (layout.first + slot) cs × StmtFits in_loop b

    pub StmtsFit : (in_loop : Bool) → Stmts → Type 0
    StmtsFit in_loop no_stmts = Unit {0}
    StmtsFit in_loop (more_stmts b ss) = StmtFits in_loop b × StmtsFit in_loop ss

    pub BranchesFit : (in_loop : Bool) → Branches → Type 0
    BranchesFit in_loop no_branches = Unit {0}
    BranchesFit in_loop (more_branches e b bs) = FitsAs e Bools × StmtFits in_loop b × BranchesFit in_loop bs

    pub CasesFit : (in_loop : Bool) → ℕ → Cases → Type 0
    CasesFit in_loop l no_cases = Unit {0}
    CasesFit in_loop l (more_cases es b cs) = ValuesFit l es × StmtFits in_loop b × CasesFit in_loop l cs
