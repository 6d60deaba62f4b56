-- What stands round an expression: what names, types and members mean there.
use Rattle.std.specs.Prelude.{ℕ, List, Option}
use Rattle.sp_base.specs.declared.places.Span.{Span}
use Rattle.sp_ast.specs.Trees.{Tree}
use Rattle.sp_types.specs.Types.{Ty}
use Rattle.sp_typed.specs.Exprs.{Expr}
use Rattle.sp_typed.specs.declared.words.ManyOp.{ManyOp}
use Rattle.sp_typed.specs.declared.words.Written.{Written}
use Rattle.sp_type_context.specs.declared.places.Place.{Place}
use Rattle.sp_type_context.specs.declared.context.Member.{Member}
use Rattle.sp_type_context.specs.declared.context.Callable.{Callable}

pub record Around : Type 0 where
  -- what a path is, on the slice on which it stands
  pub path : Span → Tree → Expr
  -- the same where no local and no parameter is seen: a path behind `new`
  pub named : Span → Tree → Expr
  -- `self`, and `$$`
  pub itself : Span → Expr
  pub current : Span → Expr
  -- the type of what is declared with a type that is written at a place, and what is wrong with it there
  pub type_in : Place → Tree → Ty
  pub written : Place → Tree → Written
  -- the member of a name that values of a type have
  pub member : Ty → List ℕ → Option Member
  -- the method of a name that values of a type have, for arguments of these types, on the slice on which its name stands
  pub method : Ty → List ℕ → Span → List Ty → Option Callable
  -- the type to which the argument of a number goes, where the receiver has this type
  pub target : ManyOp → Ty → ℕ → Option Ty
  -- what stands for arguments that were left out, where so many were given
  pub left_out : ManyOp → Span → ℕ → List Expr
  -- the type of what a function gives
  pub result : ℕ → Ty
  -- the number of a member of a tuple, where an index is constant and has one
  pub item : Expr → Option ℕ
