-- What a rule asks that a node can't tell.
use Rattle.std.specs.Prelude.{ℕ, Bool, false, Option, None}
use Rattle.sp_types.specs.Types.{Ty}
use Rattle.sp_typed.specs.Exprs.{Expr}
use Rattle.sp_typed.specs.declared.words.ManyOp.{ManyOp}
use Rattle.sp_rule_bodies.specs.declared.facts.Constancy.{Constancy}
use Rattle.sp_rule_bodies.specs.declared.facts.Constancy.TheVariants as constancy_is

pub record Known : Type 0 where
  -- the type to which the argument of a number goes, where the receiver has this type: none where there is no such parameter
  pub target : ManyOp → Ty → ℕ → Option Ty
  -- whether a slot of the body is that of the variable of a `for`, which can't be changed
  pub fixed : ℕ → Bool
  -- whether an expression has a constant value
  pub constancy : Expr → Constancy

-- where no function has a parameter, no slot is that of the variable of a `for`, and nothing is constant
abbrev pub nothing_known : Known
nothing_known = record { target = λ op t n. None; fixed = λ slot. false; constancy = λ e. constancy_is.NotConstant }
