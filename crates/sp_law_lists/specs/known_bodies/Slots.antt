-- Expressions without the slots in which the owners of changed receivers are kept: no rule asks for these.
use Rattle.std.specs.Prelude.{ℕ, ◌≡◌, None}
use Rattle.sp_types.specs.Types.{Ty}
use Rattle.sp_typed.specs.declared.words.ManyOp.{ManyOp}
use Rattle.sp_typed.specs.Exprs.{Expr, Exprs, leaf, one, two, three, many, none, more}
use Rattle.sp_type_stmts.specs.Owners.{with_slot_of}
use Rattle.sp_rule_bodies.specs.Known.{Known}

abbrev mutual
  pub plain : Expr → Expr
  plain (leaf h) = leaf h
  plain (one h a) = one h (plain a)
  plain (two h a b) = two h (plain a) (plain b)
  plain (three h a b c) = three h (plain a) (plain b) (plain c)
  plain (many h es) = many (record { span = h.span; ty = h.ty; op = with_slot_of h.op None }) (all_plain es)

  pub all_plain : Exprs → Exprs
  all_plain none = none
  all_plain (more e es) = more (plain e) (all_plain es)

-- What is known tells the same of an expression and of a call whatever slots they have.
pub record IsBlind (k : Known) : Type 0 where
  pub target : (op : ManyOp) (t : Ty) (n : ℕ) → k.target (with_slot_of op None) t n ≡ k.target op t n
  pub constancy : (e : Expr) → k.constancy (plain e) ≡ k.constancy e
