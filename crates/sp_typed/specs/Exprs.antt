-- Typed expressions, apart from memory.
use Rattle.std.specs.Prelude.{Bool, true, false, cond, ◌&&◌, List, [], ◌∷◌}
use Rattle.sp_base.specs.declared.places.Span.{Span}
use Rattle.sp_types.specs.declared.words.Word.{Word}
use Rattle.sp_types.specs.Types.{Ty, word}
use Rattle.sp_typed.specs.declared.heads.Leaf.{Leaf}
use Rattle.sp_typed.specs.declared.heads.One.{One}
use Rattle.sp_typed.specs.declared.heads.Two.{Two}
use Rattle.sp_typed.specs.declared.heads.Three.{Three}
use Rattle.sp_typed.specs.declared.heads.Many.{Many}
use Rattle.sp_typed.specs.declared.words.LeafOp.{LeafOp}
use Rattle.sp_typed.specs.declared.words.LeafOp.TheVariants as leaf_is
use Rattle.sp_typed.specs.declared.words.OneOp.{OneOp}
use Rattle.sp_typed.specs.declared.words.OneOp.TheVariants as one_is

-- An expression: a node, with as many parts as it has.
mutual
  pub data Expr : Type 0 where
    leaf : Leaf → Expr
    one : One → Expr → Expr
    two : Two → Expr → Expr → Expr
    three : Three → Expr → Expr → Expr → Expr
    many : Many → Exprs → Expr

  pub data Exprs : Type 0 where
    none : Exprs
    more : Expr → Exprs → Exprs

-- the expressions of a list
abbrev pub exprs : List Expr → Exprs
exprs [] = none
exprs (e ∷ es) = more e (exprs es)

-- the list of expressions
abbrev pub listed : Exprs → List Expr
listed none = []
listed (more e es) = e ∷ listed es

-- the type of a node
abbrev pub type_of : Expr → Ty
type_of (leaf h) = h.ty
type_of (one h a) = h.ty
type_of (two h a b) = h.ty
type_of (three h a b c) = h.ty
type_of (many h es) = h.ty

-- the slice of the text on which a node stands
abbrev pub span_of : Expr → Span
span_of (leaf h) = h.span
span_of (one h a) = h.span
span_of (two h a b) = h.span
span_of (three h a b c) = h.span
span_of (many h es) = h.span

abbrev pub number_leaf : LeafOp → Bool
number_leaf (leaf_is.Number n) = true
number_leaf _ = false

abbrev pub is_minus : OneOp → Bool
is_minus one_is.Negate = true
is_minus _ = false

-- a number that takes the type of its place
abbrev pub is_number : Expr → Bool
is_number (leaf h) = number_leaf h.op
is_number _ = false

-- a literal: such a number, with a minus sign or without
abbrev pub is_literal : Expr → Bool
is_literal (leaf h) = number_leaf h.op
is_literal (one h a) = is_minus h.op && is_number a
is_literal _ = false

-- a node with another type
abbrev pub retyped : Ty → Expr → Expr
retyped t (leaf h) = leaf (record { span = h.span; ty = t; op = h.op })
retyped t (one h a) = one (record { span = h.span; ty = t; op = h.op }) a
retyped t (two h a b) = two (record { span = h.span; ty = t; op = h.op }) a b
retyped t (three h a b c) = three (record { span = h.span; ty = t }) a b c
retyped t (many h es) = many (record { span = h.span; ty = t; op = h.op }) es

-- a literal with the type of its place; what is no literal has its own
abbrev pub settled : Word → Expr → Expr
settled w e = cond (is_literal e) (retyped (word w) e) e
