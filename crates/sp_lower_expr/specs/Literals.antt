-- Literals that their types have room for, as those of a list that breaks no rule.
use Rattle.std.specs.Prelude.{ℕ, ◌<◌, ◌^◌, pos, neg_ℤ, Bool, true, false, Option, Some, None, IsTrue, if◌then◌else◌}
use Rattle.sp_numbers.specs.Numbers.{width_bits, fits_signed}
use Rattle.sp_words.specs.Methods.{changes}
use Rattle.sp_types.specs.declared.words.Word.TheVariants as word_is
use Rattle.sp_types.specs.Types.{Ty, word}
use Rattle.sp_typed.specs.declared.heads.One.{One}
use Rattle.sp_typed.specs.declared.words.LeafOp.{LeafOp}
use Rattle.sp_typed.specs.declared.words.LeafOp.TheVariants as leaf_is
use Rattle.sp_typed.specs.declared.words.OneOp.{OneOp}
use Rattle.sp_typed.specs.declared.words.OneOp.TheVariants as one_is
use Rattle.sp_typed.specs.declared.words.ManyOp.{ManyOp}
use Rattle.sp_typed.specs.declared.words.ManyOp.TheVariants as many_is
use Rattle.sp_typed.specs.Exprs.{Expr, Exprs, leaf, one, two, three, many, none, more}

-- a number, with a minus sign or without, is one of the type
abbrev pub NumberFits : Ty → Bool → ℕ → Type 0
NumberFits (word (word_is.Uint w)) minus n = n < 2 ^ width_bits w
NumberFits (word (word_is.Int w)) minus n = IsTrue (fits_signed w (if minus then neg_ℤ (pos n) else pos n))
NumberFits t minus n = Unit {0}

-- so is that of a node without parts, where it is a number
abbrev pub LeafFits : LeafOp → Ty → Type 0
LeafFits (leaf_is.Number n) t = NumberFits t false n
LeafFits (leaf_is.TypedNumber n) t = NumberFits t false n
LeafFits o t = Unit {0}

-- the number behind a minus sign that is a part of a literal
abbrev pub number_behind : OneOp → LeafOp → Option ℕ
number_behind one_is.Negate (leaf_is.Number n) = Some n
number_behind o l = None

-- the number of a literal with a minus sign, where a node is one
abbrev pub negative_number : One → Expr → Option ℕ
negative_number h (leaf i) = number_behind h.op i.op
negative_number h a = None

-- a literal with a minus sign is asked as a whole, and other nodes are asked something else
abbrev pub NegativeFits : Option ℕ → Ty → Type 0 → Type 0
NegativeFits (Some n) t A = NumberFits t true n
NegativeFits None t A = A

-- what is asked only where something holds
abbrev pub OnlyIf : Bool → Type 0 → Type 0
OnlyIf true A = A
OnlyIf false A = Unit {0}

-- what is asked only where a method changes its receiver
abbrev pub WhereItChanges : ManyOp → Type 0 → Type 0
WhereItChanges (many_is.Method m slot) A = OnlyIf (changes m) A
WhereItChanges op A = Unit {0}

abbrev mutual
  -- all numbers in an expression are ones of their types
  pub LiteralsFit : Expr → Type 0
  LiteralsFit (leaf h) = LeafFits h.op h.ty
  LiteralsFit (one h a) = NegativeFits (negative_number h a) h.ty (LiteralsFit a)
  LiteralsFit (two h a b) = LiteralsFit a × LiteralsFit b
  LiteralsFit (three h c a b) = LiteralsFit c × LiteralsFit a × LiteralsFit b
  LiteralsFit (many h es) = AllLiteralsFit es × ReceiverFits h.op es

  -- so are those in any number of expressions
  pub AllLiteralsFit : Exprs → Type 0
  AllLiteralsFit none = Unit {0}
  AllLiteralsFit (more e es) = LiteralsFit e × AllLiteralsFit es

  -- so are those in a place, of which the owners, the containers and the keys are evaluated
  pub PlaceFits : Expr → Type 0
  PlaceFits (leaf h) = Unit {0}
  PlaceFits (one h a) = LiteralsFit a
  PlaceFits (two h a b) = PlaceFits a × LiteralsFit b
  PlaceFits (three h c a b) = Unit {0}
  PlaceFits (many h es) = Unit {0}

  -- the receiver of a method that changes it is a place
  pub ReceiverFits : ManyOp → Exprs → Type 0
  ReceiverFits op none = Unit {0}
  ReceiverFits op (more r es) = WhereItChanges op (PlaceFits r)
