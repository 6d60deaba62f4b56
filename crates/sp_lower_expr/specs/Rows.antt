-- What the definitions say of a few literals and nodes.
use Rattle.std.specs.Prelude.{◌≡◌, Some, None, false, refl}
use Rattle.std.proofs.Common.{arith}
use Rattle.sp_base.specs.declared.places.Span.{Span}
use Rattle.sp_numbers.specs.declared.width.Width.TheVariants.{W8}
use Rattle.sp_words.specs.declared.methods.Method.TheVariants.{Front, PushBack}
use Rattle.sp_words.specs.declared.operators.BinaryOp.TheVariants as op_is
use Rattle.sp_types.specs.declared.words.Word.TheVariants as word_is
use Rattle.sp_types.specs.Types.{Ty, word}
use Rattle.sp_typed.specs.declared.words.LeafOp.TheVariants as leaf_is
use Rattle.sp_typed.specs.declared.words.OneOp.TheVariants as one_is
use Rattle.sp_typed.specs.declared.words.TwoOp.TheVariants as two_is
use Rattle.sp_typed.specs.declared.words.ManyOp.TheVariants as many_is
use Rattle.sp_typed.specs.declared.words.UnitMethod.TheVariants as unit_method
use Rattle.sp_typed.specs.Exprs.{Expr, leaf, one}
use Rattle.sp_lower_expr.specs.declared.two.Takes.TheVariants as takes_by
use Rattle.sp_lower_expr.specs.declared.two.Joint.TheVariants as joint_is
use Rattle.sp_lower_expr.specs.declared.rows.Row.TheVariants as row_is
use Rattle.sp_lower_expr.specs.Literals.{NumberFits, LiteralsFit}
use Rattle.sp_lower_expr.specs.Joints.{joint_of}
use Rattle.sp_lower_expr.specs.Many.{row_of}

abbrev here : Span
here = record { from = 0; to = 0 }

abbrev small : Ty
small = word (word_is.Int W8)

abbrev minus : Expr
minus = one (record { span = here; ty = small; op = one_is.Negate }) (leaf (record { span = here; ty = small; op = leaf_is.Number 128 }))

-- the least number of eight bits is a literal as a whole, though it has no positive one
least : LiteralsFit minus
least = refl

too_large : NumberFits small false 128 → ⊥
too_large h = absurd (let z : ⊥ = cc in z)

byte : NumberFits (word (word_is.Uint W8)) false 255
byte = omega arith

no_byte : NumberFits (word (word_is.Uint W8)) false 256 → ⊥
no_byte h = omega (arith, h)

-- `&&` is no operator that takes two values
both : joint_of (two_is.Binary op_is.Add) ≡ joint_is.Both (takes_by.Operator op_is.Add)
both = refl

only_needed : joint_of (two_is.Binary op_is.And) ≡ joint_is.And
only_needed = refl

-- a method that changes its receiver, one that doesn't, and the offset of the field at hand
changes : row_of (many_is.Method PushBack (Some 3)) None ≡ row_is.Changes PushBack (Some 3)
changes = refl

asks : row_of (many_is.Method Front None) None ≡ row_is.Values
asks = refl

kept : row_of (many_is.OfUnit unit_method.Offset here) (Some 1) ≡ row_is.Kept 1
kept = refl
