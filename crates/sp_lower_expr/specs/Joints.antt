-- What is done with two parts.
use Rattle.sp_words.specs.declared.operators.BinaryOp.TheVariants as op_is
use Rattle.sp_typed.specs.declared.words.TwoOp.{TwoOp}
use Rattle.sp_typed.specs.declared.words.TwoOp.TheVariants as two_is
use Rattle.sp_code.specs.declared.instr.Instr.{Instr}
use Rattle.sp_code.specs.declared.instr.Instr.TheVariants as does
use Rattle.sp_lower_expr.specs.declared.two.Takes.{Takes}
use Rattle.sp_lower_expr.specs.declared.two.Takes.TheVariants as takes_by
use Rattle.sp_lower_expr.specs.declared.two.Joint.{Joint}
use Rattle.sp_lower_expr.specs.declared.two.Joint.TheVariants as joint_is

-- what is done with the parts of a node: `&&` and `||` evaluate only what they need
abbrev pub joint_of : TwoOp → Joint
joint_of (two_is.Binary op_is.And) = joint_is.And
joint_of (two_is.Binary op_is.Or) = joint_is.Or
joint_of (two_is.Binary o) = joint_is.Both (takes_by.Operator o)
joint_of two_is.Index = joint_is.Both takes_by.Index
joint_of (two_is.Item i) = joint_is.Item i

-- the instruction that takes two values
abbrev pub taking : Takes → Instr
taking (takes_by.Operator o) = does.Binary o
taking takes_by.Index = does.Index
