-- What expressions are as constants, where no rule is broken.
use Rattle.std.specs.Prelude.{◌≡◌, ℕ, Bool, IsTrue}
use Rattle.sp_words.specs.declared.operators.BinaryOp.{BinaryOp}
use Rattle.sp_ast.specs.Trees.{Tree}
use Rattle.sp_value.specs.Val.{Val}
use Rattle.sp_types.specs.Types.{Ty}
use Rattle.sp_typed.specs.declared.words.OneOp.{OneOp}
use Rattle.sp_type_operands.specs.Operands.{sort_of, stands_before, stands_behind, agree, result_type}
use Rattle.sp_type_context.specs.Contexts.{Around}
use Rattle.sp_type_context.specs.Typing.{typed}
use Rattle.sp_type_constants.specs.Known.{Known as Values}
use Rattle.sp_type_constants.specs.Operations.{operated}
use Rattle.sp_rule_bodies.specs.Known.{Known}
use Rattle.sp_law_lists.specs.known_types.Trees.{is_expr}
use Rattle.sp_law_lists.specs.known_values.Values.{is_of, fits}
use Rattle.sp_law_lists.specs.known_values.Operators.{is_evaluated}
use Rattle.sp_law_lists.specs.known_values.Given.{IsTold, AreTold}

-- An operator but `&&` and `||`, between values of types that can stand before and behind it and agree, has a value of the type of
-- its result, or is an error.
abbrev pub OperatorsAreTold : Type 0
OperatorsAreTold =
    (op : BinaryOp) (s t : Ty) (a b : Val) → IsTrue (is_evaluated op)
    → IsTrue (stands_before (sort_of op) s) → IsTrue (stands_behind (sort_of op) t)
    → IsTrue (agree (sort_of op) s t) → IsTrue (is_of s a) → IsTrue (is_of t b)
    → IsTrue (fits (result_type (sort_of op) s t) (operated op a b))

-- Where what names mean as constants fits their types, what an expression is as a constant fits its type: it is a value of it, not constant, or an error, and never unknown. So it is where no rule is broken in
-- it, each of its nodes is a value of a full type, and it is no literal past its type.
abbrev pub ConstantsAreTold : Type 0
ConstantsAreTold =
    (g : Around) (only : OneOp → Bool) (k : Known) (m : ℕ) (v : Values)
    (is_type is_path : Tree → Bool) (t : Tree)
    → AreTold g only k m v is_path
    → IsTrue (is_expr is_type is_path t) → IsTold only k m v (typed g t)
