-- How many instructions a node has, by what is done with its parts.
use Rattle.std.proofs.Common.{◌≡◌, ℕ, ◌+◌, Bool, true, false, Option, Some, None, refl, arith}
use Rattle.std.specs.Prelude.{is_some, if◌then◌else◌}
use Rattle.sp_words.specs.declared.methods.Method.{Method}
use Rattle.sp_words.specs.declared.operators.BinaryOp.{BinaryOp}
use Rattle.sp_words.specs.declared.operators.BinaryOp.TheVariants as op_is
use Rattle.sp_words.specs.Methods.{changes}
use Rattle.sp_value.specs.Val.{Val}
use Rattle.sp_typed.specs.declared.words.ManyOp.{ManyOp}
use Rattle.sp_typed.specs.declared.words.ManyOp.TheVariants as many_is
use Rattle.sp_typed.specs.declared.words.UnitMethod.TheVariants as unit_method
use Rattle.sp_code_programs.specs.exprs.Sizes.{size_or, binary_size, many_size}
use Rattle.sp_lower_expr.specs.declared.rows.Row.TheVariants as row_is
use Rattle.sp_lower_expr.specs.Many.{row_of}
use Rattle.sp_lower_size.specs.Beside.{beside}

-- a literal with a minus sign, and what isn't one
pub literal_sized : (o : Option Val) (n : ℕ) → is_some o ≡ true → 1 ≡ size_or o n
literal_sized (Some v) n h = refl
literal_sized None n h = cc

pub part_sized : (o : Option Val) (n : ℕ) → is_some o ≡ false → n ≡ size_or o n
part_sized (Some v) n h = cc
part_sized None n h = refl

-- an operator, beside its parts
pub binary_sized : (o : BinaryOp) (a b : ℕ) → a + b + beside o ≡ binary_size o a b
binary_sized op_is.And a b = omega arith
binary_sized op_is.Or a b = omega arith
binary_sized _ a b = omega arith

-- what is asked for stands in a local
method_kept : (b : Bool) (m : Method) (slot : Option ℕ) (l parts change : ℕ) → (if b then row_is.Changes m slot else row_is.Values) ≡ row_is.Kept l → 1 ≡ (if b then change else parts + 1)
method_kept true m slot l parts change is = cc
method_kept false m slot l parts change is = cc

pub kept_sized : (op : ManyOp) (o : Option ℕ) (l parts change : ℕ) → row_of op o ≡ row_is.Kept l → 1 ≡ many_size op o parts change
kept_sized (many_is.OfUnit unit_method.Offset at) (Some k) l parts change is = refl
kept_sized (many_is.OfUnit unit_method.Offset at) None l parts change is = cc
kept_sized (many_is.OfUnit _ at) o l parts change is = cc
kept_sized (many_is.Method m slot) o l parts change is = method_kept (changes m) m slot l parts change is
kept_sized _ o l parts change is = cc

-- all parts are evaluated
method_values : (b : Bool) (m : Method) (slot : Option ℕ) (parts change : ℕ) → (if b then row_is.Changes m slot else row_is.Values) ≡ row_is.Values → parts + 1 ≡ (if b then change else parts + 1)
method_values true m slot parts change is = cc
method_values false m slot parts change is = refl

pub values_sized : (op : ManyOp) (o : Option ℕ) (parts change : ℕ) → row_of op o ≡ row_is.Values → parts + 1 ≡ many_size op o parts change
values_sized (many_is.OfUnit unit_method.Offset at) (Some l) parts change is = cc
values_sized (many_is.OfUnit unit_method.Offset at) None parts change is = refl
values_sized (many_is.OfUnit _ at) o parts change is = refl
values_sized (many_is.Method m slot) o parts change is = method_values (changes m) m slot parts change is
values_sized _ o parts change is = refl

-- a method changes its receiver, where this is what the change has
method_changes : (b : Bool) (m n : Method) (slot o : Option ℕ) (change : Method → Option ℕ → ℕ) (parts : ℕ) → (if b then row_is.Changes m slot else row_is.Values) ≡ row_is.Changes n o
    → change n o ≡ (if b then change m slot else parts + 1)
method_changes true m n slot o change parts is = let first : m ≡ n = cc in let second : slot ≡ o = cc in cc
method_changes false m n slot o change parts is = cc

pub changes_sized : (op : ManyOp) (o slot : Option ℕ) (m : Method) (change : ManyOp → ℕ) (parts : ℕ) → row_of op o ≡ row_is.Changes m slot → change (many_is.Method m slot) ≡ many_size op o parts (change op)
changes_sized (many_is.OfUnit unit_method.Offset at) (Some l) slot m change parts is = cc
changes_sized (many_is.OfUnit unit_method.Offset at) None slot m change parts is = cc
changes_sized (many_is.OfUnit _ at) o slot m change parts is = cc
changes_sized (many_is.Method n i) o slot m change parts is = method_changes (changes n) n m i slot (λ x y. change (many_is.Method x y)) parts is
changes_sized _ o slot m change parts is = cc
