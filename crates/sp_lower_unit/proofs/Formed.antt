-- Forms of integers, and attributes that are byte orders.
use Rattle.std.proofs.Common.{◌≡◌, ℕ, zero, suc, Bool, true, false, refl, Option, Some, None, arith}
use Rattle.std.specs.Prelude.{◌==◌}
use Rattle.std.proofs.lemmas.Bool.{eqb-true}
use Rattle.sp_words.specs.declared.words.AttributeName.{AttributeName}
use Rattle.sp_words.specs.declared.words.AttributeName.TheVariants.{ByteOrder}
use Rattle.sp_typed.specs.Exprs.{Expr}
use Rattle.sp_meaning.specs.Integers.{is_little, unless_other, without_either}
use Rattle.sp_lower_unit.specs.Forms.{is_order, neither}

-- an order before other attributes, and what is none
pub order_first : (name : AttributeName) (o : Option (Option ℕ)) → is_order name ≡ true → unless_other name o ≡ o
order_first ByteOrder o is = refl
order_first _ o is = absurd (let z : false ≡ true = is in cc)

pub other_first : (name : AttributeName) (o : Option (Option ℕ)) → is_order name ≡ false → unless_other name o ≡ None
other_first ByteOrder o is = absurd (let z : true ≡ false = is in cc)
other_first _ o is = refl

-- with neither a condition nor a sink
pub without : {A : Type 0} (a b : Option Expr) (x : Option A) → neither a b ≡ true → without_either a b x ≡ x
without None None x is = refl
without None (Some e) x is = absurd (let z : false ≡ true = is in cc)
without (Some d) b x is = absurd (let z : false ≡ true = is in cc)

pub with_either : {A : Type 0} (a b : Option Expr) (x : Option A) → neither a b ≡ false → without_either a b x ≡ None
with_either None None x is = absurd (let z : true ≡ false = is in cc)
with_either None (Some e) x is = refl
with_either (Some d) b x is = refl

-- the first label of the library's byte orders
pub zero_order : (n : ℕ) → (n == 0) ≡ is_little (Some n)
zero_order zero = refl
zero_order (suc n) = by (suc n == 0) refl
  where
    by : (b : Bool) → (suc n == 0) ≡ b → b ≡ false
    by true e = absurd (let z : suc n ≡ 0 = eqb-true (suc n) 0 e in omega (arith, z))
    by false e = refl
