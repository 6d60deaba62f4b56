-- A cast that there is goes from an integer or a label, and to an integer or an enum.
use Rattle.std.specs.Prelude.{IsTrue}
use Rattle.std.proofs.Common.{◌≡◌, ℕ, ℤ, true, false, refl, subst, sym}
use Rattle.sp_numbers.specs.declared.width.Width.{Width}
use Rattle.sp_value.specs.Val.{Val, uint, int, enum}
use Rattle.sp_operators.specs.declared.plain_type.PlainType.{PlainType}
use Rattle.sp_operators.specs.declared.plain_type.PlainType.TheVariants as type_is
use Rattle.sp_operators.specs.Operands.{is_cast}

of_unsigned : (w : Width) (n : ℕ) (to : PlainType) → ((x : Width) → to ≡ type_is.Uint x → ⊥) → ((x : Width) → to ≡ type_is.Int x → ⊥) → ((x : ℕ) → to ≡ type_is.Enum x → ⊥) → IsTrue (is_cast (uint w n) to) → ⊥
of_unsigned w n (type_is.Uint x) u i e h = u x refl
of_unsigned w n (type_is.Int x) u i e h = i x refl
of_unsigned w n (type_is.Enum x) u i e h = e x refl
of_unsigned w n _ u i e h = let q : false ≡ true = h in cc

of_signed : (w : Width) (n : ℤ) (to : PlainType) → ((x : Width) → to ≡ type_is.Uint x → ⊥) → ((x : Width) → to ≡ type_is.Int x → ⊥) → ((x : ℕ) → to ≡ type_is.Enum x → ⊥) → IsTrue (is_cast (int w n) to) → ⊥
of_signed w n (type_is.Uint x) u i e h = u x refl
of_signed w n (type_is.Int x) u i e h = i x refl
of_signed w n (type_is.Enum x) u i e h = e x refl
of_signed w n _ u i e h = let q : false ≡ true = h in cc

of_label : (k n : ℕ) (to : PlainType) → ((x : Width) → to ≡ type_is.Uint x → ⊥) → IsTrue (is_cast (enum k n) to) → ⊥
of_label k n (type_is.Uint x) u h = u x refl
of_label k n _ u h = let q : false ≡ true = h in cc

pub unsigned_goes : (a : Val) (w : Width) (n : ℕ) (to : PlainType) → uint w n ≡ a → ((x : Width) → to ≡ type_is.Uint x → ⊥) → ((x : Width) → to ≡ type_is.Int x → ⊥) → ((x : ℕ) → to ≡ type_is.Enum x → ⊥) → IsTrue (is_cast a to) → ⊥
unsigned_goes a w n to is u i e h = of_unsigned w n to u i e (subst (λ v. IsTrue (is_cast v to)) (sym is) h)

pub signed_goes : (a : Val) (w : Width) (n : ℤ) (to : PlainType) → int w n ≡ a → ((x : Width) → to ≡ type_is.Uint x → ⊥) → ((x : Width) → to ≡ type_is.Int x → ⊥) → ((x : ℕ) → to ≡ type_is.Enum x → ⊥) → IsTrue (is_cast a to) → ⊥
signed_goes a w n to is u i e h = of_signed w n to u i e (subst (λ v. IsTrue (is_cast v to)) (sym is) h)

pub label_goes : (a : Val) (k n : ℕ) (to : PlainType) → enum k n ≡ a → ((x : Width) → to ≡ type_is.Uint x → ⊥) → IsTrue (is_cast a to) → ⊥
label_goes a k n to is u h = of_label k n to u (subst (λ v. IsTrue (is_cast v to)) (sym is) h)
