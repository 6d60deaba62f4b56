-- Constants and labels by their numbers.
use Rattle.std.proofs.Common.{◌≡◌, ◌≤◌, ◌<◌, ◌∙◌, ℕ, zero, suc, List, [], ◌∷◌, length, get_or, refl, ap, arith}
use Rattle.std.specs.Prelude.{slice_get, unwrap_or, Option, Some, None}
use Rattle.sp_value.specs.Val.{Val, void}
use Rattle.sp_typed_units.specs.declared.declarations.Constant.{Constant}
use Rattle.sp_typed_units.specs.declared.declarations.Enum.{Enum}
use Rattle.sp_typed_units.specs.declared.declarations.Label.{Label}
use Rattle.sp_meaning.specs.Globals.{constant_value, constant_values, number_of, label_numbers, enum_labels}
use Rattle.sp_lower_expr.specs.Around.{known_value}

value_or_void : (o : Option Val) → unwrap_or o void ≡ known_value (Some o)
value_or_void (Some v) = refl
value_or_void None = refl

pub constant_there : (cs : List Constant) (c : ℕ) (x : Constant) → c < length cs → x ≡ get_or cs c x → unwrap_or (constant_value x.value) void ≡ known_value (slice_get (constant_values cs) c)
constant_there [] c x lt is = absurd (let z : ⊥ = omega (arith, lt) in z)
constant_there (y ∷ cs) zero x lt is = ap (λ (z : Constant). unwrap_or (constant_value z.value) void) is ∙ value_or_void (constant_value y.value)
constant_there (y ∷ cs) (suc c) x lt is = constant_there cs c x (omega (arith, lt)) is

pub no_constant : (cs : List Constant) (c : ℕ) → length cs ≤ c → void ≡ known_value (slice_get (constant_values cs) c)
no_constant [] c h = refl
no_constant (y ∷ cs) zero h = absurd (let z : ⊥ = omega (arith, h) in z)
no_constant (y ∷ cs) (suc c) h = no_constant cs c (omega (arith, h))

pub label_there : (ls : List Label) (l : ℕ) (x : Label) → l < length ls → x ≡ get_or ls l x → number_of x.number ≡ unwrap_or (slice_get (label_numbers ls) l) 0
label_there [] l x lt is = absurd (let z : ⊥ = omega (arith, lt) in z)
label_there (y ∷ ls) zero x lt is = ap (λ (z : Label). number_of z.number) is
label_there (y ∷ ls) (suc l) x lt is = label_there ls l x (omega (arith, lt)) is

pub no_label : (ls : List Label) (l : ℕ) → length ls ≤ l → 0 ≡ unwrap_or (slice_get (label_numbers ls) l) 0
no_label [] l h = refl
no_label (y ∷ ls) zero h = absurd (let z : ⊥ = omega (arith, h) in z)
no_label (y ∷ ls) (suc l) h = no_label ls l (omega (arith, h))

pub enum_there : (es : List Enum) (k : ℕ) (x : Enum) → k < length es → x ≡ get_or es k x → label_numbers x.labels ≡ unwrap_or (slice_get (enum_labels es) k) []
enum_there [] k x lt is = absurd (let z : ⊥ = omega (arith, lt) in z)
enum_there (y ∷ es) zero x lt is = ap (λ (z : Enum). label_numbers z.labels) is
enum_there (y ∷ es) (suc k) x lt is = enum_there es k x (omega (arith, lt)) is

pub no_enum : (es : List Enum) (k l : ℕ) → length es ≤ k → 0 ≡ unwrap_or (slice_get (unwrap_or (slice_get (enum_labels es) k) []) l) 0
no_enum [] k l h = refl
no_enum (y ∷ es) zero l h = absurd (let z : ⊥ = omega (arith, h) in z)
no_enum (y ∷ es) (suc k) l h = no_enum es k l (omega (arith, h))
