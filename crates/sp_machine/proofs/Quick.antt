-- Numbers that are looked at first.
use Rattle.std.proofs.Common.{◌≡◌, ℕ, List, [], ◌∷◌, length, Some, None, Ok, sym, ap, ◌∙◌, arith}
use Rattle.std.specs.Prelude.{get_or}
use Rattle.std.specs.Ordering.{nat_cmp}
use Rattle.sp_words.specs.declared.operators.BinaryOp.TheVariants.{Add}
use Rattle.sp_numbers.specs.declared.width.Width.{Width}
use Rattle.sp_numbers.specs.declared.width.Width.TheVariants.{W64}
use Rattle.sp_value.specs.Val.{Val, void, bool, uint, int, bytes, str, enum, bits, tuple, vector, set, map, unit, place}
use Rattle.sp_value.specs.Order.{val_cmp}
use Rattle.sp_value.specs.Parts.{number_in, width_in}
use Rattle.sp_events.specs.Tree as told
use Rattle.sp_operators.specs.Operators.{binary}
use Rattle.sp_meaning_states.specs.States.{Instance}
use Rattle.sp_meaning_states.specs.Telling.{Names, value_tree, value_trees}

-- an unsigned integer with a number
record Number (v : Val) (n : ℕ) : Type 0 where
  width : Width
  is : v ≡ uint width n

is_number : (v : Val) (n : ℕ) → number_in v ≡ Some n → Number v n
is_number void n e = absurd (let g : None ≡ Some n = e in cc)
is_number (bool x) n e = absurd (let g : None ≡ Some n = e in cc)
is_number (uint x y) n e = record { width = x; is = ap (uint x) (let g : y ≡ n = cc in g) }
is_number (int x y) n e = absurd (let g : None ≡ Some n = e in cc)
is_number (bytes x) n e = absurd (let g : None ≡ Some n = e in cc)
is_number (str x) n e = absurd (let g : None ≡ Some n = e in cc)
is_number (enum x y) n e = absurd (let g : None ≡ Some n = e in cc)
is_number (bits x y) n e = absurd (let g : None ≡ Some n = e in cc)
is_number (tuple x) n e = absurd (let g : None ≡ Some n = e in cc)
is_number (vector x) n e = absurd (let g : None ≡ Some n = e in cc)
is_number (set x) n e = absurd (let g : None ≡ Some n = e in cc)
is_number (map x) n e = absurd (let g : None ≡ Some n = e in cc)
is_number (unit x) n e = absurd (let g : None ≡ Some n = e in cc)
is_number (place x) n e = absurd (let g : None ≡ Some n = e in cc)

pub number_is : (v : Val) (w : Width) (n : ℕ) → number_in v ≡ Some n → width_in v ≡ Some w → uint w n ≡ v
number_is v w n e f =
    let x = is_number v n e in
    let g : Some x.width ≡ Some w = sym (ap width_in x.is) ∙ f in
    let same : w ≡ x.width = cc in
    ap (λ w. uint w n) same ∙ sym x.is

pub numbers_cmp : (a b : Val) (m n : ℕ) → number_in a ≡ Some m → number_in b ≡ Some n → val_cmp a b ≡ nat_cmp m n
numbers_cmp a b m n e f =
    let x = is_number a m e in
    let y = is_number b n f in
    ap (λ v. val_cmp v b) x.is ∙ ap (λ v. val_cmp (uint x.width m) v) y.is

pub sum_is : (a b : Val) (m n : ℕ) (sum : Val) → number_in a ≡ Some m → width_in a ≡ Some W64 → number_in b ≡ Some n → width_in b ≡ Some W64
    → binary Add (uint W64 m) (uint W64 n) ≡ Ok sum → binary Add a b ≡ Ok sum
sum_is a b m n sum e f g h is =
    ap (λ v. binary Add v b) (sym (number_is a W64 m e f)) ∙ ap (λ v. binary Add (uint W64 m) v) (sym (number_is b W64 n g h)) ∙ is

-- a number that is told alone
pub number_told : (names : Names) (xs : List Instance) (vs : List Val) (v : Val) (n : ℕ) → length vs ≡ 1 → v ≡ get_or vs 0 v → number_in v ≡ Some n → value_trees names xs vs ≡ told.uint n ∷ []
number_told names xs [] v n l g e = absurd (omega (arith, l))
number_told names xs (x ∷ []) v n l g e = ap (λ v. value_tree names xs v ∷ []) (sym g ∙ (is_number v n e).is)
number_told names xs (x ∷ y ∷ ys) v n l g e = absurd (omega (arith, l))
