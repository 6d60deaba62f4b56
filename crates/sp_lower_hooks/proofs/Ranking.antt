-- The order of bodies has the laws of an order.
use Rattle.std.proofs.Common.{ℕ, ◌≡◌, ◌<◌, true, false, refl, sym, ap, subst}
use Rattle.std.specs.Cmp.{IsTotalOrder, IsStrictWeakOrder}
use Rattle.std.specs.Ordering.{MatchOrdering, is_lt, nat_cmp, int_cmp, ordering_then, ordering_reverse, on, flip_args, then_cmp}
use Rattle.std.specs.declared.cmp.Ordering.{Ordering}
use Rattle.std.specs.declared.cmp.Ordering.TheVariants.{Less, Equal, Greater}
use Rattle.std.proofs.lemmas.List.Sorted.{ranks_by}
use Rattle.std.proofs.lemmas.Cmp.{then_total, back_total, on_total, int_cmp_total, nat_cmp_total, ranked}
use Rattle.sp_lower_hooks.specs.inside.Turns.{Turn, order, goes_before}

abbrev by_rank : Turn → Turn → Ordering
by_rank = flip_args (on (λ (x : Turn). x.rank) int_cmp)

abbrev by_home : Turn → Turn → Ordering
by_home = on (λ (x : Turn). x.home) nat_cmp

abbrev by_place : Turn → Turn → Ordering
by_place = on (λ (x : Turn). x.from) nat_cmp

abbrev by_number : Turn → Turn → Ordering
by_number = flip_args (on (λ (x : Turn). x.number) nat_cmp)

pub order_total : IsTotalOrder order
order_total =
    then_total {R = by_rank} {S = then_cmp by_home (then_cmp by_place by_number)} (back_total (on_total (λ (x : Turn). x.rank) int_cmp_total))
    (then_total {R = by_home} {S = then_cmp by_place by_number} (on_total (λ (x : Turn). x.home) nat_cmp_total)
    (then_total {R = by_place} {S = by_number} (on_total (λ (x : Turn). x.from) nat_cmp_total) (back_total (on_total (λ (x : Turn). x.number) nat_cmp_total))))

pub weak_order : IsStrictWeakOrder goes_before
weak_order = ranks_by order_total (λ (x : Turn). x)

itself : (r : Ordering) → r ≡ ordering_reverse r → is_lt r ≡ false
itself Less e = absurd (let z : Less ≡ Greater = e in cc)
itself Equal e = refl
itself Greater e = refl

pub not_itself : (x : Turn) → goes_before x x ≡ false
not_itself x = itself (order x x) (order_total.antisymm x x)

neither : (r s : Ordering) → r ≡ ordering_reverse s → is_lt r ≡ false → is_lt s ≡ false → r ≡ Equal
neither Less s e f g = absurd (let z : true ≡ false = f in cc)
neither Equal s e f g = refl
neither Greater Less e f g = absurd (let z : true ≡ false = g in cc)
neither Greater Equal e f g = absurd (let z : Greater ≡ Equal = e in cc)
neither Greater Greater e f g = absurd (let z : Greater ≡ Less = e in cc)

-- of two of which none goes before the other
pub tied : (x y : Turn) → goes_before x y ≡ false → goes_before y x ≡ false → order x y ≡ Equal
tied x y f g = neither (order x y) (order y x) (order_total.antisymm x y) f g

equal_numbers : (m n : ℕ) → nat_cmp m n ≡ Equal → m ≡ n
equal_numbers m n e = subst (λ (o : Ordering). MatchOrdering o (m < n) (m ≡ n) (n < m)) e (ranked m n (nat_cmp m n) refl)

last_equal : (r s : Ordering) → ordering_then r s ≡ Equal → s ≡ Equal
last_equal Less s e = absurd (let z : Less ≡ Equal = e in cc)
last_equal Equal s e = e
last_equal Greater s e = absurd (let z : Greater ≡ Equal = e in cc)

pub same_number : (x y : Turn) → order x y ≡ Equal → x.number ≡ y.number
same_number x y e =
    let numbers = nat_cmp y.number x.number in
    let places = ordering_then (nat_cmp x.from y.from) numbers in
    let homes = ordering_then (nat_cmp x.home y.home) places in
    sym (equal_numbers y.number x.number (last_equal (nat_cmp x.from y.from) numbers (last_equal (nat_cmp x.home y.home) places (last_equal (int_cmp y.rank x.rank) homes e))))

pub goes_alike : (x y z : Turn) → order x y ≡ Equal → goes_before x z ≡ goes_before y z
goes_alike x y z e = ap is_lt (order_total.congr x y z e)
