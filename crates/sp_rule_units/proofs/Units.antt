-- What a list of units tells of one, by its place.
use Rattle.std.proofs.Common.{ℕ, ◌≡◌, zero, suc, ◌≤◌, ◌<◌, List, [], ◌∷◌, length, get_or, false, refl, sym, ap, arith}
use Rattle.sp_typed_units.specs.declared.declarations.Unit.{Unit}
use Rattle.sp_rule_units.specs.Filters.{is_filter, connects_filter}

pub filter_at : (us : List Unit) (n : ℕ) (u : Unit) → n < length us → u ≡ get_or us n u → is_filter us n ≡ u.filter
filter_at [] n u lt e = absurd (let z : ⊥ = omega (arith, lt) in z)
filter_at (x ∷ us) zero u lt e = ap (λ v. v.filter) (sym e)
filter_at (x ∷ us) (suc n) u lt e = filter_at us n u (omega (arith, lt)) e

pub no_filter : (us : List Unit) (n : ℕ) → length us ≤ n → is_filter us n ≡ false
no_filter [] n le = refl
no_filter (x ∷ us) zero le = absurd (let z : ⊥ = omega (arith, le) in z)
no_filter (x ∷ us) (suc n) le = no_filter us n (omega (arith, le))

pub connects_at : (us : List Unit) (n : ℕ) (u : Unit) → n < length us → u ≡ get_or us n u → connects_filter us n ≡ u.connects_filter
connects_at [] n u lt e = absurd (let z : ⊥ = omega (arith, lt) in z)
connects_at (x ∷ us) zero u lt e = ap (λ v. v.connects_filter) (sym e)
connects_at (x ∷ us) (suc n) u lt e = connects_at us n u (omega (arith, lt)) e

pub connects_none : (us : List Unit) (n : ℕ) → length us ≤ n → connects_filter us n ≡ false
connects_none [] n le = refl
connects_none (x ∷ us) zero le = absurd (let z : ⊥ = omega (arith, le) in z)
connects_none (x ∷ us) (suc n) le = connects_none us n (omega (arith, le))
