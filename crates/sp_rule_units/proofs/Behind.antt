-- The first of a row that stands behind so many, by its place.
use Rattle.std.proofs.Common.{ℕ, ◌≡◌, zero, suc, ◌≤◌, ◌<◌, List, [], ◌∷◌, length, get_or, Some, None, refl, sym, ap, arith}
use Rattle.sp_ast.specs.Trees.{Tree, absent, trees}
use Rattle.sp_rule_units.specs.Limits.{first_behind}

pub is_behind : (n : ℕ) (ts : List Tree) (t : Tree) → n < length ts → t ≡ get_or ts n absent → first_behind n (trees ts) ≡ Some t
is_behind n [] t lt e = absurd (let z : ⊥ = omega (arith, lt) in z)
is_behind zero (x ∷ ts) t lt e = ap Some (sym e)
is_behind (suc n) (x ∷ ts) t lt e = is_behind n ts t (omega (arith, lt)) e

pub none_behind : (n : ℕ) (ts : List Tree) → length ts ≤ n → first_behind n (trees ts) ≡ None
none_behind n [] le = refl
none_behind zero (x ∷ ts) le = absurd (let z : ⊥ = omega (arith, le) in z)
none_behind (suc n) (x ∷ ts) le = none_behind n ts (omega (arith, le))
