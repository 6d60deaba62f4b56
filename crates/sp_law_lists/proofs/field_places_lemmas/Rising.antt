-- Numbers that rise within bounds.
use Rattle.std.proofs.Common.{ℕ, ◌≤◌, suc, arith, List, [], ◌∷◌, ◌++◌}

-- each is above the one before it, the first is not below the first bound, and all are below the second one
abbrev pub Rises : ℕ → List ℕ → ℕ → Type 0
Rises low [] high = low ≤ high
Rises low (n ∷ ns) high = (low ≤ n) × Rises (suc n) ns high

pub rises_from : (lower low : ℕ) (ns : List ℕ) (high : ℕ) → lower ≤ low → Rises low ns high → Rises lower ns high
rises_from lower low [] high le r = omega (arith, le, r)
rises_from lower low (n ∷ ns) high le r = (let first = r.0 in omega (arith, le, first), r.1)

pub rises_to : (low : ℕ) (ns : List ℕ) (high higher : ℕ) → high ≤ higher → Rises low ns high → Rises low ns higher
rises_to low [] high higher le r = omega (arith, le, r)
rises_to low (n ∷ ns) high higher le r = (r.0, rises_to (suc n) ns high higher le r.1)

pub in_bounds : (low : ℕ) (ns : List ℕ) (high : ℕ) → Rises low ns high → low ≤ high
in_bounds low [] high r = r
in_bounds low (n ∷ ns) high r = (let first = r.0 in let rest = in_bounds (suc n) ns high r.1 in omega (arith, first, rest))

-- some behind others
pub rises_both : (low mid high : ℕ) (xs ys : List ℕ) → Rises low xs mid → Rises mid ys high → Rises low (xs ++ ys) high
rises_both low mid high [] ys r s = rises_from low mid ys high r s
rises_both low mid high (x ∷ xs) ys r s = (r.0, rises_both (suc x) mid high xs ys r.1 s)

pub rises_parts : (low high : ℕ) (xs ys : List ℕ) → Rises low (xs ++ ys) high → (mid : ℕ) × Rises low xs mid × Rises mid ys high
rises_parts low high [] ys r = (low, (let z : low ≤ low = omega arith in z), r)
rises_parts low high (x ∷ xs) ys r =
    let p = rises_parts (suc x) high xs ys r.1 in
    (p.0, (r.0, p.1), p.2)
