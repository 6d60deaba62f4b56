-- Facts on runs of bytes, and on numbers that are cut off at a limit.
use Rattle.std.proofs.Common.{◌≡◌, ℕ, ◌+◌, ◌*◌, ◌<◌, ◌≤◌, List, [], ◌∷◌, length, get_or, Bool, true, cond, min, sym, ap, ◌∙◌, subst, ⊎_elim, arith}
use Rattle.std.proofs.Math.Nat.{mul-le-mul_left}
use Rattle.std.specs.List.{prefix_len}
use Rattle.std.proofs.str.Laws.{order}

-- where the first byte is of the class, the run is not empty
pub first_passes : (p : ℕ → Bool) (text : List ℕ) → 0 < length text → p (get_or text 0 0) ≡ true → 0 < prefix_len p text
first_passes p [] h e = absurd (omega arith)
first_passes p (byte ∷ text) h e = subst (λ b. 0 < cond b (1 + prefix_len p text) 0) (sym e) (omega arith)

-- a value that is cut off at a limit goes on as the whole one, cut off
pub cut_off : (limit base value digit : ℕ) → 1 ≤ base → min (min value limit * base + digit) limit ≡ min (value * base + digit) limit
cut_off limit base value digit h =
    ⊎_elim
    (λ below. let e : min value limit ≡ value = omega arith in ap (λ v. min (v * base + digit) limit) e)
    (λ above.
    let e : min value limit ≡ limit = omega arith in
    let one : limit * 1 ≤ limit * base = mul-le-mul_left limit h in
    let two : value * 1 ≤ value * base = mul-le-mul_left value h in
    ap (λ v. min (v * base + digit) limit) e ∙ omega (arith, one, two))
    (order value limit)
