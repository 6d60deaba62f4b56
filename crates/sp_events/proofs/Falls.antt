-- Each step of a drop leaves less to do.
use Rattle.std.proofs.Common.{◌≡◌, ℕ, ◌+◌, ◌*◌, ◌<◌, ◌≤◌, ap, ⊎_elim, arith, Option, None, Some}
use Rattle.std.proofs.lemmas.Nat.{mul-le}
use Rattle.std.proofs.lemmas.Bool.{cases_lt}
use Rattle.sp_events.specs.Tree.{TreeData}
use Rattle.sp_events.specs.inside.Left.{left_size, hand_size}

pub work_falls : (m h n k : ℕ) → m ≤ n → (n ≤ m → h < k) → h ≤ m → m * m + h < n * n + k
work_falls m h n k small falls less =
    ⊎_elim (λ l. let big : (m + 1) * (m + 1) ≤ n * n = mul-le (m + 1) (m + 1) n n (omega (arith, l)) (omega (arith, l)) in omega arith)
    (λ g. let same : m ≡ n = omega (arith, g) in let less = falls g in omega (arith, ap (λ x. x * x) same)) (cases_lt m n)

pub hand_within : (s : Option (TreeData × Option TreeData)) → hand_size s ≤ left_size s
hand_within None = omega arith
hand_within (Some s) = omega arith
