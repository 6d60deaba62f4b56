-- The members of a value: each is smaller than the value, and comparing them in turn from a place on.
use Rattle.std.proofs.Common.{◌≡◌, ℕ, zero, suc, ◌+◌, ◌<◌, ◌≤◌, List, [], ◌∷◌, length, drop, get_or, refl, ◌∙◌, arith}
use Rattle.std.specs.Ordering.{nat_cmp}
use Rattle.std.proofs.lemmas.Bool.Decides.{nat_tests}
use Rattle.sp_value.specs.Val.{Val, vals_of, entries_of}
use Rattle.sp_value.specs.inside.Sizes.{val_size, sizes, entries_size}
use Rattle.sp_value.specs.Order.{vals_cmp, entries_cmp}

pub size_within : (xs : List Val) (i : ℕ) (d : Val) → i < length xs → val_size (get_or xs i d) + 1 ≤ sizes (vals_of xs)
size_within [] i d h = absurd (omega arith)
size_within (x ∷ xs) zero d h = omega arith
size_within (x ∷ xs) (suc i) d h = omega (arith, size_within xs i d (omega arith))

pub entry_size_within : (es : List (Val × Val)) (i : ℕ) (d : Val × Val) → i < length es → val_size (get_or es i d).0 + val_size (get_or es i d).1 + 2 ≤ entries_size (entries_of es)
entry_size_within [] i d h = absurd (omega arith)
entry_size_within (x ∷ xs) zero d h = omega arith
entry_size_within (x ∷ xs) (suc i) d h = omega (arith, entry_size_within xs i d (omega arith))

after_both : (m n : ℕ) → nat_cmp (suc m) (suc n) ≡ nat_cmp m n
after_both m n = grind (arith, nat_tests)

-- where one of two lists ends their lengths decide
pub vals_end : (xs ys : List Val) (i : ℕ) → i ≤ length xs → i ≤ length ys → (i < length xs → i < length ys → ⊥) → nat_cmp (length xs) (length ys) ≡ vals_cmp (vals_of (drop i xs)) (vals_of (drop i ys))
vals_end [] [] zero h g n = refl
vals_end [] [] (suc i) h g n = absurd (omega arith)
vals_end [] (y ∷ ys) zero h g n = grind (arith, nat_tests)
vals_end [] (y ∷ ys) (suc i) h g n = absurd (omega arith)
vals_end (x ∷ xs) [] zero h g n = grind (arith, nat_tests)
vals_end (x ∷ xs) [] (suc i) h g n = absurd (omega arith)
vals_end (x ∷ xs) (y ∷ ys) zero h g n = absurd (n (omega arith) (omega arith))
vals_end (x ∷ xs) (y ∷ ys) (suc i) h g n = after_both (length xs) (length ys) ∙ vals_end xs ys i (omega arith) (omega arith) (λ a b. n (omega arith) (omega arith))

pub entries_end : (xs ys : List (Val × Val)) (i : ℕ) → i ≤ length xs → i ≤ length ys → (i < length xs → i < length ys → ⊥) → nat_cmp (length xs) (length ys) ≡ entries_cmp (entries_of (drop i xs)) (entries_of (drop i ys))
entries_end [] [] zero h g n = refl
entries_end [] [] (suc i) h g n = absurd (omega arith)
entries_end [] (y ∷ ys) zero h g n = grind (arith, nat_tests)
entries_end [] (y ∷ ys) (suc i) h g n = absurd (omega arith)
entries_end (x ∷ xs) [] zero h g n = grind (arith, nat_tests)
entries_end (x ∷ xs) [] (suc i) h g n = absurd (omega arith)
entries_end (x ∷ xs) (y ∷ ys) zero h g n = absurd (n (omega arith) (omega arith))
entries_end (x ∷ xs) (y ∷ ys) (suc i) h g n = after_both (length xs) (length ys) ∙ entries_end xs ys i (omega arith) (omega arith) (λ a b. n (omega arith) (omega arith))
