-- Parts of a type as lists.
use Rattle.std.specs.Prelude.{◌&&◌}
use Rattle.std.specs.List.{list_all}
use Rattle.std.proofs.Common.{ℕ, ◌≡◌, ◌≢◌, zero, suc, ◌+◌, ◌≤◌, ◌<◌, Bool, true, false, List, [], ◌∷◌, length, get_or, refl, ap, arith}
use Rattle.sp_types.specs.Types.{Ty, tys, is_known, are_known, is_plain, are_plain, same, all_same}
use Rattle.sp_types.specs.inside.Codes.{ty_size, tys_size}

pub all_known : (ts : List Ty) → are_known (tys ts) ≡ list_all is_known ts
all_known [] = refl
all_known (t ∷ ts) = ap (λ z. is_known t && z) (all_known ts)

pub all_plain : (ts : List Ty) → are_plain (tys ts) ≡ list_all is_plain ts
all_plain [] = refl
all_plain (t ∷ ts) = ap (λ z. is_plain t && z) (all_plain ts)

-- a part is smaller than its list
pub part_falls : (ts : List Ty) (i : ℕ) (t : Ty) → i < length ts → t ≡ get_or ts i t → ty_size t + 1 ≤ tys_size (tys ts)
part_falls [] i t lt e = absurd (let z : ⊥ = omega (arith, lt) in z)
part_falls (x ∷ ts) zero t lt e = (let s : ty_size t ≡ ty_size x = ap ty_size e in omega (arith, s))
part_falls (x ∷ ts) (suc i) t lt e = (let h = part_falls ts i t (omega (arith, lt)) e in omega (arith, h))

-- lists of other lengths are not the same
pub other_lengths : (ts us : List Ty) → length ts ≢ length us → all_same (tys ts) (tys us) ≡ false
other_lengths [] [] n = absurd (n refl)
other_lengths [] (u ∷ us) n = refl
other_lengths (t ∷ ts) [] n = refl
other_lengths (t ∷ ts) (u ∷ us) n = and_false (same t u) (other_lengths ts us (λ e. n (ap suc e)))
  where
    and_false : (b : Bool) {c : Bool} → c ≡ false → (b && c) ≡ false
    and_false true e = e
    and_false false e = refl
