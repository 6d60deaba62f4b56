-- Items by number of what loops go over.
use Rattle.std.proofs.Common.{◌≡◌, ℕ, zero, suc, ◌<◌, ◌≤◌, List, [], ◌∷◌, length, Some, None, refl, sym, ap, arith}
use Rattle.std.specs.Prelude.{slice_get, get_or}
use Rattle.sp_numbers.specs.declared.width.Width.TheVariants.{W8}
use Rattle.sp_value.specs.Val.{Val, uint, tuple, vals_of}
use Rattle.sp_meaning_states.specs.Values.{byte_values, entry_values}

pub byte_at : (bytes : List ℕ) (i d : ℕ) → i < length bytes → slice_get (byte_values bytes) i ≡ Some (uint W8 (get_or bytes i d))
byte_at [] i d h = absurd (omega (arith, h))
byte_at (b ∷ bytes) zero d h = refl
byte_at (b ∷ bytes) (suc i) d h = byte_at bytes i d (omega (arith, h))

pub no_byte : (bytes : List ℕ) (i : ℕ) → length bytes ≤ i → slice_get (byte_values bytes) i ≡ None
no_byte [] i h = refl
no_byte (b ∷ bytes) zero h = absurd (omega (arith, h))
no_byte (b ∷ bytes) (suc i) h = no_byte bytes i (omega (arith, h))

pub entry_at : (es : List (Val × Val)) (i : ℕ) (e : Val × Val) → Some e ≡ slice_get es i → slice_get (entry_values es) i ≡ Some (tuple (vals_of (e.0 ∷ e.1 ∷ [])))
entry_at [] i e h = cc
entry_at (x ∷ es) zero e h = let same : e ≡ x = cc in sym (ap (λ e. Some (tuple (vals_of (e.0 ∷ e.1 ∷ [])))) same)
entry_at (x ∷ es) (suc i) e h = entry_at es i e h

pub no_entry : (es : List (Val × Val)) (i : ℕ) → None ≡ slice_get es i → slice_get (entry_values es) i ≡ None
no_entry [] i h = refl
no_entry (x ∷ es) zero h = cc
no_entry (x ∷ es) (suc i) h = no_entry es i h
