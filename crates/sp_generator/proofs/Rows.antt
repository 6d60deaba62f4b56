-- The made input, computed.
use Rattle.std.proofs.Common.{◌≡◌, [], ◌∷◌, length, refl}
use Rattle.sp_generator.specs.Input.{rising, records, input}

two_records : input 2 ≡ 3 ∷ 0 ∷ 1 ∷ 2 ∷ 10 ∷ 1 ∷ 2 ∷ 3 ∷ 4 ∷ 5 ∷ 6 ∷ 7 ∷ 8 ∷ 9 ∷ 10 ∷ []
unfolding rising records
two_records = refl

block : length (input 64) ≡ 2080
unfolding rising records
block = refl
