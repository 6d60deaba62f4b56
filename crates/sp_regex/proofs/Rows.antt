-- The language on a few words.
use Rattle.std.proofs.Common.{◌≡◌, [], ◌∷◌, Some, None, true, refl, inl, inr, arith}
use Rattle.sp_regex.specs.Trees.{Syntax, byte, class, empty, followed, never, either, repeat, range_of, positions_of}
use Rattle.sp_regex.specs.Language.{InL}

-- a|b
abbrev a_or_b : Syntax
a_or_b = either (either never (followed empty (byte 97))) (followed empty (byte 98))

has_a : InL a_or_b (97 ∷ [])
has_a = inl (inr ([], 97 ∷ [], refl, refl, refl))

has_b : InL a_or_b (98 ∷ [])
has_b = inr ([], 98 ∷ [], refl, refl, refl)

-- (a|b){2,3} has ab, and six positions
has_ab : InL (repeat 2 (Some 3) a_or_b) (97 ∷ 98 ∷ [])
has_ab = (2, omega arith, omega arith, (97 ∷ [], 98 ∷ [], refl, has_a, (98 ∷ [], [], refl, has_b, refl)))

six : positions_of (repeat 2 (Some 3) a_or_b) ≡ 6
six = refl

-- [^a] has b
has_other : InL (class true (range_of 97 97 ∷ [])) (98 ∷ [])
has_other = (98, omega arith, refl, refl)

-- a* has nothing, and one position
has_nothing : InL (repeat 0 None (byte 97)) []
has_nothing = (0, omega arith, tt, refl)

at_least_one : positions_of (repeat 0 None (byte 97)) ≡ 1
at_least_one = refl
