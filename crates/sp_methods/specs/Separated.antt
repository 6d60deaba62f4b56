-- The parts of bytes between the occurrences of a separator, which are taken from the left and don't overlap.
use Rattle.std.specs.Prelude.{ℕ, zero, suc, ◌-◌, ◌==◌, List, [], ◌∷◌, length, drop, map, Result, Ok, Err, if◌then◌else◌}
use Rattle.sp_base.specs.declared.kinds.PKind.{PKind}
use Rattle.sp_base.specs.declared.kinds.PKind.TheVariants.{BadConversion}
use Rattle.sp_value.specs.Val.{Val, bytes}
use Rattle.sp_operators.specs.Parts.{begins_with}

-- what stands before the first occurrence of a separator; all where there is none
abbrev pub before : List ℕ → List ℕ → List ℕ
before d [] = []
before d (b ∷ bs) = if begins_with (b ∷ bs) d then [] else b ∷ before d bs

-- what stands behind it; nothing where there is none
abbrev pub behind : List ℕ → List ℕ → List ℕ
behind d [] = []
behind d (b ∷ bs) = if begins_with (b ∷ bs) d then drop (length d) (b ∷ bs) else behind d bs

-- the parts with a byte more in front of the first
abbrev pub with_first : ℕ → List (List ℕ) → List (List ℕ)
with_first b [] = []
with_first b (part ∷ parts) = (b ∷ part) ∷ parts

-- the parts of the bytes that stand behind the first `inside`, which belong to an occurrence of the separator: a further
-- occurrence ends a part, and each other byte is the first of the part that it stands in front of
abbrev pub parts : List ℕ → ℕ → List ℕ → List (List ℕ)
parts d inside [] = [] ∷ []
parts d (suc inside) (b ∷ bs) = parts d inside bs
parts d zero (b ∷ bs) = if begins_with (b ∷ bs) d then [] ∷ parts d (length d - 1) bs else with_first b (parts d zero bs)

-- all parts, as values
abbrev pub split : List ℕ → List ℕ → Result (List Val) PKind
split x d = if length d == 0 then Err BadConversion else Ok (map bytes (parts d 0 x))

-- the parts before and behind the first occurrence
abbrev pub split1 : List ℕ → List ℕ → Result (List ℕ × List ℕ) PKind
split1 x d = if length d == 0 then Err BadConversion else Ok (before d x, behind d x)
