-- The rules at a bitfield: its width, and the ranges of its bits.
use Rattle.std.specs.Prelude.{ℕ, ◌==◌, Bool, not, ◌||◌, nat_lt, nat_le, List, [], ◌∷◌, ◌++◌}
use Rattle.sp_rules.specs.declared.rule.Rule.TheVariants as rule_is
use Rattle.sp_rules.specs.declared.fault.Fault.{Fault}
use Rattle.sp_typed_units.specs.declared.declarations.BitRange.{BitRange}
use Rattle.sp_typed_units.specs.declared.declarations.Bitfield.{Bitfield}
use Rattle.sp_rules.specs.Faults.{at}

-- how many bits a bitfield may have
abbrev pub is_width : ℕ → Bool
is_width n = n == 8 || (n == 16 || (n == 32 || n == 64))

-- A range whose second number is less than the first is told at the second, and each number past the width at that number.
abbrev pub range_tests : ℕ → ℕ → BitRange → List (Bool × Fault)
range_tests m width r =
    (nat_lt r.to r.from, at m rule_is.BadBitRange r.to_span) ∷ ((nat_le width r.from, at m rule_is.BadBitRange r.from_span) ∷ ((nat_le width r.to, at m rule_is.BadBitRange r.to_span) ∷ []))

abbrev pub ranges_tests : ℕ → ℕ → List BitRange → List (Bool × Fault)
ranges_tests m width [] = []
ranges_tests m width (r ∷ rs) = range_tests m width r ++ ranges_tests m width rs

abbrev pub bitfield_tests : Bitfield → List (Bool × Fault)
bitfield_tests b =
    (not (is_width b.width), at b.«module» rule_is.BadBitRange b.width_span) ∷ ranges_tests b.«module» b.width b.ranges
