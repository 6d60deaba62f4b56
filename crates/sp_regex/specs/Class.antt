-- Classes: how far one is read, and what the next byte leads to. For private functions.
use Rattle.std.specs.Prelude.{◌≡◌, ℕ, ◌+◌, ◌*◌, ◌++◌, [], ◌∷◌, ◌&&◌, ◌||◌, Bool, true, false, not, List, Option, Some, None, nat_le, nat_lt, if◌then◌else◌}
use Rattle.sp_regex.specs.declared.bytes.ByteRange.{ByteRange}
use Rattle.sp_regex.specs.declared.bytes.ClassByteRole.{ClassByteRole}
use Rattle.sp_regex.specs.declared.bytes.ClassByteRole.TheVariants as role
use Rattle.sp_regex.specs.declared.escape.EscapePlace.{EscapePlace}
use Rattle.sp_regex.specs.declared.escape.EscapePlace.TheVariants as escape
use Rattle.sp_regex.specs.declared.escape.EscapeStep.{EscapeStep}
use Rattle.sp_regex.specs.declared.escape.EscapeStep.TheVariants as step
use Rattle.sp_regex.specs.declared.class.ClassPlace.{ClassPlace}
use Rattle.sp_regex.specs.declared.class.ClassPlace.TheVariants.{Open, Empty, Items, After, From, Escape, EscapeTo}
use Rattle.sp_regex.specs.declared.class.ClassReader.{ClassReader}
use Rattle.sp_regex.specs.declared.class.ClassStep.{ClassStep}
use Rattle.sp_regex.specs.declared.class.ClassStep.TheVariants as answer
use Rattle.sp_regex.specs.Bytes.{class_role_of, hex_value}
use Rattle.sp_regex.specs.Escapes.{escape_step}
use Rattle.sp_regex.specs.Trees.{range_of}
use Rattle.sp_regex.specs.Room.{leaves_byte}

-- what a byte of a class leads to: more of it, its end, or nothing
pub data Outcome : Type 0 where
  goes : ClassReader → Outcome
  ends : ClassReader → Outcome
  refused : Outcome

-- the code's answer is that outcome
abbrev pub IsClassStep : ClassStep → ClassReader → Outcome → Type 0
IsClassStep answer.Goes c o = o ≡ goes c
IsClassStep answer.Ends c o = o ≡ ends c
IsClassStep answer.Refused c o = o ≡ refused

abbrev pub reader : Bool → List ByteRange → ClassPlace → ClassReader
reader n rs p = record { negated = n; ranges = rs; place = p }

abbrev pub at_place : ClassReader → ClassPlace → ClassReader
at_place c p = reader c.negated c.ranges p

abbrev pub with_range : ClassReader → ByteRange → ClassReader
with_range c r = reader c.negated (c.ranges ++ r ∷ []) c.place

-- whether some byte would belong to the class with this range
abbrev pub leaves : ClassReader → ByteRange → Bool
leaves c r = not c.negated || leaves_byte c.ranges r

abbrev pub first_step : ClassReader → ℕ → Outcome
first_step c b = if leaves c (range_of b b) then goes (at_place c (After b)) else refused

abbrev pub range_step : ClassReader → ℕ → ℕ → Outcome
range_step c f t = if nat_le f t && leaves c (range_of f t) then goes (at_place (with_range c (range_of f t)) Items) else refused

abbrev pub item_step : ClassReader → ClassByteRole → ℕ → Outcome
item_step c role.Plain b = first_step c b
item_step c role.Caret b = first_step c b
item_step c role.Backslash b = goes (at_place c (Escape escape.Start))
item_step c _ b = refused

abbrev pub open_step : ClassReader → ClassByteRole → ℕ → Outcome
open_step c role.Caret b = goes (reader true c.ranges Empty)
open_step c m b = item_step c m b

abbrev pub more_step : ClassReader → ClassByteRole → ℕ → Outcome
more_step c role.Close b = ends c
more_step c m b = item_step c m b

abbrev pub after_step : ClassReader → ℕ → ClassByteRole → ℕ → Outcome
after_step c f role.Dash b = goes (at_place c (From f))
after_step c f m b = more_step (with_range c (range_of f f)) m b

abbrev pub to_step : ClassReader → ℕ → ClassByteRole → ℕ → Outcome
to_step c f role.Plain b = range_step c f b
to_step c f role.Caret b = range_step c f b
to_step c f role.Backslash b = goes (at_place c (EscapeTo f escape.Start))
to_step c f _ b = refused

abbrev pub escaped_step : ClassReader → EscapeStep → Outcome
escaped_step c (step.Goes p) = goes (at_place c (Escape p))
escaped_step c (step.Ends b) = first_step c b
escaped_step c step.Refused = refused

-- whether a byte from `lowest` up to `lowest + 15` can end a range from f
abbrev pub can_end_with : ClassReader → ℕ → ℕ → Bool
can_end_with c f lowest = nat_le f (lowest + 15) && leaves c (range_of f (if nat_lt f lowest then lowest else f))

abbrev pub can_end_digit : ClassReader → ℕ → Option ℕ → Bool
can_end_digit c f (Some x) = can_end_with c f (16 * x)
can_end_digit c f None = false

-- whether the escape at this place can still end a range from f
abbrev pub can_end : ClassReader → ℕ → EscapePlace → Bool
can_end c f (escape.Digit high) = can_end_digit c f (hex_value high)
can_end c f _ = true

abbrev pub escaped_to_step : ClassReader → ℕ → EscapeStep → Outcome
escaped_to_step c f (step.Goes p) = if can_end c f p then goes (at_place c (EscapeTo f p)) else refused
escaped_to_step c f (step.Ends b) = range_step c f b
escaped_to_step c f step.Refused = refused

abbrev pub place_step : ClassReader → ClassPlace → ℕ → Outcome
place_step c Open b = open_step c (class_role_of b) b
place_step c Empty b = item_step c (class_role_of b) b
place_step c Items b = more_step c (class_role_of b) b
place_step c (After f) b = after_step c f (class_role_of b) b
place_step c (From f) b = to_step c f (class_role_of b) b
place_step c (Escape p) b = escaped_step c (escape_step p b)
place_step c (EscapeTo f p) b = escaped_to_step c f (escape_step p b)

-- what the next byte of a class leads to
abbrev pub class_step : ClassReader → ℕ → Outcome
class_step c b = place_step c c.place b
