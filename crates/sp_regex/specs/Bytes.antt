-- What a byte of a text stands for, and the bytes of classes.
use Rattle.std.specs.Prelude.{ℕ, ◌+◌, ◌-◌, ◌*◌, ◌==◌, ◌&&◌, Bool, List, Option, Some, None, nat_le, if◌then◌else◌}
use Rattle.std.specs.List.{list_any}
use Rattle.sp_regex.specs.declared.bytes.ByteRange.{ByteRange}
use Rattle.sp_regex.specs.declared.bytes.ByteRole.{ByteRole}
use Rattle.sp_regex.specs.declared.bytes.ByteRole.TheVariants as role
use Rattle.sp_regex.specs.declared.bytes.ClassByteRole.{ClassByteRole}
use Rattle.sp_regex.specs.declared.bytes.ClassByteRole.TheVariants as class_role
use Rattle.sp_regex.specs.declared.bytes.Escaped.{Escaped}
use Rattle.sp_regex.specs.declared.bytes.Escaped.TheVariants as escaped

-- what a byte stands for outside classes: . [ ( ) | * + ? { \ and the metacharacters ] } / ^ $ that stand nowhere
abbrev pub role_of : ℕ → ByteRole
role_of b =
    if b == 46 then role.Dot else if b == 91 then role.ClassOpen else
    if b == 40 then role.GroupOpen else if b == 41 then role.GroupClose else
    if b == 124 then role.Bar else if b == 42 then role.Star else
    if b == 43 then role.Plus else if b == 63 then role.Question else
    if b == 123 then role.BoundsOpen else if b == 92 then role.Backslash else
    if b == 93 then role.Misplaced else if b == 125 then role.Misplaced else
    if b == 47 then role.Misplaced else if b == 94 then role.Misplaced else
    if b == 36 then role.Misplaced else role.Plain

-- what a byte stands for in a class: ^ - ] \ and / and the bytes past ASCII, which stand nowhere
abbrev pub class_role_of : ℕ → ClassByteRole
class_role_of b =
    if b == 94 then class_role.Caret else if b == 45 then class_role.Dash else
    if b == 93 then class_role.Close else if b == 92 then class_role.Backslash else
    if b == 47 then class_role.Misplaced else
    if nat_le b 127 then class_role.Plain else class_role.Misplaced

abbrev pub role_escaped : ByteRole → ℕ → Escaped
role_escaped role.Plain b = escaped.Misplaced
role_escaped _ b = escaped.Byte b

-- what a byte behind a backslash makes: n, r, t, x, a quotation mark, a dash or a metacharacter
abbrev pub escaped_of : ℕ → Escaped
escaped_of b =
    if b == 110 then escaped.Byte 10 else if b == 114 then escaped.Byte 13 else
    if b == 116 then escaped.Byte 9 else if b == 120 then escaped.Hex else
    if b == 34 then escaped.Byte b else if b == 45 then escaped.Byte b else role_escaped (role_of b) b

-- the value of a hexadecimal digit, in either case
abbrev pub hex_value : ℕ → Option ℕ
hex_value b =
    if nat_le 48 b && nat_le b 57 then Some (b - 48) else
    if nat_le 97 b && nat_le b 102 then Some (b - 97 + 10) else
    if nat_le 65 b && nat_le b 70 then Some (b - 65 + 10) else None

abbrev pub hex_sum : Option ℕ → Option ℕ → Option ℕ
hex_sum (Some x) (Some y) = Some (16 * x + y)
hex_sum _ _ = None

-- the byte that two hexadecimal digits name
abbrev pub hex_value_of_two : ℕ → ℕ → Option ℕ
hex_value_of_two high low = hex_sum (hex_value high) (hex_value low)

-- the value of a decimal digit
abbrev pub decimal_value : ℕ → Option ℕ
decimal_value b = if nat_le 48 b && nat_le b 57 then Some (b - 48) else None

-- whether a byte is in a range
abbrev pub is_within : ℕ → ByteRange → Bool
is_within b r = nat_le r.from b && nat_le b r.to

-- whether a byte is in one of the ranges
abbrev pub is_covered : List ByteRange → ℕ → Bool
is_covered rs b = list_any (is_within b) rs
