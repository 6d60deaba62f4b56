-- The classes of bytes that tokens are made of.
use Rattle.std.specs.Prelude.{ℕ, Bool, ◌==◌, ◌||◌, not}
use Rattle.std.specs.Char.{is_ascii_alphabetic, is_ascii_digit}

-- white space: a space, a tab, a carriage return or a line feed
abbrev pub is_white : ℕ → Bool
is_white byte = byte == 32 || byte == 9 || byte == 13 || byte == 10

-- what is before the line's end
abbrev pub is_in_line : ℕ → Bool
is_in_line byte = not (byte == 10)

-- what a name begins with
abbrev pub is_letter : ℕ → Bool
is_letter byte = is_ascii_alphabetic byte || byte == 95

-- what a name goes on with
abbrev pub is_word : ℕ → Bool
is_word byte = is_letter byte || is_ascii_digit byte
