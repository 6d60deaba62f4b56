-- Where the next token of a text begins: behind white space and comments.
use Rattle.std.specs.Prelude.{ℕ, ◌+◌, ◌==◌, Bool, false, ◌||◌, not, if◌then◌else◌, nat_le, List, [], ◌∷◌, drop}
use Rattle.sp_base.specs.declared.places.Span.{Span}

-- white space: a space, a tab, a carriage return or a line feed
abbrev pub is_white : ℕ → Bool
is_white byte = byte == 32 || byte == 9 || byte == 13 || byte == 10

-- whether a byte belongs to white space or to a comment, inside a comment or not
abbrev pub is_blank : Bool → ℕ → Bool
is_blank comment byte = comment || (is_white byte || byte == 35)

-- whether a comment goes on behind it: one begins with a #, and ends with its line
abbrev pub goes_on : Bool → ℕ → Bool
goes_on comment byte = if comment then not (byte == 10) else byte == 35

-- the place of the first other byte of a text that begins at a place, or of its end
abbrev pub next_in : Bool → ℕ → List ℕ → ℕ
next_in comment at [] = at
next_in comment at (byte ∷ text) = if is_blank comment byte then next_in (goes_on comment byte) (at + 1) text else at

-- where the next token begins, from a place between tokens on
abbrev pub next_token : List ℕ → ℕ → ℕ
next_token text at = next_in false at (drop at text)

-- A number as 32 bits hold it: the greatest that they hold where it is larger. No text and no list of modules is so long.
abbrev pub saturated : ℕ → ℕ
saturated n = if nat_le n 4294967295 then n else 4294967295

-- a token of two bytes at a place: the word `if`, and the arrow
abbrev pub two_bytes : ℕ → Span
two_bytes at = record { from = saturated at; to = saturated (at + 2) }
