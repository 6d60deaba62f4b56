-- Lines and columns of a text. A line ends behind a line feed, and with nothing else.
use Rattle.std.specs.Prelude.{ℕ, List, Bool, ◌==◌, ◌+◌, take, count_by, reverse}
use Rattle.std.specs.List.{position_or_len}

abbrev pub is_line_feed : ℕ → Bool
is_line_feed byte = byte == 10

-- the line of a place, from 1: one more than the line feeds before it
abbrev pub line_at : List ℕ → ℕ → ℕ
line_at source at = count_by is_line_feed (take at source) + 1

-- the column of a place, from 1: one more than the bytes since the last line feed before it
abbrev pub column_at : List ℕ → ℕ → ℕ
column_at source at = position_or_len is_line_feed (reverse (take at source)) + 1
