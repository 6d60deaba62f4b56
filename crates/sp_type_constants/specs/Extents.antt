-- How large the value of a constant may be: how many parts it has where it is written out, and how many stand inside one another.
use Rattle.std.specs.Prelude.{ℕ}

-- The most parts of the value of a constant: constants can build towers of values by name, and whatever is compared or copied
-- has to stay short.
abbrev pub most_parts : ℕ
most_parts = 1048576

-- The most levels of the value of a constant, for what walks into values calls itself once a level.
abbrev pub most_levels : ℕ
most_levels = 1000
