-- The bytes of an input from a place on.
use Rattle.std.specs.Prelude.{ℕ, ◌+◌, ◌-◌, ◌^◌, List, length, take, drop}

-- the place of the first byte that is held, and the bytes from there on
pub record Held : Type 0 where
  pub base : ℕ
  pub bytes : List ℕ

-- the place behind the last byte
abbrev pub end_of : Held → ℕ
end_of w = w.base + length w.bytes

-- no input is longer
abbrev pub most : ℕ
most = 2 ^ 62

-- the bytes from one place up to another
abbrev pub between : Held → ℕ → ℕ → List ℕ
between w from to = take (to - from) (drop (from - w.base) w.bytes)

-- the window from a place on
abbrev pub trimmed : ℕ → Held → Held
trimmed to w = record { base = to; bytes = drop (to - w.base) w.bytes }
