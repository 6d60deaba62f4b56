-- What is ahead at a place of the made input.
use Rattle.std.specs.Prelude.{ℕ, ◌+◌, ◌-◌, ◌≤◌, ◌<◌, ◌^◌, List, ◌++◌}
use Rattle.sp_generator.specs.declared.pieces.Ahead.{Ahead}
use Rattle.sp_generator.specs.Input.{rising, records}

-- the bytes that are left of a record, and the records behind it
abbrev pub bytes_of : Ahead → List ℕ
bytes_of a = rising a.value a.left ++ records a.next (a.end - a.next)

-- its numbers don't overflow
pub record IsSmall (a : Ahead) : Type 0 where
  pub value : a.value + a.left < 2 ^ 34
  pub end : a.end ≤ 2 ^ 32
