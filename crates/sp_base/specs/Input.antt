-- An input is a list of bytes with a close.

-- whether more bytes may come after those that are there
pub data Close : Type 0 where
  held_open : Close
  ended : Close
