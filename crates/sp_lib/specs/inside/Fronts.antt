-- The front of bytes that is text in a charset.
use Rattle.std.specs.Prelude.{◌≡◌, ℕ, ◌≤◌, List, ◌∷◌, ◌++◌, length, take, drop}
use Rattle.sp_methods.specs.Decoding.{character_in, characters, are_whole}

-- w is the front of x that is whole characters, and with the byte behind it, where there is one, none begins
pub record IsFront (charset : ℕ) (x w : List ℕ) : Type 0 where
  pub short : length w ≤ length x
  pub is : w ≡ take (length w) x
  pub reads : (fill : List ℕ) → characters (character_in charset) fill 0 x ≡ w ++ characters (character_in charset) fill 0 (drop (length w) x)
  pub whole : are_whole (character_in charset) 0 x ≡ are_whole (character_in charset) 0 (drop (length w) x)
  pub stray : (b : ℕ) (rest : List ℕ) → drop (length w) x ≡ b ∷ rest → character_in charset (b ∷ rest) ≡ 0
