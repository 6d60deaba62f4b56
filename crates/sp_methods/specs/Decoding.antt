-- The text that bytes are in a charset.
use Rattle.std.specs.Prelude.{ℕ, zero, suc, ◌-◌, Bool, true, false, not, ◌&&◌, ◌||◌, ◌==◌, nat_lt, List, [], ◌∷◌, ◌++◌, Result, Ok, Err, is_some, if◌then◌else◌}
use Rattle.std.specs.Str.Lossy.{replacement_bytes}
use Rattle.bstr.specs.Utf8.{decoded}
use Rattle.sp_base.specs.declared.kinds.PKind.{PKind}
use Rattle.sp_base.specs.declared.kinds.PKind.TheVariants.{BadConversion}

-- how many bytes the character has with which the bytes begin in UTF-8 (the Unicode Standard, table 3-7), and 0 where none
-- begins there
abbrev pub utf8_character : List ℕ → ℕ
utf8_character bs = if is_some (decoded bs).char then (decoded bs).size else 0

-- the same in ASCII
abbrev pub ascii_character : List ℕ → ℕ
ascii_character [] = 0
ascii_character (b ∷ bs) = if nat_lt b 128 then 1 else 0

module _ (character : List ℕ → ℕ) where
  -- the bytes behind the first `inside`, which belong to a character: whole characters from the left, and `fill` in place of
  -- each byte with which none begins
  abbrev pub characters : List ℕ → ℕ → List ℕ → List ℕ
  characters fill inside [] = []
  characters fill (suc inside) (b ∷ bs) = b ∷ characters fill inside bs
  characters fill zero (b ∷ bs) = if character (b ∷ bs) == 0
      then fill ++ characters fill zero bs
      else b ∷ characters fill (character (b ∷ bs) - 1) bs

  -- whether each byte behind the first `inside` belongs to a whole character
  abbrev pub are_whole : ℕ → List ℕ → Bool
  are_whole inside [] = true
  are_whole (suc inside) (b ∷ bs) = are_whole inside bs
  are_whole zero (b ∷ bs) = if character (b ∷ bs) == 0 then false else are_whole (character (b ∷ bs) - 1) bs

-- the charsets: 0 is UTF-8 and 1 is ASCII
abbrev pub is_charset : ℕ → Bool
is_charset charset = nat_lt charset 2

abbrev pub character_in : ℕ → List ℕ → ℕ
character_in charset bs = if charset == 0 then utf8_character bs else ascii_character bs

-- what becomes of a byte with which no character begins: 0 drops it, 1 puts U+FFFD in its place, 2 refuses the bytes
abbrev pub is_strategy : ℕ → Bool
is_strategy strategy = nat_lt strategy 3

abbrev pub fill_of : ℕ → List ℕ
fill_of strategy = if strategy == 1 then replacement_bytes else []

abbrev pub is_accepted : ℕ → ℕ → List ℕ → Bool
is_accepted charset strategy bs = not (strategy == 2) || are_whole (character_in charset) 0 bs

-- the UTF-8 bytes of the text
abbrev pub decode : List ℕ → ℕ → ℕ → Result (List ℕ) PKind
decode x charset strategy = if is_charset charset && (is_strategy strategy && is_accepted charset strategy x)
    then Ok (characters (character_in charset) (fill_of strategy) 0 x)
    else Err BadConversion
