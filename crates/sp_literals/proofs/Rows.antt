-- The values of a few literals.
use Rattle.std.proofs.Common.{◌≡◌, [], ◌∷◌, refl}
use Rattle.std.specs.Prelude.{codes}
use Rattle.sp_literals.specs.Values.{char_value, char_size, string_value, bytes_value, regex_text}

-- "" and "ab"
empty : string_value (34 ∷ 34 ∷ []) ≡ []
unfolding char_value char_size
empty = refl

plain : string_value (34 ∷ 97 ∷ 98 ∷ 34 ∷ []) ≡ codes "ab"
unfolding char_value char_size
plain = refl

-- "\n\r\t\\\"" are a line feed, a carriage return, a tab, a backslash and a quote
short : string_value (34 ∷ 92 ∷ 110 ∷ 92 ∷ 114 ∷ 92 ∷ 116 ∷ 92 ∷ 92 ∷ 92 ∷ 34 ∷ 34 ∷ []) ≡ 10 ∷ 13 ∷ 9 ∷ 92 ∷ 34 ∷ []
unfolding char_value char_size
short = refl

-- b"\xFf\x0ax" has the bytes 255 and 10 and an x
digits : bytes_value (98 ∷ 34 ∷ 92 ∷ 120 ∷ 70 ∷ 102 ∷ 92 ∷ 120 ∷ 48 ∷ 97 ∷ 120 ∷ 34 ∷ []) ≡ 255 ∷ 10 ∷ 120 ∷ []
unfolding char_value char_size
digits = refl

-- "é" is its two bytes
past_ascii : string_value (34 ∷ 195 ∷ 169 ∷ 34 ∷ []) ≡ 195 ∷ 169 ∷ []
unfolding char_value char_size
past_ascii = refl

-- /a\/b/ as it is written
regex : regex_text (47 ∷ 97 ∷ 92 ∷ 47 ∷ 98 ∷ 47 ∷ []) ≡ codes "a\\/b"
regex = refl
