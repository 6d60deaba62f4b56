-- The lists of the kinds that have a text of their own.
use Rattle.std.specs.Prelude.{◌≡◌, [], ◌∷◌, ◌++◌, Bool, not, slice_index, filter}
use Rattle.sp_lex.specs.Bytes.{is_letter}
use Rattle.sp_lex.specs.Signs.{is_spelled}
use Rattle.sp_lex.specs.Spellings.{spelling, signs, reserved_words}
use Rattle.sp_lex.specs.declared.kinds.TokenKind.{TokenKind}

-- The kind stands once in the two lists together, and no other kind in them has its text.
abbrev pub IsListedOnce : TokenKind → Type 0
IsListedOnce kind = filter (is_spelled (spelling kind)) (reserved_words ++ signs) ≡ kind ∷ []

-- its text begins with no letter and no _
abbrev pub is_no_word : TokenKind → Bool
is_no_word kind = not (is_letter (slice_index (spelling kind) 0))
