-- A few lines that can be read again, with their text and their tokens.
use Rattle.std.proofs.Common.{◌≡◌, List, [], ◌∷◌, refl, inl, inr, arith}
use Rattle.std.specs.Prelude.{codes}
use Rattle.std.specs.List.{AllByRecursion}
use Rattle.std.specs.Fmt.{digits}
use Rattle.sp_lex.proofs.Valid.{byte_utf8}
use Rattle.sp_lex.specs.Elements.{element_at, literal_at}
use Rattle.sp_lex.specs.Literals.{char_len, literal_len}
use Rattle.sp_lex.specs.Readings.{token_at}
use Rattle.sp_lex.specs.Signs.{word_kind}
use Rattle.sp_words.specs.declared.words.HookName.TheVariants as hook
use Rattle.sp_words.specs.declared.keywords.Keyword.TheVariants as keyword
use Rattle.sp_words.specs.declared.punctuation.Punctuation.TheVariants as punctuation
use Rattle.sp_lex.specs.declared.kinds.TokenKind.TheVariants as token
use Rattle.sp_print.specs.Words.{Word, fixed, name, number, bytes, regex}
use Rattle.sp_regex.specs.Syntax.{alternatives, pieces, once, plain_byte, no_piece, no_alternative}
use Rattle.sp_law_printed_words.specs.Read.{text_of}
use Rattle.sp_law_printed_words.specs.Sound.{AreSound, IsSound, IsRegexWord, IsNameText}
use Rattle.sp_law_printed_words.proofs.Lines.{tokens_in}

abbrev header : List Word
header = fixed (token.Keyword keyword.Module) ∷ name (codes "M") ∷ fixed (token.Punctuation punctuation.Semicolon) ∷ []

-- a path to a hook, a division, and a regular expression, with the word skip as a name
abbrev body : List Word
body =
    fixed (token.Keyword keyword.On) ∷ name (codes "U") ∷ fixed (token.Punctuation punctuation.ColonColon) ∷ fixed (token.Hook hook.Init) ∷ name (codes "skip")
    ∷ fixed (token.Punctuation punctuation.Equal) ∷ number 12 ∷ fixed (token.Punctuation punctuation.Slash) ∷ fixed (token.Punctuation punctuation.LeftParen) ∷ regex (codes "a") ∷ fixed (token.Punctuation punctuation.Comma) ∷ bytes (1 ∷ 34 ∷ []) ∷ []

name_m : IsNameText (codes "M")
unfolding word_kind
name_m = (refl, (refl, tt), inl refl)

name_u : IsNameText (codes "U")
unfolding word_kind
name_u = (refl, (refl, tt), inl refl)

name_skip : IsNameText (codes "skip")
unfolding word_kind
name_skip = (refl, (refl, (refl, (refl, (refl, tt)))), inr refl)

regex_a : IsRegexWord (codes "a")
unfolding element_at literal_at literal_len char_len
regex_a = (refl, λ wrong. wrong (_, alternatives (pieces (once (plain_byte refl)) no_piece) no_alternative), byte_utf8 97 (omega arith))

header_sound : AllByRecursion IsSound header
unfolding word_kind
header_sound = (refl, (name_m, (refl, tt)))

body_sound : AllByRecursion IsSound body
unfolding word_kind
body_sound = (refl, (name_u, (refl, (refl, (name_skip, (refl, (omega arith, (refl, (refl, (regex_a, (refl, ((omega arith, (omega arith, tt)), tt))))))))))))

sound : AreSound (header ∷ body ∷ [])
unfolding word_kind
sound = record { words = (header_sound, (body_sound, tt)); places = ((refl, (refl, (refl, tt))), ((refl, (refl, (refl, (refl, (refl, (refl, (refl, (refl, (refl, (refl, (refl, (refl, tt)))))))))))), tt)) }

printed : text_of (header ∷ body ∷ []) ≡ codes "module M ;\non U::%init skip = 12 / ( /a/ , b\"\\x01\\\"\"\n"
unfolding digits
printed = refl

tokens : tokens_in 0 (header ∷ []) ≡ token_at (token.Keyword keyword.Module) 0 6 ∷ token_at token.Id 7 1 ∷ token_at (token.Punctuation punctuation.Semicolon) 9 1 ∷ []
unfolding word_kind
tokens = refl
