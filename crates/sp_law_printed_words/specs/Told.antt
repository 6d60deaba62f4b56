-- The words that tokens tell.
use Rattle.std.specs.Prelude.{ℕ, ◌≡◌, List, true}
use Rattle.sp_lex.specs.declared.kinds.TokenKind.{TokenKind}
use Rattle.sp_literals.specs.Values.{IsName}
use Rattle.sp_print.specs.Words.{Word, fixed, name, kind_of}
use Rattle.sp_law_printed_words.specs.Read.{IsWorth}
use Rattle.sp_law_printed_words.specs.Sound.{is_fixed}

-- the kind of token that tells a word; a name is told by an ID or by the word `skip`
abbrev pub IsKindFor : Word → TokenKind → Type 0
IsKindFor (fixed kind) its = (its ≡ kind) × (is_fixed kind ≡ true)
IsKindFor (name x) its = IsName its
IsKindFor w its = its ≡ kind_of w

-- a token of a kind and with these bytes tells the word
abbrev pub IsTold : Word → TokenKind → List ℕ → Type 0
IsTold w its all = IsKindFor w its × IsWorth w all
