-- A text together with its tokens.
use Rattle.std.specs.Prelude.{ℕ, ◌≡◌, ◌<◌, ◌≤◌, List, length}
use Rattle.std.specs.List.{AllByRecursion}
use Rattle.std.specs.Str.{IsUtf8}
use Rattle.sp_lex.specs.Faults.{most_bytes, IsRight}
use Rattle.sp_lex.specs.Readings.{reading, whole, HasItsText, IsLongest, InOrder}
use Rattle.sp_lex.specs.declared.tokens.Token.{Token}

-- the bytes of a text, and its tokens in their order
pub record Lexed : Type 0 where
  pub text : List ℕ
  pub list : List Token

-- These are the tokens of the text: it is read as them, in this order, with nothing but white space and comments
-- round them; each is the longest at its place, has the text of its kind and no fault of its own; and the text is
-- UTF-8 with no byte 0, and not too large.
pub record IsLexed (bytes : List ℕ) (tokens : List Token) : Type 0 where
  pub read : reading bytes ≡ whole tokens
  pub longest : AllByRecursion (IsLongest bytes) tokens
  pub texts : AllByRecursion (HasItsText bytes) tokens
  pub right : AllByRecursion (IsRight bytes) tokens
  pub order : InOrder 0 tokens (length bytes)
  pub small : length bytes ≤ most_bytes
  pub utf8 : IsUtf8 bytes
  pub no_zero : AllByRecursion (λ byte. 0 < byte) bytes
