-- The terminal of the grammar that each kind of token is.
use Rattle.std.specs.Prelude.{ℕ, List, map, Option, Some, None}
use Rattle.sp_lex.specs.declared.kinds.Absent.{Absent}
use Rattle.sp_lex.specs.declared.kinds.Absent.TheVariants as absent
use Rattle.sp_lex.specs.declared.kinds.TokenKind.{TokenKind}
use Rattle.sp_lex.specs.declared.kinds.TokenKind.TheVariants as token
use Rattle.sp_lex.specs.declared.tokens.Token.{Token}
use Rattle.sp_grammar.specs.declared.terminals.Terminal.{Terminal}
use Rattle.sp_grammar.specs.declared.terminals.Terminal.TheVariants as terminal
use Rattle.sp_grammar.specs.Terminals.{terminal_number}

-- of the words out of profile only `skip` stands in a production: it names a member
abbrev pub absent_terminal : Absent → Option Terminal
absent_terminal absent.Skip = Some terminal.Skip
absent_terminal _ = None

-- The terminal of a kind of token; none for a word that no production has. The words of integer types are one terminal, and
-- so are the attributes of fields, and the hooks.
abbrev pub terminal_of : TokenKind → Option Terminal
terminal_of token.Id = Some terminal.Id
terminal_of token.Number = Some terminal.Number
terminal_of token.String = Some terminal.String
terminal_of token.Bytes = Some terminal.Bytes
terminal_of token.Regex = Some terminal.Regex
terminal_of (token.Keyword k) = Some (terminal.Keyword k)
terminal_of (token.Integer i) = Some terminal.IntWord
terminal_of (token.Punctuation m) = Some (terminal.Punctuation m)
terminal_of (token.Attribute a) = Some terminal.Attribute
terminal_of token.Priority = Some terminal.Priority
terminal_of (token.Property p) = Some (terminal.Property p)
terminal_of (token.Hook h) = Some terminal.Hook
terminal_of (token.Absent a) = absent_terminal a

-- the number of the terminal, or one that no production has
abbrev pub number_of : Option Terminal → ℕ
number_of (Some t) = terminal_number t
number_of None = 100

-- the number of a token's kind in the table
abbrev pub token_number : Token → ℕ
token_number t = number_of (terminal_of t.kind)

-- the tokens as the table sees them
abbrev pub numbers_of : List Token → List ℕ
numbers_of tokens = map token_number tokens
