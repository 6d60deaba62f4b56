-- The number of each token is a kind of token of the table.
use Rattle.std.specs.Prelude.{Option, Some, None}
use Rattle.std.proofs.Common.{◌<◌, List, [], ◌∷◌, lit<}
use Rattle.sp_lex.specs.declared.tokens.Token.{Token}
use Rattle.sp_parser.specs.Grammar.{AreKinds, SECOND}
use Rattle.sp_grammar.specs.declared.terminals.Terminal.{Terminal}
use Rattle.sp_grammar.specs.TerminalKinds.{is_kind}
use Rattle.sp_phrases.specs.Kinds.{terminal_of, number_of, numbers_of}

number_is_kind : (t : Option Terminal) → number_of t < SECOND
number_is_kind (Some t) = is_kind t
number_is_kind None = lit< tt

pub tokens_are_kinds : (tokens : List Token) → AreKinds (numbers_of tokens)
tokens_are_kinds [] = tt
tokens_are_kinds (t ∷ tokens) = (number_is_kind (terminal_of t.kind), tokens_are_kinds tokens)
