-- A text that the lexer and the reader take for a module.
use Rattle.std.specs.Prelude.{ℕ, List}
use Rattle.sp_base.specs.declared.kinds.MKind.{MKind}
use Rattle.sp_base.specs.declared.kinds.MKind.TheVariants as module_kind
use Rattle.sp_base.specs.declared.places.Span.{Span}
use Rattle.sp_lex.specs.Faults.{IsFault}
use Rattle.sp_lex.specs.Lexed.{IsLexed}
use Rattle.sp_lex.specs.declared.tokens.Token.{Token}
use Rattle.sp_ast.specs.Trees.{Tree}
use Rattle.sp_read_unit.specs.Modules.{IsModuleTree}

-- nothing is wrong with the text, and its tokens are a module with this tree
abbrev pub IsReadAs : List ℕ → Tree → Type 0
IsReadAs text m =
    (tokens : List Token) × IsLexed text tokens × IsModuleTree (record { text = text; list = tokens }) m
    × ((span : Span) (kind : MKind) → ¬ IsFault text span kind)

-- one of its tokens is nested too deep
abbrev pub IsTooDeep : List ℕ → Type 0
IsTooDeep text = (span : Span) × IsFault text span module_kind.TooDeep
