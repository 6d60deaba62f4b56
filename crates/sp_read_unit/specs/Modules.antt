-- Tokens that are the text of a module, and the refusal of those that are none.
use Rattle.std.specs.Prelude.{ℕ, ◌≡◌, List, drop, true}
use Rattle.sp_base.specs.declared.kinds.MKind.{MKind}
use Rattle.sp_base.specs.declared.places.Span.{Span}
use Rattle.sp_lex.specs.declared.tokens.Token.{Token}
use Rattle.sp_parser.specs.declared.symbol.ActionAt.{ActionAt}
use Rattle.sp_grammar.specs.declared.language.Start.TheVariants.{Module}
use Rattle.sp_grammar.specs.Sentences.{IsSentence}
use Rattle.sp_ast.specs.Trees.{Tree}
use Rattle.sp_lex.specs.Lexed.{Lexed}
use Rattle.sp_build.specs.Building.{IsBuilt}
use Rattle.sp_ast.specs.Groups.{is_of}
use Rattle.sp_build.specs.Starting.{group_of}
use Rattle.sp_phrases.specs.Kinds.{numbers_of}
use Rattle.sp_phrases.specs.Runs.{IsLongestRun, refused_at, refused_with}

-- all these tokens are the text of a module, and the grammar reads them passing these actions
abbrev pub IsModule : List Token → List ActionAt → Type 0
IsModule tokens actions = IsSentence Module (numbers_of tokens) actions

-- all these tokens are the text of a module
abbrev pub IsModuleText : List Token → Type 0
IsModuleText tokens = (actions : List ActionAt) × IsModule tokens actions

-- the tokens of a text are that of a module, and this is its tree
abbrev pub IsModuleTree : Lexed → Tree → Type 0
IsModuleTree lexed t =
    (actions : List ActionAt) × IsModule lexed.list actions × IsBuilt lexed.text lexed.list actions t × (is_of (group_of Module) t ≡ true)

-- The tokens are no module's text, and are refused behind the longest run of them that begins one: at the next token,
-- or at the end of the source.
abbrev pub IsModuleRefused : List Token → ℕ → Span → MKind → Type 0
IsModuleRefused tokens end span kind =
    (m : ℕ) × IsLongestRun Module tokens m × (¬ IsModuleText tokens)
    × (span ≡ refused_at end (drop m tokens)) × (kind ≡ refused_with (drop m tokens))
