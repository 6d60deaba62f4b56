-- Trees that are read from a place on.
use Rattle.std.specs.Prelude.{ℕ, ◌≡◌, ◌+◌, List, drop, true}
use Rattle.sp_ast.specs.Trees.{Tree}
use Rattle.sp_lex.specs.Lexed.{Lexed}
use Rattle.sp_parser.specs.declared.symbol.ActionAt.{ActionAt}
use Rattle.sp_grammar.specs.declared.language.Start.{Start}
use Rattle.sp_phrases.specs.Runs.{IsLongestRun, IsPhrase}
use Rattle.sp_ast.specs.Groups.{is_of}
use Rattle.sp_build.specs.Building.{IsBuilt}
use Rattle.sp_build.specs.Starting.{group_of}

-- The longest run of tokens from a place on that begins a text of this kind is such a text, this is its tree, and that is
-- the place behind it.
pub record IsTreeRead (start : Start) (lexed : Lexed) (at : ℕ) (t : Tree) (to : ℕ) : Type 0 where
  -- the number of tokens, and the actions of their derivation
  pub count : ℕ
  pub actions : List ActionAt
  pub behind : to ≡ at + count
  pub longest : IsLongestRun start (drop at lexed.list) count
  pub text : IsPhrase start (drop at lexed.list) count actions
  pub built : IsBuilt lexed.text (drop at lexed.list) actions t
  pub kind : is_of (group_of start) t ≡ true
