-- Where trees begin in the text.
use Rattle.std.specs.Prelude.{◌≡◌, ℕ, Bool, true, false, ◌&&◌, ◌||◌, ◌==◌, List, [], ◌∷◌, IsTrue, refl}
use Rattle.sp_lex.specs.declared.kinds.TokenKind.TheVariants as kind_is
use Rattle.sp_lex.specs.declared.tokens.Token.{Token}
use Rattle.sp_lex.specs.Lexed.{Lexed}
use Rattle.sp_parser.specs.declared.symbol.ActionAt.{ActionAt}
use Rattle.sp_grammar.specs.declared.language.Start.{Start}
use Rattle.sp_phrases.specs.Runs.{IsPhrase}
use Rattle.sp_ast.specs.Trees.{Tree, Trees, absent, row, node, none, more}
use Rattle.sp_ast.specs.declared.forms.Form.TheVariants as form_is
use Rattle.sp_build.specs.Building.{IsBuilt}
use Rattle.sp_read_unit.specs.Modules.{IsModuleTree}

-- whether one of some tokens begins at a place of the text
abbrev pub begins_token : List Token → ℕ → Bool
begins_token [] place = false
begins_token (t ∷ ts) place = t.span.from == place || begins_token ts place

-- whether each node of a tree begins where a token does; what is left out and what stands in a row have no place of their own
abbrev mutual
  pub begins_at : List Token → Tree → Bool
  begins_at tokens absent = true
  begins_at tokens (row ts) = all_begin_at tokens ts
  begins_at tokens (node form span ts) = begins_token tokens span.from && all_begin_at tokens ts

  pub all_begin_at : List Token → Trees → Bool
  all_begin_at tokens none = true
  all_begin_at tokens (more t ts) = begins_at tokens t && all_begin_at tokens ts

-- The tree that is built of a run of tokens, of whatever kind it is: each of its nodes begins where a token begins.
abbrev pub TreesBeginAtTokens : Type 0
TreesBeginAtTokens =
    (start : Start) (text : List ℕ) (tokens : List Token) (m : ℕ) (actions : List ActionAt) (t : Tree)
    → IsPhrase start tokens m actions → IsBuilt text tokens actions t → IsTrue (begins_at tokens t)

-- The same of all tokens of a text that are a module.
abbrev pub ModulesBeginAtTokens : Type 0
ModulesBeginAtTokens = (lexed : Lexed) (t : Tree) → IsModuleTree lexed t → IsTrue (begins_at lexed.list t)

-- a name at 3, behind a token at 0, with a name at 4, where no token is
abbrev here : ℕ → Token
here at = record { kind = kind_is.Id; span = record { from = at; to = at } }

abbrev name : ℕ → Trees → Tree
name at ts = node (form_is.Name []) (record { from = at; to = 9 }) ts

name_begins : begins_at (here 0 ∷ here 3 ∷ []) (row (more absent (more (name 3 none) none))) ≡ true
name_begins = refl

name_inside : begins_at (here 0 ∷ here 3 ∷ []) (name 0 (more (name 4 none) none)) ≡ false
name_inside = refl
