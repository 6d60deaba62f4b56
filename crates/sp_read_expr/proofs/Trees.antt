-- What is read has a tree of its kind.
use Rattle.std.specs.Prelude.{Some}
use Rattle.std.proofs.Common.{◌≡◌, ℕ, List, [], ◌∷◌, drop, true, sym, ap, ◌∙◌, subst}
use Rattle.sp_ast.specs.Trees.{Tree}
use Rattle.sp_lex.specs.Lexed.{Lexed}
use Rattle.sp_lex.specs.declared.tokens.Token.{Token}
use Rattle.sp_parser.specs.declared.symbol.ActionAt.{ActionAt}
use Rattle.sp_grammar.specs.declared.language.Start.{Start}
use Rattle.sp_phrases.specs.Runs.{IsRead, IsPhrase}
use Rattle.sp_build.specs.Items.{built}
use Rattle.sp_ast.specs.Groups.{is_of}
use Rattle.sp_ast.specs.Slots.{is_formed}
use Rattle.sp_build.specs.Building.{IsBuilt}
use Rattle.sp_build.specs.Progress.{Progress, progress}
use Rattle.sp_build.specs.Starting.{group_of}
use Rattle.sp_read_expr.specs.Reading.{IsTreeRead}

-- each phrase builds a tree of its kind
abbrev EveryPhraseIsBuilt : Type 0
EveryPhraseIsBuilt =
    (start : Start) (text : List ℕ) (tokens : List Token) (m : ℕ) (actions : List ActionAt) → IsPhrase start tokens m actions
    → (t : Tree) × (is_of (group_of start) t ≡ true) × IsBuilt text tokens actions t × (is_formed t ≡ true)

-- the tree of what is read
pub tree_read : (start : Start) (lexed : Lexed) (at : ℕ) (actions : List ActionAt) (to : ℕ) (before after : Progress) (u : Tree) → EveryPhraseIsBuilt
    → before ≡ progress lexed at [] → ((first : Progress) → before ≡ progress first.lexed first.from [] → after ≡ progress first.lexed first.from actions)
    → IsRead start lexed.list at actions to → ((t : Tree) → after.stack ≡ Some (built t ∷ []) → u ≡ t) → IsTreeRead start lexed at u to
tree_read start lexed at actions to before after u each is took r tree =
    let b = each start lexed.text (drop at lexed.list) r.0 actions r.3 in
    let passed : after ≡ progress lexed at actions = took (progress lexed at []) is in
    let same : u ≡ b.0 = tree b.0 (ap (λ p. p.stack) passed ∙ b.2) in
    record {
      count = r.0;
      actions = actions;
      behind = r.1;
      longest = r.2;
      text = r.3;
      built = subst (λ t. IsBuilt lexed.text (drop at lexed.list) actions t) (sym same) b.2;
      kind = subst (λ t. is_of (group_of start) t ≡ true) (sym same) b.1;
    }
