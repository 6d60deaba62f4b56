-- Each nonterminal with which a text begins is one of the grammar, and a text may end after it.
use Rattle.std.proofs.Common.{◌<◌, refl, length, sym, subst, lit<}
use Rattle.sp_parser.specs.Certificate.{IsStart}
use Rattle.sp_grammar.specs.declared.language.Start.{Start}
use Rattle.sp_grammar.specs.declared.language.Start.TheVariants as start
use Rattle.sp_grammar.specs.Starts.{start_number}
use Rattle.sp_grammar.specs.Language.{language_sets, language_parts}

pub ends_after : (s : Start) → IsStart language_sets (start_number s)
unfolding language_sets
ends_after start.Module = refl
ends_after start.Type = refl
ends_after start.Stmt = refl
ends_after start.Expr = refl

pub is_part : (s : Start) → start_number s < length language_sets.height
is_part start.Module = subst (λ n. 0 < n) (sym language_parts) (lit< tt)
is_part start.Type = subst (λ n. 16 < n) (sym language_parts) (lit< tt)
is_part start.Stmt = subst (λ n. 54 < n) (sym language_parts) (lit< tt)
is_part start.Expr = subst (λ n. 64 < n) (sym language_parts) (lit< tt)
