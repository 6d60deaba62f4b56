use Rattle.std.proofs.Common.{sym, ◌≡◌, ◌≤◌, ◌<◌, subst, length, IfNone, IfSome}
use Rattle.sp_parser.specs.Grammar.{productions_of, predict, right}
use Rattle.sp_grammar.specs.Language.{language_is, language_parts}
use Rattle.sp_grammar.proofs.language.LanguageGrammar.predict.Goals as goal

pub choose_in-requires-clause-nonterminal : goal.choose_in-requires-clause-nonterminal
choose_in-requires-clause-nonterminal c = subst (λ n. c.args.nonterminal < n) language_parts c.requires.nonterminal

pub returns-clause-none : goal.returns-clause-none
returns-clause-none c = subst (λ t. IfNone c.choose_in.result (length (productions_of t c.args.nonterminal) ≤ predict t c.args.nonterminal c.args.kind)) (sym language_is) c.choose_in.ensures.none

pub returns-clause-some : goal.returns-clause-some
returns-clause-some c = subst (λ t. IfSome c.choose_in.result (λ s. (predict t c.args.nonterminal c.args.kind < length (productions_of t c.args.nonterminal)) × (s.now ≡ right t c.args.nonterminal (predict t c.args.nonterminal c.args.kind)))) (sym language_is) c.choose_in.ensures.some
