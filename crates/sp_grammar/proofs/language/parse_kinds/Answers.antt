use Rattle.std.proofs.Common.{◌<◌, subst, sym, length, drop}
use Rattle.sp_parser.specs.Certificate.{IsStart}
use Rattle.sp_parser.specs.Sinks.{Took}
use Rattle.sp_grammar.specs.Language.{language_sets}
use Rattle.sp_grammar.proofs.Sentences.{answered}
use Rattle.sp_grammar.proofs.Starting.{ends_after, is_part}
use Rattle.sp_grammar.proofs.language.parse_kinds.Goals as goal

pub parse_from-requires-clause-nonterminal : goal.parse_from-requires-clause-nonterminal
parse_from-requires-clause-nonterminal g c = subst (λ n. n < length language_sets.height) (sym c.number.ensures) (is_part c.args.start)

pub parse_from-requires-clause-end : goal.parse_from-requires-clause-end
parse_from-requires-clause-end g c = subst (λ n. IsStart language_sets n) (sym c.number.ensures) (ends_after c.args.start)

pub returns : goal.returns
returns g c = answered c.args.start c.number.result (drop c.args.at (g.K.Kinds.kinds c.args.tokens.now)) c.args.at (Took g.S.Sink.became c.args.sink.now c.parse_from.new.sink) c.parse_from.result c.number.ensures c.parse_from.ensures
