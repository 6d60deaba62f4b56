use Rattle.std.proofs.Common.{subst, drop, ◌∙◌}
use Rattle.sp_parser.specs.declared.outcome.Outcome.TheVariants.{Refused}
use Rattle.sp_parser.specs.Outcome.{IsParsedWhole}
use Rattle.sp_parser.specs.Sinks.{Passes}
use Rattle.sp_parser.proofs.Longest.{rest_is, phrase_whole, phrase_again, refused_whole, refused_again}
use Rattle.sp_parser.proofs.entry.parse_from.Goals as goal

pub returns-in-Phrase : goal.returns-in-Phrase
returns-in-Phrase g c =
    phrase_whole g.G.Grammar.table c.args.nonterminal (g.K.Kinds.kinds c.part-rest.result) (drop c.args.at (g.K.Kinds.kinds c.args.tokens.now)) c.args.at c.in-Phrase.n g.S.Sink.became c.args.sink.now c.parse.new.sink _ c.in-Phrase.is (rest_is _ _ c.count.result c.args.at c.count.ensures c.part-rest.ensures) c.in_ok-n.ensures

pub part-requires-clause-within : goal.part-requires-clause-within
part-requires-clause-within g c =
    let whole : IsParsedWhole g.G.Grammar.table c.args.nonterminal (g.K.Kinds.kinds c.part-rest.result) (Passes g.S.Sink.became c.args.sink.now c.parse.new.sink) (Refused c.in-Refused.n) = subst (λ o. IsParsedWhole g.G.Grammar.table c.args.nonterminal (g.K.Kinds.kinds c.part-rest.result) (Passes g.S.Sink.became c.args.sink.now c.parse.new.sink) o) c.in-Refused.is c.in_ok-n.ensures in
    whole.0.within

pub returns-in-Phrase-2 : goal.returns-in-Phrase-2
returns-in-Phrase-2 g c =
    phrase_again g.G.Grammar.table c.args.nonterminal (g.K.Kinds.kinds c.part-rest.result) (drop c.args.at (g.K.Kinds.kinds c.args.tokens.now)) (g.K.Kinds.kinds c.part.result) c.args.at c.in-Refused.n c.in-Phrase-2.field-0 g.S.Sink.became c.args.sink.now c.parse.new.sink c.clear.new.self c.parse-in-Refused.new.sink _ _ c.in-Refused.is c.in-Phrase-2.is (rest_is _ _ c.count.result c.args.at c.count.ensures c.part-rest.ensures) c.part.ensures c.in_ok-n.ensures c.clear.ensures c.in_ok-parse-in-Refused.ensures

pub returns-then-n-count : goal.returns-then-n-count
returns-then-n-count g c =
    refused_whole g.G.Grammar.table c.args.nonterminal (g.K.Kinds.kinds c.part-rest.result) (drop c.args.at (g.K.Kinds.kinds c.args.tokens.now)) c.args.at c.in-Refused.n _ _ c.in-Refused.is (rest_is _ _ c.count.result c.args.at c.count.ensures c.part-rest.ensures) (c.if-n-count.true ∙ c.count-in-Refused.ensures) c.in_ok-n.ensures

pub returns-in-Refused-2 : goal.returns-in-Refused-2
returns-in-Refused-2 g c =
    refused_again g.G.Grammar.table c.args.nonterminal (g.K.Kinds.kinds c.part-rest.result) (drop c.args.at (g.K.Kinds.kinds c.args.tokens.now)) (g.K.Kinds.kinds c.part.result) c.args.at c.in-Refused.n c.in-Refused-2.field-0 _ _ _ _ c.in-Refused.is c.in-Refused-2.is (rest_is _ _ c.count.result c.args.at c.count.ensures c.part-rest.ensures) c.part.ensures c.in_ok-n.ensures c.in_ok-parse-in-Refused.ensures
