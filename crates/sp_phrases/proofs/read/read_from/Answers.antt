use Rattle.std.proofs.Common.{◌≡◌, ◌≤◌, ◌+◌, length, drop, ap, ◌∙◌, arith}
use Rattle.sp_grammar.specs.Sentences.{IsParsed}
use Rattle.sp_parser.specs.Sinks.{Took}
use Rattle.sp_parser.specs.declared.outcome.Outcome.TheVariants.{Phrase, Refused}
use Rattle.sp_lex.specs.declared.tokens.ReadFault.TheVariants as fault
use Rattle.sp_phrases.specs.Kinds.{numbers_of}
use Rattle.sp_phrases.specs.Runs.{refused_at, refused_with}
use Rattle.sp_phrases.proofs.Longest.{count_in_order, run_within, run_of, text_of, none_of, parsed_as, refused_of, inside_of}
use Rattle.sp_phrases.proofs.read.read_from.Goals as goal

pub overflow_cast-result : goal.overflow_cast-result
overflow_cast-result g c =
    let p : IsParsed c.args.start (drop c.args.at (numbers_of c.as_slice.result.now)) c.args.at (Took g.S.Sink.became c.args.sink.now c.parse_kinds.new.sink) (Phrase c.in-Phrase.to) = parsed_as c.args.start _ c.args.at _ _ _ c.in-Phrase.is c.in_ok-to.ensures in
    let place : c.in-Phrase.to ≡ c.args.at + p.0 = p.1 in
    let within : c.args.at + p.0 ≤ length c.args.tokens.now.list = run_within c.args.start c.args.tokens.now.list c.args.at p.0 c.requires.at (run_of c.args.start c.args.tokens.now.list (numbers_of c.as_slice.result.now) c.args.at p.0 (ap numbers_of c.as_slice.ensures) p.2) in
    let fewer : 0 + length c.args.tokens.now.list ≤ length c.args.tokens.now.text = count_in_order 0 c.args.tokens.now.list (length c.args.tokens.now.text) c.are_of_their_text.ensures.order in
    let small : length c.args.tokens.now.text ≤ 1048576 = c.are_of_their_text.ensures.small in
    omega arith

pub returns-in-Phrase-clause-read : goal.returns-in-Phrase-clause-read
returns-in-Phrase-clause-read g c =
    let p : IsParsed c.args.start (drop c.args.at (numbers_of c.as_slice.result.now)) c.args.at (Took g.S.Sink.became c.args.sink.now c.parse_kinds.new.sink) (Phrase c.in-Phrase.to) = parsed_as c.args.start _ c.args.at _ _ _ c.in-Phrase.is c.in_ok-to.ensures in
    let e = ap numbers_of c.as_slice.ensures in
    let d = text_of c.args.start c.args.tokens.now.list (numbers_of c.as_slice.result.now) c.args.at p.0 p.3.0 e p.3.2 in
    (p.3.0, p.3.1, (p.0, p.1, run_of c.args.start c.args.tokens.now.list (numbers_of c.as_slice.result.now) c.args.at p.0 e p.2, d))

pub returns-in-Refused-clause-refused : goal.returns-in-Refused-clause-refused
returns-in-Refused-clause-refused g c =
    let p : IsParsed c.args.start (drop c.args.at (numbers_of c.as_slice.result.now)) c.args.at (Took g.S.Sink.became c.args.sink.now c.parse_kinds.new.sink) (Refused c.in-Refused.to) = parsed_as c.args.start _ c.args.at _ _ _ c.in-Refused.is c.in_ok-to.ensures in
    let e = ap numbers_of c.as_slice.ensures in
    refused_of c.args.start c.args.tokens.now.list c.args.at (length c.args.tokens.now.text) p.0 c.in-Refused.to c.refusal.result
    (c.refusal.ensures
    ∙ ap (λ text. fault.Diag (refused_at (length text) (drop c.in-Refused.to c.as_slice-in-Refused.result.now)) (refused_with (drop c.in-Refused.to c.as_slice-in-Refused.result.now))) c.text.ensures
    ∙ ap (λ ts. fault.Diag (refused_at (length c.args.tokens.now.text) (drop c.in-Refused.to ts)) (refused_with (drop c.in-Refused.to ts))) c.as_slice-in-Refused.ensures) p.1
    (run_of c.args.start c.args.tokens.now.list (numbers_of c.as_slice.result.now) c.args.at p.0 e p.2) (none_of c.args.start c.args.tokens.now.list (numbers_of c.as_slice.result.now) c.args.at p.0 e p.3)

pub returns-in-Refused-clause-inside : goal.returns-in-Refused-clause-inside
returns-in-Refused-clause-inside g c =
    inside_of c.args.tokens.now.list (length c.args.tokens.now.text) c.in-Refused.to (refused_with (drop c.in-Refused.to c.args.tokens.now.list)) c.refusal.result
    (c.refusal.ensures
    ∙ ap (λ text. fault.Diag (refused_at (length text) (drop c.in-Refused.to c.as_slice-in-Refused.result.now)) (refused_with (drop c.in-Refused.to c.as_slice-in-Refused.result.now))) c.text.ensures
    ∙ ap (λ ts. fault.Diag (refused_at (length c.args.tokens.now.text) (drop c.in-Refused.to ts)) (refused_with (drop c.in-Refused.to ts))) c.as_slice-in-Refused.ensures) c.are_of_their_text.ensures.order
