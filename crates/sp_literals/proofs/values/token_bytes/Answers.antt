use Rattle.std.proofs.Common.{length, arith}
use Rattle.sp_lex.specs.Readings.{token_at}
use Rattle.sp_lex.specs.declared.kinds.TokenKind.TheVariants as token
use Rattle.sp_lex.proofs.Standing.{span_within}
use Rattle.sp_literals.proofs.Fits.{some_between}
use Rattle.sp_literals.proofs.values.token_bytes.Goals as goal

pub slice_bounds-result-count : goal.slice_bounds-result-count
slice_bounds-result-count c =
    rw c.as_slice.ensures (let span = span_within c.args.tokens.now.list 0 (length c.args.tokens.now.text) c.args.at (token_at token.Id 0 0) c.are_of_their_text.ensures.order c.requires in omega (arith, span.0))

pub slice_bounds-result-start : goal.slice_bounds-result-start
slice_bounds-result-start c =
    rw c.as_slice.ensures (let span = span_within c.args.tokens.now.list 0 (length c.args.tokens.now.text) c.args.at (token_at token.Id 0 0) c.are_of_their_text.ensures.order c.requires in omega (arith, span.0))

pub slice_bounds-result-end : goal.slice_bounds-result-end
slice_bounds-result-end c =
    rw (c.as_slice.ensures, c.text.ensures) (let span = span_within c.args.tokens.now.list 0 (length c.args.tokens.now.text) c.args.at (token_at token.Id 0 0) c.are_of_their_text.ensures.order c.requires in omega (arith, span.1))

pub returns-clause-some : goal.returns-clause-some
returns-clause-some c =
    rw (c.as_slice.ensures, c.text.ensures) (let span = span_within c.args.tokens.now.list 0 (length c.args.tokens.now.text) c.args.at (token_at token.Id 0 0) c.are_of_their_text.ensures.order c.requires in some_between c.args.tokens.now.text _ _ span.0 span.1)
