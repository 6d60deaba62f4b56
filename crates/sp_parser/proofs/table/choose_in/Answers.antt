use Rattle.std.proofs.Common.{arith}
use Rattle.std.proofs.lemmas.Bool.{and_parts}
use Rattle.sp_parser.specs.Rows.{spans_fit, rows_fit}
use Rattle.sp_parser.proofs.Choices.{span_fits, range_fits}
use Rattle.sp_parser.proofs.table.choose_in.Goals as goal

pub slice_bounds-choose-count : goal.slice_bounds-choose-count
slice_bounds-choose-count c = (span_fits c.args.rows.now c.args.spans.now c.args.nonterminal _ (and_parts (spans_fit c.args.rows.now c.args.spans.now) (rows_fit c.args.symbols.now c.args.rows.now) c.requires.fit).0 c.requires.nonterminal).0

pub slice_bounds-choose-start : goal.slice_bounds-choose-start
slice_bounds-choose-start c = let h = span_fits c.args.rows.now c.args.spans.now c.args.nonterminal (record { from = 0; to = 0 }) (and_parts (spans_fit c.args.rows.now c.args.spans.now) (rows_fit c.args.symbols.now c.args.rows.now) c.requires.fit).0 c.requires.nonterminal in omega (arith, h.0, h.1)

pub slice_bounds-choose-end : goal.slice_bounds-choose-end
slice_bounds-choose-end c = let h = span_fits c.args.rows.now c.args.spans.now c.args.nonterminal (record { from = 0; to = 0 }) (and_parts (spans_fit c.args.rows.now c.args.spans.now) (rows_fit c.args.symbols.now c.args.rows.now) c.requires.fit).0 c.requires.nonterminal in omega (arith, h.0, h.1)

pub choose-requires-clause-fit : goal.choose-requires-clause-fit
choose-requires-clause-fit c = range_fits c.args.symbols.now c.args.rows.now _ _ (and_parts (spans_fit c.args.rows.now c.args.spans.now) (rows_fit c.args.symbols.now c.args.rows.now) c.requires.fit).1
