use Rattle.std.proofs.Common.{sym, ◌∙◌, arith}
use Rattle.sp_parser.proofs.Choices.{found_at, row_fits}
use Rattle.std.proofs.lemmas.Nat.Bits.{shr_and_one}
use Rattle.sp_parser.proofs.table.choose.Goals as goal

pub slice_bounds-result-count : goal.slice_bounds-result-count
slice_bounds-result-count c = (row_fits c.args.symbols.now c.args.rows.now c.loop-row.row-index _ c.requires.fit c.loop-row-test.true).0

pub slice_bounds-result-start : goal.slice_bounds-result-start
slice_bounds-result-start c = let h = row_fits c.args.symbols.now c.args.rows.now c.loop-row.row-index (record { select = 0; avoid = 0; from = 0; to = 0 }) c.requires.fit c.loop-row-test.true in omega (arith, h.0, h.1)

pub slice_bounds-result-end : goal.slice_bounds-result-end
slice_bounds-result-end c = let h = row_fits c.args.symbols.now c.args.rows.now c.loop-row.row-index (record { select = 0; avoid = 0; from = 0; to = 0 }) c.requires.fit c.loop-row-test.true in omega (arith, h.0, h.1)

pub returns-then-row-kind-eq1-clause-some : goal.returns-then-row-kind-eq1-clause-some
returns-then-row-kind-eq1-clause-some c = let t = c.if-row-kind-eq1.true in found_at c.args.symbols.now c.args.rows.now c.loop-row.row-index c.args.kind _ c.loop-row-test.true c.loop-row.invariant (sym (shr_and_one _ c.args.kind) ∙ t)
