use Rattle.std.proofs.Common.{length, ◌∙◌, sym, ap, arith}
use Rattle.sp_emit.proofs.Ranges.{some_ranges, no_ranges}
use Rattle.sp_emit.proofs.types.range_count.Goals as goal

pub returns-then-k-bitfields : goal.returns-then-k-bitfields
returns-then-k-bitfields c =
    let here = c.index-bitfields-k.is in
    ap length c.as_slice.ensures ∙ ap (λ b. length b.ranges) (sym here) ∙ some_ranges c.args.bitfields.now c.args.k c.index-bitfields-k.result c.if-k-bitfields.true here

pub returns-else-k-bitfields : goal.returns-else-k-bitfields
returns-else-k-bitfields c = sym (no_ranges c.args.bitfields.now c.args.k (omega arith))
