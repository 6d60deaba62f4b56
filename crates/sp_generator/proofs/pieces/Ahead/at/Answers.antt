use Rattle.std.proofs.Common.{◌≡◌, ◌≤◌, ◌<◌, ◌+◌, ◌-◌, ◌++◌, ap, ◌∙◌, arith, drop}
use Rattle.sp_generator.specs.Input.{rising, records, size_of}
use Rattle.sp_generator.proofs.Blocks.{at_block, past_record, within_record, at_record, no_record}
use Rattle.sp_generator.proofs.pieces.Ahead.at.Goals.{then-skipping-test+else-size_of-skipped, else-skipping-test, else-next-count-via-then-next-count+else-skipped-gt0, else-next-count-via-else-next-count}
use Rattle.sp_generator.proofs.pieces.Ahead.at.Goals as goal

pub skipping-init : goal.skipping-init
skipping-init c = at_block c.args.count c.args.place

pub skipping-preserved : goal.skipping-preserved
skipping-preserved c =
    let same : c.size_of-in-skipping.result ≡ size_of c.skipping.next = c.size_of-in-skipping.ensures.value in
    let small : size_of c.skipping.next < c.skipping.skipped = omega arith in
    ap (λ n. drop (c.skipping.skipped - (n + 1)) (records (c.skipping.next + 1) (c.args.count - (c.skipping.next + 1)))) same
    ∙ past_record c.skipping.next c.args.count c.skipping.skipped c.skipping-test.true small
    ∙ c.skipping.invariant

pub returns-then-skipped-gt0-clause-value : goal.returns-then-skipped-gt0-clause-value
returns-then-skipped-gt0-clause-value c =
    let same : c.size_of-then-skipped-gt0.result ≡ size_of c.skipping.next = c.size_of-then-skipped-gt0.ensures.value in
    let lt : c.skipping.next < c.args.count = c.if-next-count.true in
    let small : c.skipping.skipped ≤ size_of c.skipping.next =
    elim c.skipping-test.branch [
      | then-skipping-test+else-size_of-skipped w ↦ omega (arith, w.size_of.ensures.value, w.if-size_of-skipped.false)
      | else-skipping-test w ↦ absurd (omega (arith, w.skipping-test.false))
    ] in
    ap (λ n. rising (c.skipping.next + c.skipping.skipped - 1) (n + 1 - c.skipping.skipped) ++ records (c.skipping.next + 1) (c.args.count - (c.skipping.next + 1))) same
    ∙ within_record c.skipping.next c.args.count c.skipping.skipped lt c.if-skipped-gt0.true small
    ∙ c.skipping.invariant

pub returns-else-next-count-clause-value : goal.returns-else-next-count-clause-value
returns-else-next-count-clause-value c =
    elim c.else-next-count.branch [
      | else-next-count-via-then-next-count+else-skipped-gt0 w ↦
          at_record 0 c.skipping.next c.args.count c.skipping.skipped (omega (arith, w.if-skipped-gt0.false)) ∙ c.skipping.invariant
      | else-next-count-via-else-next-count w ↦
          no_record 0 c.skipping.next c.args.count c.skipping.skipped w.if-next-count.false ∙ c.skipping.invariant
    ]
