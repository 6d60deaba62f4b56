use Rattle.std.proofs.Common.{◌≡◌, ◌≤◌, ◌⊎◌, ◌∙◌, inl, inr, length, ap, arith}
use Rattle.sp_lex.proofs.Least.{too_large_least, not_text_least, text_right}
use Rattle.sp_lex.specs.Faults.{most_bytes, looked_at, first_bad, byte_span}
use Rattle.sp_lex.proofs.lexer.text_fault.Goals as goal
use Rattle.sp_lex.proofs.lexer.text_fault.Goals.{else-bad-gt0-via-then-bad-gt0+else-source-gt-MOST_BYTES, else-bad-gt0-via-else-bad-gt0}

pub returns-then-source-gt-MOST_BYTES-clause-least : goal.returns-then-source-gt-MOST_BYTES-clause-least
returns-then-source-gt-MOST_BYTES-clause-least c =
    let bad = c.first_bad-bad.ensures.value ∙ ap first_bad c.requires.seen in
    too_large_least c.args.source.now c.span_of.result c.span_of.ensures (omega (arith, bad, c.if-bad-gt0.true))

pub returns-then-bad-seen-clause-least : goal.returns-then-bad-seen-clause-least
returns-then-bad-seen-clause-least c =
    let bad = c.first_bad-bad.ensures.value ∙ ap first_bad c.requires.seen in
    let first : (first_bad (looked_at c.args.source.now) ≡ 0) ⊎ (length c.args.source.now ≤ most_bytes) =
    elim c.else-bad-gt0.branch [ else-bad-gt0-via-then-bad-gt0+else-source-gt-MOST_BYTES w ↦ inr w.if-source-gt-MOST_BYTES.false | else-bad-gt0-via-else-bad-gt0 w ↦ inl (omega (arith, bad, w.if-bad-gt0.false)) ] in
    not_text_least c.args.source.now c.span_of-then-bad-seen.result (c.span_of-then-bad-seen.ensures ∙ ap byte_span bad) first

pub returns-else-bad-seen-clause-right : goal.returns-else-bad-seen-clause-right
returns-else-bad-seen-clause-right c =
    let bad = c.first_bad-bad.ensures.value ∙ ap first_bad c.requires.seen in
    let first : (first_bad (looked_at c.args.source.now) ≡ 0) ⊎ (length c.args.source.now ≤ most_bytes) =
    elim c.else-bad-gt0.branch [ else-bad-gt0-via-then-bad-gt0+else-source-gt-MOST_BYTES w ↦ inr w.if-source-gt-MOST_BYTES.false | else-bad-gt0-via-else-bad-gt0 w ↦ inl (omega (arith, bad, w.if-bad-gt0.false)) ] in
    text_right c.args.source.now (omega (arith, bad, ap length c.requires.seen, c.if-bad-seen.false)) first
