use Rattle.std.proofs.Common.{rules, ◌≡◌, ◌∙◌, ◌==◌, ◌+◌, ◌≤◌, ◌<◌, length, arith, false, get_or, Some, sym, ap, drop, length-drop}
use Rattle.std.proofs.lemmas.List.{take_rest}
use Rattle.sp_lex.specs.Literals.{closing, char_len}
use Rattle.sp_lex.proofs.Skips.{literal_end-next}
use Rattle.sp_lex.proofs.literals.literal_len.Goals as goal

pub loop-at-preserved : goal.loop-at-preserved
loop-at-preserved c =
    let n = c.in_ok-at.field-0 in
    let at = c.loop-at.at in
    let text = c.args.text.now in
    let rest = take_rest text at in
    let long = c.in_ok-at.ensures.within in
    let positive : 0 < n = long.0 in
    let inside : at + n ≤ length text = omega (arith, long.1, ap length rest, length-drop at text, c.loop-at-test.true) in
    let goes : (get_or text at 0 == closing c.args.form) ≡ false = search (rules, c.if-text-at.false) in
    let some : char_len c.args.form (drop at text) ≡ Some n = ap (λ r. char_len c.args.form r) (sym rest) ∙ sym c.in_ok-at.ensures.value in
    record {
      after_opening = omega (arith, c.loop-at.invariant.after_opening);
      within = inside;
      same = c.loop-at.invariant.same ∙ literal_end-next c.args.form at text n c.loop-at-test.true goes some positive inside;
    }
