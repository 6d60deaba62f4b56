use Rattle.std.proofs.Common.{◌∙◌, sym}
use Rattle.sp_lex.proofs.Firsts.{word_step, word_goes_on}
use Rattle.sp_lex.proofs.signs.word_among.Goals as goal
use Rattle.sp_lex.proofs.signs.word_among.Goals.{else-first-firsts-via-then-first-firsts+else-is_spelled, else-first-firsts-via-else-first-firsts}

pub loop-n-preserved : goal.loop-n-preserved
loop-n-preserved c = elim c.else-first-firsts.branch [
  | else-first-firsts-via-then-first-firsts+else-is_spelled w ↦ word_step c.args.word.now c.args.kinds.now c.loop-n.n _ c.loop-n-test.true (sym w.is_spelled.ensures ∙ w.if-is_spelled.false) ∙ c.loop-n.invariant
  | else-first-firsts-via-else-first-firsts w ↦ word_goes_on c.args.word.now c.args.firsts.now c.args.kinds.now c.loop-n.n c.first_byte-first.result _ c.requires c.first_byte-first.ensures c.loop-n-test.true w.if-first-firsts.false c.loop-n.invariant
]
