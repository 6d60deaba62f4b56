use Rattle.std.proofs.Common.{refl, arith, subst, sym, ◌∙◌}
use Rattle.sp_match.specs.Bits.{holds, LeadsWithin}
use Rattle.sp_match.proofs.Stepping.{word_begins, word_turn, word_done}
use Rattle.sp_match.proofs.machine.step_word.Goals as goal

pub loop-rest-init : goal.loop-rest-init
loop-rest-init c = record {
  turn = λ fits. word_begins c.args.nexts.now.items c.args.word c.args.spots (holds c.args.next.now.items);
  small = omega arith;
  len = refl;
}

pub loop-rest-preserved : goal.loop-rest-preserved
loop-rest-preserved c = record {
  turn = λ fits. word_turn c.args.nexts.now.items c.args.word c.args.spots c.loop-rest.rest c.lowest-bit.result c.without-rest.result (holds c.args.next.now.items) (holds c.loop-rest.next.items) (holds c.step_spot.new.next.items) (let h = c.ranges.spots.fits in omega (arith, h)) (let h = c.without-rest.ensures.less in let k = c.loop-rest.invariant.small in let r = c.ranges.spots.fits in omega (arith, h, k, r)) c.lowest-bit.ensures.set c.without-rest.ensures.cleared c.without-rest.ensures.others (c.step_spot.ensures.spots (subst (LeadsWithin c.args.nexts.now.items) (sym c.loop-rest.invariant.len) fits)) (c.loop-rest.invariant.turn fits);
  small = (let h = c.without-rest.ensures.less in let k = c.loop-rest.invariant.small in omega (arith, h, k));
  len = c.step_spot.ensures.len ∙ c.loop-rest.invariant.len;
}

pub returns-clause-step : goal.returns-clause-step
returns-clause-step c = λ fits. word_done c.args.nexts.now.items c.args.word c.args.spots c.loop-rest.rest (holds c.args.next.now.items) (holds c.loop-rest.next.items) (let h = c.loop-rest-test.false in omega (arith, h)) (c.loop-rest.invariant.turn fits)
