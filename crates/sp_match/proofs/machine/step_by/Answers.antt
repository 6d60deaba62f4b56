use Rattle.std.proofs.Common.{◌≡◌, refl, arith, sym, subst, ◌∙◌, get_or}
use lib.Bits.{bit_and}
use Rattle.sp_match.specs.Bits.{holds, LeadsWithin}
use Rattle.sp_match.proofs.Stepping.{step_begins, step_turn, step_done, number_is, both_words}
use Rattle.sp_match.proofs.machine.step_by.Goals as goal

pub loop-i-init : goal.loop-i-init
loop-i-init c = record {
  turn = λ fits. step_begins (holds c.args.live.now.items) (holds c.args.readers.now.items) c.args.nexts.now.items (holds c.clear.new.set.items) c.clear.ensures.none;
  len = refl;
}

pub loop-i-preserved : goal.loop-i-preserved
loop-i-preserved c =
    let one : get_or c.args.live.now.items c.loop-i.i 0 ≡ c.index.result.now = number_is c.args.live.now.items c.loop-i.i c.index.result.now (omega arith) c.index.ensures in
    record {
      turn = λ fits. step_turn c.args.live.now.items c.args.readers.now.items c.args.nexts.now.items c.loop-i.i (bit_and c.index.result.now c.word_of.result) (holds c.loop-i.next.items) (holds c.step_word.new.next.items) (let h = c.type_inv.live c.loop-i.i in omega (arith, h)) (both_words c.index.result.now c.word_of.result (get_or c.args.live.now.items c.loop-i.i 0) (get_or c.args.readers.now.items c.loop-i.i 0) (sym one) c.word_of.ensures) (c.step_word.ensures.step (subst (LeadsWithin c.args.nexts.now.items) (sym c.loop-i.invariant.len) fits)) (c.loop-i.invariant.turn fits);
      len = c.step_word.ensures.len ∙ c.loop-i.invariant.len;
    }

pub returns-clause-step : goal.returns-clause-step
returns-clause-step c = λ fits. step_done c.args.live.now.items c.args.readers.now.items c.args.nexts.now.items c.loop-i.i (holds c.loop-i.next.items) (omega arith) (c.loop-i.invariant.turn (subst (LeadsWithin c.args.nexts.now.items) (sym c.clear.ensures.len) fits))
