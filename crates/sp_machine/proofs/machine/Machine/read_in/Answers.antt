use Rattle.std.proofs.Common.{◌≡◌, ◌+◌, ◌-◌, ◌≤◌, length, take, drop, refl, sym, subst, ap, ◌∙◌, arith, length-take-le, length-drop}
use Rattle.std.proofs.lemmas.List.{take-take}
use Rattle.sp_value.specs.Integers.{integer_of}
use Rattle.sp_meaning_states.specs.States.{go}
use Rattle.sp_meaning_states.specs.Types.{width_bytes}
use Rattle.sp_code.specs.Machine.{At}
use Rattle.sp_machine.specs.Plain.{state_of}
use Rattle.sp_machine.specs.InPlace.{behind, with_slot}
use Rattle.sp_machine.proofs.InPlace.{read_put, slot_behind}
use Rattle.sp_machine.proofs.machine.Machine.read_in.Goals as goal

pub returns : goal.returns
returns c =
    let m = c.args.self.now in
    let w = c.args.window.now in
    let form = c.args.form in
    let slot = c.args.slot in
    let n = width_bytes form.width in
    let left = drop (m.place - w.base) w.bytes in
    let size = w.base + length w.bytes - m.place in
    let base = c.requires.base in
    let end = c.requires.end in
    let bytes = c.requires.bytes in
    let behind_place = length-drop (m.place - w.base) w.bytes in
    let within : size ≤ length left = omega (arith, base, end, bytes, behind_place) in
    let many : n ≤ size = omega (arith, base, end, bytes) in
    let wide : c.args.to - m.place ≡ n = omega (arith, end) in
    let read : c.part.result.now ≡ take n (take size left) =
    c.part.ensures ∙ c.view-view.ensures ∙ ap (λ k. take k left) wide ∙ sym (take-take n size left many) in
    let value : c.read_int-value.result ≡ integer_of form.little form.signed (take n (take size left)) =
    c.read_int-value.ensures ∙ ap (λ bs. integer_of form.little form.signed bs) read in
    let goes = c.go_to.ensures.goes ∙ ap (λ to. go to (state_of m)) end in
    read_put slot (m.pc + 1) n (take size left) _ _ _ _ _ _ (subst (λ k. n ≤ k) (sym (length-take-le size left within)) many) (
      refl,
      slot_behind slot (m.place + n) (state_of m) c.requires.there,
      c.store_in.ensures
          ∙ ap (λ q. At (behind slot (q.pc + 1)) q.operands q.stack (with_slot slot c.read_int-value.result (state_of c.go_to.new.self))) c.go_to.ensures.rest
          ∙ ap (λ st. At (behind slot (m.pc + 1)) m.operands m.stack (with_slot slot c.read_int-value.result st)) goes
          ∙ ap (λ v. At (behind slot (m.pc + 1)) m.operands m.stack (with_slot slot v (go (m.place + n) (state_of m)))) value,
    )
