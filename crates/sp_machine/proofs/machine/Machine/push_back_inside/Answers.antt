use Rattle.std.specs.Prelude.{MatchOption}
use Rattle.std.proofs.Common.{◌≡◌, ◌+◌, ◌∷◌, take, drop, refl, ap, sym, ◌∙◌, subst}
use Rattle.std.proofs.lemmas.Result.{on_ok_weaker}
use Rattle.sp_base.specs.declared.kinds.PKind.TheVariants.{Index}
use Rattle.sp_words.specs.declared.methods.Method.TheVariants.{PushBack}
use Rattle.sp_value.specs.Val.{Val}
use Rattle.sp_value.specs.Changes.{with_last}
use Rattle.sp_methods.specs.Methods.{method}
use Rattle.sp_meaning_states.specs.States.{Failed, error_at}
use Rattle.sp_code.specs.Machine.{Ending, put_all}
use Rattle.sp_machine.specs.Plain.{state_of, plain}
use Rattle.sp_machine.specs.Inside.{IsOpened, IsShut, IsPutInside}
use Rattle.sp_machine.proofs.Nested.{put_behind}
use Rattle.sp_machine.proofs.machine.Machine.push_back_inside.Goals as goal

pub returns-in-Ok-or_drop-2 : goal.returns-in-Ok-or_drop-2
returns-in-Ok-or_drop-2 c =
    let m = c.args.self.now in
    let n = c.opened.new.self in
    let item = c.pop-item.result in
    let vector = c.pop-vector.result in
    let k = c.pop-key.result in
    let container = c.pop-container.result in
    let vs = c.pop-container.new.self in
    let ops = c.pop-item.ensures ∙ ap (λ l. item ∷ l) (c.pop-vector.ensures ∙ ap (λ l. vector ∷ l) (c.pop-key.ensures ∙ ap (λ l. k ∷ l) c.pop-container.ensures)) in
    let found = subst (λ f. MatchOption f ((plain n ≡ Ending (Failed (error_at Index (state_of m))) m.stack (state_of m)) × IsShut container k)
    (λ (emptied : Val). IsOpened container k c.args.slot (state_of m) (state_of n) emptied × (n ≡ record m { operands = vs; locals = n.locals; instances = n.instances }))) c.in-Some.is c.in-Ok-or_drop.ensures in
    on_ok_weaker c.put_open.result (λ h.
    subst (λ l. IsPutInside c.args.slot (m.pc + 1) (put_all (method PushBack (take 2 l)) (m.pc + 1) (drop 2 l) m.stack (state_of m)) (plain c.put_open.new.self)) (sym ops)
    (put_behind m n c.args.slot (with_last vector item) c.push_back.new.self k container (k ∷ container ∷ vs) vs c.in-Some.emptied (plain c.put_open.new.self)
    found.1 refl c.in-Ok-or_drop-2.ensures.ok found.0 h))
    c.put_open.ensures
