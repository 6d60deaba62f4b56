use Rattle.std.specs.Prelude.{MatchOption}
use Rattle.std.proofs.Common.{◌≡◌, ◌∷◌, ap, sym, ◌∙◌, subst}
use Rattle.std.proofs.lemmas.Result.{on_ok_weaker}
use Rattle.sp_base.specs.declared.kinds.PKind.TheVariants.{Index}
use Rattle.sp_value.specs.Val.{Val}
use Rattle.sp_value.specs.Changes.{without_key}
use Rattle.sp_meaning_states.specs.States.{Failed, error_at}
use Rattle.sp_code.specs.Can.{top, second, below_top}
use Rattle.sp_code.specs.Machine.{Ending}
use Rattle.sp_machine.specs.Plain.{state_of, plain}
use Rattle.sp_machine.specs.Inside.{IsOpened, IsShut}
use Rattle.sp_machine.proofs.Nested.{put_behind}
use Rattle.sp_machine.proofs.machine.Machine.delete_key_inside.Goals as goal

pub returns-in-Ok-or_drop-2 : goal.returns-in-Ok-or_drop-2
returns-in-Ok-or_drop-2 c =
    let m = c.args.self.now in
    let n = c.opened.new.self in
    let member = c.pop-member.result in
    let keyed = c.pop-keyed.result in
    let k = c.pop-key.result in
    let container = c.pop-container.result in
    let vs = c.pop-container.new.self in
    let ops = c.pop-member.ensures ∙ ap (λ l. member ∷ l) (c.pop-keyed.ensures ∙ ap (λ l. keyed ∷ l) (c.pop-key.ensures ∙ ap (λ l. k ∷ l) c.pop-container.ensures)) in
    let found = subst (λ f. MatchOption f ((plain n ≡ Ending (Failed (error_at Index (state_of m))) m.stack (state_of m)) × IsShut container k)
    (λ (emptied : Val). IsOpened container k c.args.slot (state_of m) (state_of n) emptied × (n ≡ record m { operands = vs; locals = n.locals; instances = n.instances }))) c.in-Some.is c.in-Ok-or_drop.ensures in
    on_ok_weaker c.put_open.result
    (put_behind m n c.args.slot (without_key (second m.operands) (top m.operands)) c.delete-deleted.new.self k container (below_top (below_top m.operands)) vs c.in-Some.emptied (plain c.put_open.new.self)
    found.1 (ap (λ l. below_top (below_top l)) ops) (c.in-Ok-or_drop-2.ensures.ok ∙ ap (λ l. without_key (second l) (top l)) (sym ops)) found.0)
    c.put_open.ensures
