use Rattle.std.specs.Prelude.{MatchOption}
use Rattle.std.proofs.Common.{◌≡◌, ◌∷◌, ap, ◌∙◌, subst}
use Rattle.std.proofs.lemmas.Result.{on_ok_weaker}
use Rattle.sp_base.specs.declared.kinds.PKind.TheVariants.{Index}
use Rattle.sp_value.specs.Val.{Val}
use Rattle.sp_meaning_states.specs.States.{Failed, error_at}
use Rattle.sp_code.specs.Machine.{Ending}
use Rattle.sp_machine.specs.Plain.{state_of, plain}
use Rattle.sp_machine.specs.Inside.{IsOpened, IsShut}
use Rattle.sp_machine.proofs.Nested.{put_placed}
use Rattle.sp_machine.proofs.machine.Machine.set_index_inside.Goals as goal

pub returns-in-Ok-or_drop-all : goal.returns-in-Ok-or_drop-all
returns-in-Ok-or_drop-all c =
    let m = c.args.self.now in
    let n = c.opened.new.self in
    let x = c.pop-x.result in
    let place = c.pop-place.result in
    let inner = c.pop-inner.result in
    let k = c.pop-key.result in
    let container = c.pop-container.result in
    let vs = c.pop-container.new.self in
    let ops = c.pop-x.ensures ∙ ap (λ l. x ∷ l) (c.pop-place.ensures ∙ ap (λ l. place ∷ l) (c.pop-inner.ensures ∙ ap (λ l. inner ∷ l)
    (c.pop-key.ensures ∙ ap (λ l. k ∷ l) c.pop-container.ensures))) in
    let found = subst (λ f. MatchOption f ((plain n ≡ Ending (Failed (error_at Index (state_of m))) m.stack (state_of m)) × IsShut container k)
    (λ (emptied : Val). IsOpened container k c.args.slot (state_of m) (state_of n) emptied × (n ≡ record m { operands = vs; locals = n.locals; instances = n.instances }))) c.in-Some.is c.in-Ok-or_drop.ensures in
    on_ok_weaker c.put_open.result
    (put_placed m n c.args.slot inner place x _ k container m.operands vs c.in-Some.emptied (plain c.put_open.new.self) found.1 ops (c.in-Ok-or_drop-all.ensures c.in_default.not-Past) found.0)
    c.put_open.ensures
