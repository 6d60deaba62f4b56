use Rattle.std.proofs.Common.{ℕ, Option, sym, ap, subst, ◌∙◌}
use Rattle.std.proofs.lemmas.Result.{on_ok_weaker}
use Rattle.sp_code_meaning.specs.Units.{value_slot}
use Rattle.sp_code.specs.Shapes.{push, read_kind}
use Rattle.sp_code_programs.specs.units.Units.{kept_code}
use Rattle.sp_emit.specs.Emitted.{Adds}
use Rattle.sp_lower_unit.proofs.Stored.{kept_added}
use Rattle.sp_lower_unit.proofs.members.keep.Goals as goal

pub returns-in_ok-push_read-in-Some : goal.returns-in_ok-push_read-in-Some
returns-in_ok-push_read-in-Some c =
    let out = c.args.out.now in
    let k = read_kind c.args.signed in
    let loaded = c.in_ok-emit-in-Some.ensures in
    let pushed = c.in_ok-push_read-in-Some.ensures in
    on_ok_weaker c.set_member.result
    (λ h. subst (λ (o : Option ℕ). Adds out c.set_member.new.out (kept_code c.args.unit out.now k (value_slot c.args.signed) o) out.now) (sym c.in-Some.is)
    (kept_added out _ _ _ c.args.unit c.in-Some.m _ c.args.signed c.value_slot.ensures loaded pushed h))
    (c.set_member.ensures out.now k (pushed.now ∙ ap (push k) loaded.now))
