use Rattle.std.proofs.Common.{◌≡◌, [], ◌∷◌, ◌++◌, length, length-append, ap, arith}
use Rattle.sp_code.specs.declared.instr.Instr.TheVariants.{Const}
use Rattle.sp_emit.proofs.Steps.{same_within, constant_added, step_within, constants_within}
use Rattle.sp_emit.proofs.emitter.Emitter.constant.Goals as goal

pub invariant_of-self : goal.invariant_of-self
invariant_of-self c =
    let e = c.self.inside in
    same_within e.kinds e.consts.items e.steps.items e.here c.row.new.self c.row.ensures.same c.self.invariant

pub invariant_of-self-in_err-push : goal.invariant_of-self-in_err-push
invariant_of-self-in_err-push c =
    let e = c.self.inside in
    rw c.in_err-push.ensures.items (same_within e.kinds e.consts.items e.steps.items e.here c.row.new.self c.row.ensures.same c.self.invariant)

pub invariant_of-self-in_err-push-2 : goal.invariant_of-self-in_err-push-2
invariant_of-self-in_err-push-2 c =
    let e = c.self.inside in
    rw (c.in_err-push-2.ensures.items, c.in_ok-push.ensures.items)
    (constants_within e.kinds e.consts.items _ e.steps.items c.row.new.self (same_within e.kinds e.consts.items e.steps.items e.here c.row.new.self c.row.ensures.same c.self.invariant))

pub invariant_of-self-2 : goal.invariant_of-self-2
invariant_of-self-2 c =
    let e = c.self.inside in
    let last : c.in_ok-number.field-0 ≡ length e.consts.items = omega arith in
    rw (c.in_ok-push-2.ensures.items, c.in_ok-push.ensures.items)
    (step_within e.kinds (e.consts.items ++ c.args.value ∷ []) e.steps.items e.here c.row.new.self _ c.row.ensures.same c.in_ok-before.ensures.row
    (omega (arith, last, length-append e.consts.items (c.args.value ∷ []))) (constants_within e.kinds e.consts.items _ e.steps.items e.here c.self.invariant))

pub returns : goal.returns
returns c =
    let e = c.self.inside in
    let last : c.in_ok-number.field-0 ≡ length e.consts.items = omega arith in
    rw (c.in_ok-push-2.ensures.items, c.in_ok-push.ensures.items, ← c.self.view_is)
    (constant_added e.kinds e.consts.items e.steps.items e.here c.row.new.self _ _ c.row.ensures.same c.in_ok-before.ensures.row (ap Const last) c.self.invariant)
