use Rattle.std.proofs.Common.{◌≡◌, ◌<◌, ◌≤◌, Some, length, ap, sym, ◌∙◌, subst}
use Rattle.std.specs.Prelude.{IfOk, get_or, slice_get}
use Rattle.sp_code.specs.Can.{Can}
use Rattle.sp_code.specs.Machine.{act, step}
use Rattle.sp_code.specs.Programs.{plain_of}
use Rattle.sp_machine.specs.declared.machine.Machine.{Machine}
use Rattle.sp_machine.specs.declared.machine.Mode.TheVariants.{Running}
use Rattle.sp_machine.specs.Plain.{state_of, plain, plain_in, reads_of, Does}
use Rattle.sp_machine.specs.Ran.{Advanced}
use Rattle.sp_machine.specs.Safe.{IsSafe}
use Rattle.sp_machine.proofs.Running.{advanced_ok}
use Rattle.sp_machine.proofs.Safety.{safe_can, never_past, looked_up, past_all}
use Rattle.sp_machine.proofs.machine.Machine.go.Goals as goal

pub act-requires-clause-can : goal.act-requires-clause-can
act-requires-clause-can c =
    let m = c.args.self.now in
    let p = plain_of c.args.limits.now c.args.p.now in
    let code = c.args.p.now.code.items in
    let same : c.at_once.new.self ≡ m = c.in_ok-at_once-in-Some.ensures.not c.if-branch.false in
    subst (λ (m : Machine). Can p (Some c.in-Some.instr.now) m.operands (state_of m)) (sym same)
    (safe_can p c.args.window.now m.pc m.operands m.stack (state_of m) c.in-Some.instr.now
    (subst (λ mode. IsSafe p c.args.window.now (plain_in mode m)) c.requires.running c.requires.safe)
    (looked_up code m.pc c.in-Some.instr.now (subst (λ l. m.pc < length l) c.deref.ensures.value c.in-Some.ensures.lookup.3.0) (c.in-Some.ensures.lookup.1 ∙ ap (λ l. get_or l m.pc c.in-Some.instr.now) c.deref.ensures.value)))

pub returns-then-branch : goal.returns-then-branch
returns-then-branch c = c.in_ok-at_once-in-Some.ensures.did c.if-branch.true c.args.told.now.items

pub unreachable-requires : goal.unreachable-requires
unreachable-requires c =
    let m = c.args.self.now in
    let p = plain_of c.args.limits.now c.args.p.now in
    never_past p c.args.window.now m.pc m.operands m.stack (state_of m)
    (subst (λ mode. IsSafe p c.args.window.now (plain_in mode m)) c.requires.running c.requires.safe)
    (past_all c.args.p.now.code.items m.pc (subst (λ l. length l ≤ m.pc) c.deref.ensures.value c.in-None.ensures.lookup.3))

pub returns : goal.returns
returns c =
    let m = c.args.self.now in
    let p = plain_of c.args.limits.now c.args.p.now in
    let w = c.args.window.now in
    let reads = reads_of w c.args.is_ended in
    let old = c.args.told.now.items in
    let new = c.act.new.told.items in
    let there = plain c.act.new.self in
    let code = c.args.p.now.code.items in
    let instr = c.in-Some.instr.now in
    let n = c.at_once.new.self in
    let same : n ≡ m = c.in_ok-at_once-in-Some.ensures.not c.if-branch.false in
    let looked : slice_get code m.pc ≡ Some instr = looked_up code m.pc instr (subst (λ l. m.pc < length l) c.deref.ensures.value c.in-Some.ensures.lookup.3.0) (c.in-Some.ensures.lookup.1 ∙ ap (λ l. get_or l m.pc instr) c.deref.ensures.value) in
    let found : slice_get code n.pc ≡ Some instr = subst (λ (m : Machine). slice_get code m.pc ≡ Some instr) (sym same) looked in
    let running : n.mode ≡ Running = subst (λ (m : Machine). m.mode ≡ Running) (sym same) c.requires.running in
    let safe : IsSafe p w (plain n) = subst (λ (m : Machine). IsSafe p w (plain m)) (sym same) c.requires.safe in
    subst (λ (m : Machine). IfOk c.act.result (Advanced p reads w old new (plain m) there)) same
    (advanced_ok p w c.args.is_ended c.act.result c.requires.turns old new (plain n) there safe
    (subst (λ mode. IfOk c.act.result (λ r. Does r old new (plain n) there (step p reads (plain_in mode n)))) (sym running)
    (subst (λ o. IfOk c.act.result (λ r. Does r old new (plain n) there (act p reads o n.pc n.operands n.stack (state_of n)))) (sym found) c.act.ensures)))
