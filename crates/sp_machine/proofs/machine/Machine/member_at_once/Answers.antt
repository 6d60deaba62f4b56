use Rattle.std.proofs.Common.{◌≡◌, ◌+◌, [], ◌∷◌, Some, sym, ap, subst}
use Rattle.sp_value.specs.Val.{unit}
use Rattle.sp_code.specs.declared.instr.Instr.TheVariants.{GetField}
use Rattle.sp_code.specs.Machine.{At, Goes, act, step}
use Rattle.sp_code.specs.Programs.{plain_of}
use Rattle.sp_machine.specs.declared.machine.Stop.TheVariants.{GoesOn}
use Rattle.sp_machine.specs.Plain.{state_of, plain, plain_in, reads_of}
use Rattle.sp_machine.specs.Safe.{IsSafe}
use Rattle.sp_machine.specs.Ran.{Advanced}
use Rattle.sp_machine.proofs.Safety.{safe_can}
use Rattle.sp_machine.proofs.Running.{safe_on, advanced_alone, further_on}
use Rattle.sp_machine.proofs.machine.Machine.member_at_once.Goals as goal

pub get_own-requires-clause-there : goal.get_own-requires-clause-there
get_own-requires-clause-there c =
    let m = c.args.self.now in
    let p = plain_of c.args.limits.now c.args.p.now in
    let w = c.args.window.now in
    let reads = reads_of w c.args.is_ended in
    let before = At m.pc m.operands m.stack (state_of m) in
    let mid = At (m.pc + 1) (unit m.own ∷ m.operands) m.stack (state_of m) in
    let safe = subst (λ mode. IsSafe p w (plain_in mode m)) c.requires.running c.requires.safe in
    let one : step p reads before ≡ Goes [] mid = ap (λ o. act p reads o m.pc m.operands m.stack (state_of m)) c.requires.instr in
    let safe_there = safe_on p w c.args.is_ended before mid [] safe one in
    (safe_can p w (m.pc + 1) (unit m.own ∷ m.operands) m.stack (state_of m) (GetField c.in-Some.m) safe_there c.in-Some.ensures.0).1

pub returns-in_ok-get_own-in-Some-clause-did : goal.returns-in_ok-get_own-in-Some-clause-did
returns-in_ok-get_own-in-Some-clause-did c = λ did told.
    let m = c.args.self.now in
    let p = plain_of c.args.limits.now c.args.p.now in
    let w = c.args.window.now in
    let reads = reads_of w c.args.is_ended in
    let before = At m.pc m.operands m.stack (state_of m) in
    let mid = At (m.pc + 1) (unit m.own ∷ m.operands) m.stack (state_of m) in
    let safe = subst (λ mode. IsSafe p w (plain_in mode m)) c.requires.running c.requires.safe in
    let one : step p reads before ≡ Goes [] mid = ap (λ o. act p reads o m.pc m.operands m.stack (state_of m)) c.requires.instr in
    let safe_there = safe_on p w c.args.is_ended before mid [] safe one in
    let after = plain c.get_own.new.self in
    let two : step p reads mid ≡ act p reads (Some (GetField c.in-Some.m)) (m.pc + 1) (unit m.own ∷ m.operands) m.stack (state_of m) =
    ap (λ o. act p reads o (m.pc + 1) (unit m.own ∷ m.operands) m.stack (state_of m)) c.in-Some.ensures.0 in
    subst (λ mode. Advanced p reads w told told (plain_in mode m) after GoesOn) (sym c.requires.running)
    (further_on p w c.args.is_ended c.requires.turns told before mid after safe one
    (advanced_alone p w c.args.is_ended c.requires.turns told mid after (act p reads (Some (GetField c.in-Some.m)) (m.pc + 1) (unit m.own ∷ m.operands) m.stack (state_of m)) safe_there two c.in_ok-get_own-in-Some.ensures))
