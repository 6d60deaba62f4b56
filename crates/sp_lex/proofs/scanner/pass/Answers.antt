use Rattle.std.proofs.Common.{rules}
use Rattle.sp_lex.specs.Faults.{IsOwnFault}
use Rattle.sp_lex.proofs.OwnFaults.{own_fault_least}
use Rattle.sp_lex.proofs.scanner.pass.Goals as goal

pub returns-in-Some-clause-least : goal.returns-in-Some-clause-least
returns-in-Some-clause-least c =
    let own : IsOwnFault c.args.token.kind c.args.bytes.now c.in-Some.kind = search (rules, c.in_ok-kind.ensures, c.in-Some.is) in
    λ k fault. own_fault_least c.args.bytes.now c.args.nesting.now c.args.token c.in-Some.kind k own fault
