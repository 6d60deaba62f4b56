use Rattle.std.proofs.Common.{sym, subst}
use Rattle.std.specs.Prelude.{IsTrue}
use Rattle.sp_operators.specs.Operands.{takes, takes_memory}
use Rattle.sp_operators.specs.Operators.{binary}
use Rattle.sp_operators.specs.Outcomes.{Answers}
use Rattle.sp_code.specs.Can.{top, second}
use Rattle.sp_machine.proofs.Pairs.{below, on_top}
use Rattle.sp_machine.proofs.machine.Machine.operated.Goals as goal

pub of_two-requires : goal.of_two-requires
of_two-requires c =
    let vs = c.args.self.now.operands in
    let two = c.on_top-two.result.now in
    subst (λ x. IsTrue (takes c.args.op x c.index-two-1.result)) (sym (below vs two c.index-two-0.result c.on_top-two.ensures c.requires.operands c.index-two-0.is))
    (subst (λ y. IsTrue (takes c.args.op (second vs) y)) (sym (on_top vs two c.index-two-1.result c.on_top-two.ensures c.requires.operands c.index-two-1.is)) c.requires.taken)

pub returns : goal.returns
returns c =
    let vs = c.args.self.now.operands in
    let two = c.on_top-two.result.now in
    subst (λ x. Answers (takes_memory c.args.op x (top vs)) (binary c.args.op x (top vs)) c.of_two.result) (below vs two c.index-two-0.result c.on_top-two.ensures c.requires.operands c.index-two-0.is)
    (subst (λ y. Answers (takes_memory c.args.op c.index-two-0.result y) (binary c.args.op c.index-two-0.result y) c.of_two.result) (on_top vs two c.index-two-1.result c.on_top-two.ensures c.requires.operands c.index-two-1.is) c.of_two.ensures)
