use Rattle.std.proofs.Common.{◌≡◌, ◌+◌, ◌-◌, ◌++◌, ◌∷◌, ap, sym, ◌∙◌, arith}
use Rattle.sp_generator.specs.Input.{rising, records}
use Rattle.sp_generator.proofs.Blocks.{next_rising, next_size, nothing_left}
use Rattle.sp_generator.proofs.pieces.Ahead.next.Goals as goal

pub returns-then-self-gt0-clause-value : goal.returns-then-self-gt0-clause-value
returns-then-self-gt0-clause-value c =
    next_rising c.args.self.now.value c.args.self.now.left (records c.args.self.now.next (c.args.self.now.end - c.args.self.now.next)) c.if-self-gt0.true

pub returns-then-self-clause-value : goal.returns-then-self-clause-value
returns-then-self-clause-value c =
    let none : c.args.self.now.left ≡ 0 = omega arith in
    ap (λ n. rising c.args.self.now.value n ++ records c.args.self.now.next (c.args.self.now.end - c.args.self.now.next)) none
    ∙ next_size c.args.self.now.value c.args.self.now.next c.args.self.now.end c.if-self.true
    ∙ ap (λ n. n ∷ (rising c.args.self.now.next n ++ records (c.args.self.now.next + 1) (c.args.self.now.end - (c.args.self.now.next + 1)))) (sym c.size_of-size.ensures.value)

pub returns-else-self-clause-value : goal.returns-else-self-clause-value
returns-else-self-clause-value c =
    let none : c.args.self.now.left ≡ 0 = omega arith in
    let over =
    ap (λ n. rising c.args.self.now.value n ++ records c.args.self.now.next (c.args.self.now.end - c.args.self.now.next)) none
    ∙ nothing_left c.args.self.now.value c.args.self.now.next c.args.self.now.end (omega arith) in
    (over, over)
