use Rattle.std.proofs.Common.{◌+◌, ap, sym, ◌∙◌, arith, Some}
use Rattle.std.proofs.lemmas.List.{take_rest}
use Rattle.sp_batch.proofs.Cuts.{cut_at, cut_nowhere}
use Rattle.sp_batch.proofs.words.cut.Goals as goal

pub returns-in-Some-clause-front : goal.returns-in-Some-clause-front
returns-in-Some-clause-front c = sym (cut_at c.args.c c.args.s.now c.in-Some.at (c.in-Some.ensures.0).high c.in-Some.ensures.1 (λ j lower. (c.in-Some.ensures.0).before j (omega arith) lower)).0

pub returns-in-Some-clause-past : goal.returns-in-Some-clause-past
returns-in-Some-clause-past c =
    (cut_at c.args.c c.args.s.now c.in-Some.at (c.in-Some.ensures.0).high c.in-Some.ensures.1 (λ j lower. (c.in-Some.ensures.0).before j (omega arith) lower)).1
    ∙ ap Some (sym (take_rest c.args.s.now (c.in-Some.at + 1)))

pub returns-in-None-clause-front : goal.returns-in-None-clause-front
returns-in-None-clause-front c = sym (cut_nowhere c.args.c c.args.s.now (λ j lower. c.in-None.ensures j (omega arith) lower)).0

pub returns-in-None-clause-past : goal.returns-in-None-clause-past
returns-in-None-clause-past c = (cut_nowhere c.args.c c.args.s.now (λ j lower. c.in-None.ensures j (omega arith) lower)).1
