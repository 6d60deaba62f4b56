use Rattle.sp_parser.proofs.Tested.{certified_by_test}
use Rattle.std.proofs.Common.{reverse, length, ◌<◌, arith}
use Rattle.sp_parser.proofs.Phrases.{kind_at, going_init, going_next, stopped, finished, unfinished}
use Rattle.sp_parser.proofs.engine.parse.Goals as goal

pub loop-i-init : goal.loop-i-init
loop-i-init g c = going_init g.G.Grammar.table g.G.Grammar.certificate c.args.nonterminal c.push.new.self.items c.new-stack.result.items g.S.Sink.became c.args.sink.now c.requires.nonterminal c.requires.end c.in_ok-push.ensures.items c.new-stack.ensures.items

pub take_token-requires-clause-kind : goal.take_token-requires-clause-kind
take_token-requires-clause-kind g c =
    let h : c.loop-i.i < length (g.K.Kinds.kinds c.args.tokens.now) = omega (arith, c.loop-i-test.true, c.count-count.ensures) in
    kind_at (g.K.Kinds.kinds c.args.tokens.now) c.loop-i.i c.kind.result (g.met.K.Kinds.are_kinds c.args.tokens.now) h c.kind.ensures

pub loop-i-preserved : goal.loop-i-preserved
loop-i-preserved g c =
    let h : c.loop-i.i < length (g.K.Kinds.kinds c.args.tokens.now) = omega (arith, c.loop-i-test.true, c.count-count.ensures) in
    going_next g.G.Grammar.table g.G.Grammar.certificate _ (g.K.Kinds.kinds c.args.tokens.now) c.loop-i.i c.kind.result (reverse c.loop-i.stack.items) (reverse c.take_token.new.stack.items) g.S.Sink.became c.args.sink.now c.loop-i.sink c.take_token.new.sink c.in_ok-take_token.field-0 c.if-not-branch.false h c.kind.ensures c.loop-i.invariant c.in_ok-take_token.ensures.taken

pub returns-then-not-branch : goal.returns-then-not-branch
returns-then-not-branch g c =
    let h : c.loop-i.i < length (g.K.Kinds.kinds c.args.tokens.now) = omega (arith, c.loop-i-test.true, c.count-count.ensures) in
    stopped g.G.Grammar.table g.G.Grammar.certificate (certified_by_test g.G.Grammar.table g.G.Grammar.certificate g.met.G.Grammar.tested) c.args.nonterminal (g.K.Kinds.kinds c.args.tokens.now) c.loop-i.i c.kind.result (reverse c.loop-i.stack.items) (reverse c.take_token.new.stack.items) g.S.Sink.became c.args.sink.now c.loop-i.sink c.take_token.new.sink c.in_ok-take_token.field-0 c.if-not-branch.true h c.kind.ensures c.loop-i.invariant c.in_ok-take_token.ensures.taken

pub returns-in-Emptied : goal.returns-in-Emptied
returns-in-Emptied g c =
    finished g.G.Grammar.table g.G.Grammar.certificate (certified_by_test g.G.Grammar.table g.G.Grammar.certificate g.met.G.Grammar.tested) c.in_ok-step.field-0 c.args.nonterminal (g.K.Kinds.kinds c.args.tokens.now) c.loop-i.i c.count-count.result (reverse c.loop-i.stack.items) (reverse c.step.new.stack.items) g.S.Sink.became c.args.sink.now c.loop-i.sink c.step.new.sink c.requires.nonterminal c.requires.end (omega arith) c.count-count.ensures c.in-Emptied.is c.loop-i.invariant c.in_ok-step.ensures.told

pub returns : goal.returns
returns g c =
    unfinished g.G.Grammar.table g.G.Grammar.certificate (certified_by_test g.G.Grammar.table g.G.Grammar.certificate g.met.G.Grammar.tested) c.in_ok-step.field-0 c.args.nonterminal (g.K.Kinds.kinds c.args.tokens.now) c.loop-i.i c.count-count.result (reverse c.loop-i.stack.items) (reverse c.step.new.stack.items) g.S.Sink.became c.args.sink.now c.loop-i.sink c.step.new.sink (omega arith) c.count-count.ensures c.in_default.not-Emptied c.loop-i.invariant c.in_ok-step.ensures.told
