use Rattle.sp_parser.proofs.Tested.{certified_by_test}
use Rattle.sp_parser.proofs.Steps.{at_top, moved_action, after_predict, less_after, popped, told_token, told_refused}
use Rattle.std.proofs.Common.{◌∷◌, reverse, ap, ◌∙◌}
use Rattle.sp_parser.proofs.engine.step.Goals as goal

pub returns-in-Terminal-clause-told : goal.returns-in-Terminal-clause-told
returns-in-Terminal-clause-told g c =
    told_token g.G.Grammar.table g.G.Grammar.certificate c.taken.result c.args.at (reverse c.args.stack.now.items) c.args.kind c.in-Terminal.expected (reverse c.pop.new.self.items) g.S.Sink.became c.args.sink.now c.loop-top.sink
    c.taken.ensures (at_top c.loop-top.stack.items c.pop.new.self.items c.in-Some.top _ c.in-Some.ensures.items c.in-Terminal.is c.loop-top.invariant)

pub loop-top-preserved-in-Continue-1 : goal.loop-top-preserved-in-Continue-1
loop-top-preserved-in-Continue-1 g c =
    moved_action g.G.Grammar.table g.G.Grammar.certificate c.args.at (reverse c.args.stack.now.items) c.args.kind c.in-Action.action (reverse c.pop.new.self.items) g.S.Sink.became c.args.sink.now c.loop-top.sink c.pass.new.self
    c.in_ok-pass-in-Action.ensures (at_top c.loop-top.stack.items c.pop.new.self.items c.in-Some.top _ c.in-Some.ensures.items c.in-Action.is c.loop-top.invariant)

pub returns-in_default-predict-clause-told : goal.returns-in_default-predict-clause-told
returns-in_default-predict-clause-told g c =
    told_refused g.G.Grammar.table g.G.Grammar.certificate (certified_by_test g.G.Grammar.table g.G.Grammar.certificate g.met.G.Grammar.tested) c.args.at (reverse c.args.stack.now.items) c.args.kind c.in-Nonterminal.nonterminal (reverse c.pop.new.self.items) (reverse c.pop.new.self.items) g.S.Sink.became c.args.sink.now c.loop-top.sink
    c.in_default-predict.ensures.none (at_top c.loop-top.stack.items c.pop.new.self.items c.in-Some.top _ c.in-Some.ensures.items c.in-Nonterminal.is c.loop-top.invariant)

pub loop-top-preserved : goal.loop-top-preserved
loop-top-preserved g c =
    after_predict (certified_by_test g.G.Grammar.table g.G.Grammar.certificate g.met.G.Grammar.tested) c.in-Some-predict.symbols.now (reverse c.push_all.new.stack.items) c.in-Some-predict.ensures.some.0 c.in-Some-predict.ensures.some.1 c.in_ok-push_all-in-Nonterminal.ensures
    (at_top c.loop-top.stack.items c.pop.new.self.items c.in-Some.top _ c.in-Some.ensures.items c.in-Nonterminal.is c.loop-top.invariant)

pub loop-top-smaller : goal.loop-top-smaller
loop-top-smaller g c =
    less_after g.G.Grammar.table g.G.Grammar.certificate (certified_by_test g.G.Grammar.table g.G.Grammar.certificate g.met.G.Grammar.tested) c.in-Nonterminal.nonterminal c.args.kind (reverse c.pop.new.self.items) c.in-Some-predict.symbols.now (reverse c.push_all.new.stack.items) (reverse c.loop-top.stack.items) c.in-Some-predict.ensures.some.0 c.in-Some-predict.ensures.some.1 c.in_ok-push_all-in-Nonterminal.ensures
    (popped c.loop-top.stack.items c.pop.new.self.items c.in-Some.top c.in-Some.ensures.items ∙ ap (λ z. z ∷ reverse c.pop.new.self.items) c.in-Nonterminal.is)
