use Rattle.std.proofs.Common.{reverse}
use Rattle.sp_parser.specs.declared.symbol.Step.TheVariants.{Whole, Half, Emptied}
use Rattle.sp_parser.specs.Grammar.{SECOND}
use Rattle.sp_parser.proofs.Phrases.{told_at, takes_halves, takes_emptied, takes_half_no}
use Rattle.sp_parser.proofs.engine.take_token.Goals as goal

pub returns-in-Whole-matches : goal.returns-in-Whole-matches
returns-in-Whole-matches g c = record {
  taken =
      takes_halves g.G.Grammar.table g.G.Grammar.certificate c.args.at (reverse c.args.stack.now.items) c.args.kind (reverse c.step.new.stack.items) (reverse c.step-in-Half.new.stack.items) g.S.Sink.became c.args.sink.now c.step.new.sink c.step-in-Half.new.sink
      (told_at g.G.Grammar.table g.G.Grammar.certificate c.in_ok-step.field-0 Half c.args.at (reverse c.args.stack.now.items) c.args.kind (reverse c.step.new.stack.items) g.S.Sink.became c.args.sink.now c.step.new.sink c.in-Half.is c.in_ok-step.ensures.told)
      (told_at g.G.Grammar.table g.G.Grammar.certificate c.in_ok-step-in-Half.field-0 Whole c.args.at (reverse c.step.new.stack.items) SECOND (reverse c.step-in-Half.new.stack.items) g.S.Sink.became c.step.new.sink c.step-in-Half.new.sink c.in-Whole-matches.is c.in_ok-step-in-Half.ensures.told)
      c.in_ok-step-in-Half.ensures.ready;
}

pub returns-in_default : goal.returns-in_default
returns-in_default g c = record {
  taken =
      takes_half_no g.G.Grammar.table g.G.Grammar.certificate c.in_ok-step-in-Half.field-0 c.args.at (reverse c.args.stack.now.items) c.args.kind (reverse c.step.new.stack.items) (reverse c.step-in-Half.new.stack.items) (reverse c.step-in-Half.new.stack.items) g.S.Sink.became c.args.sink.now c.step.new.sink c.step-in-Half.new.sink
      c.in_default.not-Whole
      (told_at g.G.Grammar.table g.G.Grammar.certificate c.in_ok-step.field-0 Half c.args.at (reverse c.args.stack.now.items) c.args.kind (reverse c.step.new.stack.items) g.S.Sink.became c.args.sink.now c.step.new.sink c.in-Half.is c.in_ok-step.ensures.told)
      c.in_ok-step-in-Half.ensures.told;
}

pub returns-in-Emptied : goal.returns-in-Emptied
returns-in-Emptied g c = record {
  taken =
      takes_emptied g.G.Grammar.table g.G.Grammar.certificate c.args.at (reverse c.args.stack.now.items) c.args.kind (reverse c.step.new.stack.items) g.S.Sink.became c.args.sink.now c.step.new.sink
      (told_at g.G.Grammar.table g.G.Grammar.certificate c.in_ok-step.field-0 Emptied c.args.at (reverse c.args.stack.now.items) c.args.kind (reverse c.step.new.stack.items) g.S.Sink.became c.args.sink.now c.step.new.sink c.in-Emptied.is c.in_ok-step.ensures.told);
}
