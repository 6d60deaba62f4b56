use Rattle.std.proofs.Common.{reverse}
use Rattle.sp_parser.specs.Certificate.{steps_of}
use Rattle.sp_parser.proofs.Steps.{Moved}
use Rattle.sp_parser.proofs.engine.step.Given as goal

abbrev pub invariant-loop-top : goal.invariant-loop-top
invariant-loop-top g l = Moved g.G.Grammar.table g.G.Grammar.certificate l.at (reverse l.fn.stack.items) l.kind (reverse l.stack.items) g.S.Sink.became l.fn.sink l.sink

abbrev pub decreases-loop-top : goal.decreases-loop-top
decreases-loop-top g l = steps_of g.G.Grammar.certificate 0 (reverse l.stack.items)
