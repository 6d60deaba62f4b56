use Rattle.std.proofs.Common.{reverse, take, ◌∷◌, []}
use Rattle.sp_parser.proofs.Phrases.{Going}
use Rattle.sp_parser.specs.declared.symbol.Symbol.TheVariants.{Nonterminal}
use Rattle.sp_parser.proofs.engine.parse.Given as goal

abbrev pub invariant-loop-i : goal.invariant-loop-i
invariant-loop-i g l = Going g.G.Grammar.table g.G.Grammar.certificate (Nonterminal l.nonterminal ∷ []) (take l.i (g.K.Kinds.kinds l.tokens)) l.i (reverse l.stack.items) g.S.Sink.became l.fn.sink l.sink
