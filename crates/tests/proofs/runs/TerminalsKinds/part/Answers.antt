use Rattle.std.proofs.Common.{◌-◌, sym, ◌∙◌, ap, take}
use Rattle.std.proofs.lemmas.List.{take-map, drop-map}
use Rattle.sp_grammar.specs.Terminals.{terminal_number}
use Rattle.tests.proofs.runs.TerminalsKinds.part.Goals as goal

pub returns : goal.returns
returns c = sym (ap (λ ks. take (c.args.to - c.args.from) ks) (drop-map terminal_number c.args.from c.args.self.now.list.now) ∙ take-map terminal_number (c.args.to - c.args.from) _)
