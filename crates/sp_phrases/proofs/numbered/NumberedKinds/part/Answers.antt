use Rattle.std.proofs.Common.{◌-◌, sym, ◌∙◌, ap, take}
use Rattle.std.proofs.lemmas.List.{take-map, drop-map}
use Rattle.sp_phrases.specs.Kinds.{token_number}
use Rattle.sp_phrases.proofs.numbered.NumberedKinds.part.Goals as goal

pub returns : goal.returns
returns c = sym (ap (λ ks. take (c.args.to - c.args.from) ks) (drop-map token_number c.args.from c.args.self.now.tokens.now) ∙ take-map token_number (c.args.to - c.args.from) _)
