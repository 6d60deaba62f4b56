use Rattle.std.proofs.Common.{◌∙◌}
use Rattle.sp_operators.proofs.Parts.{has_part_from_find}
use Rattle.sp_operators.proofs.contains.has_part.Goals as goal

pub returns : goal.returns
returns c = c.is_some.ensures ∙ has_part_from_find c.args.whole.now c.args.part.now c.find.result c.find.ensures
