use Rattle.std.proofs.Common.{[], ◌∷◌}
use Rattle.sp_match.proofs.Steps.{is_byte_part}
use Rattle.sp_match.proofs.compile.byte_part.Goals as goal

pub returns : goal.returns
returns c = is_byte_part c.in_ok-class.class.items c.args.byte (c.args.then ∷ []) c.in_ok-entry.entry.items c.args.net.now.items c.leaf.new.net.items c.in_ok-class.ensures c.in_ok-entry.ensures
