use Rattle.sp_value.proofs.PieceLists.{all_cloned, none_cloned}
use Rattle.sp_value.proofs.pieces.copy_of.Goals as goal

pub returns-clause-all : goal.returns-clause-all
returns-clause-all g c = all_cloned c.args.pieces.now.items c.in_ok-copy.copy.items c.in_ok-copy.ensures.cases.0

pub returns-clause-none_empty : goal.returns-clause-none_empty
returns-clause-none_empty g c n = none_cloned c.args.pieces.now.items c.in_ok-copy.copy.items c.in_ok-copy.ensures.cases.0 n
