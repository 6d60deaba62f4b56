use Rattle.sp_lower_tables.proofs.Numbered.{gives}
use Rattle.sp_lower_tables.proofs.kinds.row_number.Goals as goal

pub returns : goal.returns
returns c = gives c.args.out.now c.row.new.self _ c.row.result c.row.ensures.same c.row.ensures.number
