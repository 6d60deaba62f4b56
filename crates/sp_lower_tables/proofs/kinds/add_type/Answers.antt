use Rattle.sp_lower_tables.proofs.Numbered.{adds_one}
use Rattle.sp_lower_tables.proofs.kinds.add_type.Goals as goal

pub returns : goal.returns
returns c = adds_one c.args.out.now c.type_number.new.out c.args.numbers.now.items c.push.new.self.items _ c.in_ok-number.number c.in_ok-number.ensures c.in_ok-push.ensures.items
