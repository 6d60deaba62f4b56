use Rattle.std.proofs.Common.{refl}
use Rattle.sp_driver.proofs.Puts.{part_some}
use Rattle.sp_driver.proofs.pieces.put_text.Goals as goal

pub returns-in-Err-Failed-clause-part : goal.returns-in-Err-Failed-clause-part
returns-in-Err-Failed-clause-part g c =
    let part = c.in-Err-Failed.ensures.part in
    part_some part.0 (g.O.Out.held c.args.out.now) (g.O.Out.held c.put_all.new.out) c.args.text.now c.args.text.now refl part.2

pub returns-in-Err-NoMemory-clause-part : goal.returns-in-Err-NoMemory-clause-part
returns-in-Err-NoMemory-clause-part g c =
    let part = c.in-Err-NoMemory.ensures.part in
    part_some part.0 (g.O.Out.held c.args.out.now) (g.O.Out.held c.put_all.new.out) c.args.text.now c.args.text.now refl part.2
