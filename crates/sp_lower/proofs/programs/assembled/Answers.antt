use Rattle.sp_lower.proofs.Assembled.{assembled_is}
use Rattle.sp_lower.proofs.programs.assembled.Goals as goal

pub returns : goal.returns
returns c = assembled_is c.args.code c.args.enums c.args.bitfields
