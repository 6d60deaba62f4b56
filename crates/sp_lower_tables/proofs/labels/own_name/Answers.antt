use Rattle.std.proofs.Common.{Some, None}
use Rattle.sp_lower_tables.proofs.Told.{own_is}
use Rattle.sp_lower_tables.proofs.labels.own_name.Goals as goal

pub returns-in-Some : goal.returns-in-Some
returns-in-Some c = own_is c.args.path.now (Some (c.in-Some.field-0-0, c.in-Some.name)) c.in-Some.ensures.cases

pub returns-in-None : goal.returns-in-None
returns-in-None c = own_is c.args.path.now None c.in-None.ensures.cases
