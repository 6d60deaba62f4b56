use Rattle.sp_batch.proofs.Texts.{place_header}
use Rattle.sp_batch.proofs.reading.read_header.Goals as goal

pub returns-in-Some-clause-header : goal.returns-in-Some-clause-header
returns-in-Some-clause-header c = place_header c.args.bytes.now c.in-Some.rest.now c.in-Some.ensures
