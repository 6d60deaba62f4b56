use Rattle.std.proofs.Common.{refl, ap, sym, ◌∙◌, arith}
use Rattle.sp_batch.specs.Answers.{reading_of}
use Rattle.sp_batch.proofs.Texts.{place_found, place_bad}
use Rattle.sp_batch.proofs.reading.read_record.Goals as goal

pub overflow_sub-result : goal.overflow_sub-result
overflow_sub-result c =
    (place_found c.args.bytes.now c.args.at c.in-Found.record c.in-Found.rest.now c.requires (ap reading_of (sym c.in-Found.is) ∙ c.in_ok-record.ensures)).0

pub returns-in-Found-clause-next : goal.returns-in-Found-clause-next
returns-in-Found-clause-next c =
    let p = place_found c.args.bytes.now c.args.at c.in-Found.record c.in-Found.rest.now c.requires (ap reading_of (sym c.in-Found.is) ∙ c.in_ok-record.ensures) in
    (p.1, omega arith)

pub returns-in-Found-clause-record : goal.returns-in-Found-clause-record
returns-in-Found-clause-record c =
    (place_found c.args.bytes.now c.args.at c.in-Found.record c.in-Found.rest.now c.requires (ap reading_of (sym c.in-Found.is) ∙ c.in_ok-record.ensures)).2

pub returns-in-Bad-clause-fault : goal.returns-in-Bad-clause-fault
returns-in-Bad-clause-fault c =
    (refl, place_bad c.args.bytes.now c.args.at c.in-Bad.kind (sym c.is_empty.ensures ∙ c.if-is_empty.false) (ap reading_of (sym c.in-Bad.is) ∙ c.in_ok-record.ensures))
