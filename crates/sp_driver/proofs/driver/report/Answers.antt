use Rattle.std.proofs.Common.{Err, ap, refl, inl, inr, ◌∙◌}
use Rattle.sp_driver.specs.Driver.{message_of}
use Rattle.sp_command.proofs.PartPuts.{part_of}
use Rattle.sp_driver.proofs.driver.report.Goals as goal

pub returns-in-Err-Failed : goal.returns-in-Err-Failed
returns-in-Err-Failed g c =
    let e = c.in-Err-Failed.ensures in
    inr (inl (refl, part_of (g.E.Out.held c.args.err.now) (g.E.Out.held c.put_all.new.out) e.part.0 c.as_slice.result.now (message_of c.args.exit.now) (c.as_slice.ensures ∙ c.in-Ok.ensures) e.part.2, e.failed.0 (ap Err c.in-Err-Failed.field-0-is)))

pub returns : goal.returns
returns g c =
    let e = c.in-Err-NoMemory.ensures in
    inr (inr (refl, part_of (g.E.Out.held c.args.err.now) (g.E.Out.held c.put_all.new.out) e.part.0 c.as_slice.result.now (message_of c.args.exit.now) (c.as_slice.ensures ∙ c.in-Ok.ensures) e.part.2, rw c.in-Err-NoMemory.field-0-is at e.cause))
