use Rattle.std.proofs.Common.{refl, sym, subst}
use Rattle.sp_code.specs.Programs.{plain_of}
use Rattle.sp_machine.specs.Plain.{plain}
use Rattle.sp_fiber.specs.declared.phase.Phase.TheVariants as phase_is
use Rattle.sp_fiber.specs.Fibers.{Suspended, StandsFor}
use Rattle.sp_fiber.proofs.Feeding.{suspended, closed_again}
use Rattle.sp_fiber.proofs.fiber.Fiber.end.Goals as goal

pub returns-in-Over-clause-closed : goal.returns-in-Over-clause-closed
returns-in-Over-clause-closed c = λ from s es stands.
    let f = c.self.inside in
    let p = plain_of f.limits f.program.now in
    let old = suspended p f.phase f.window (plain f.machine) f.received in
    let new = suspended p phase_is.Ended f.window (plain f.machine) f.received in
    let is = subst (λ (x : Suspended). StandsFor x from s es) (sym c.self.view_is) stands in
    closed_again old new from s es c.args.told.now.items c.in-Over.is is refl
