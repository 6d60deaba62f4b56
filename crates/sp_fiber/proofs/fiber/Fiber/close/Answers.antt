use Rattle.std.proofs.Common.{refl, sym, subst}
use Rattle.sp_code.specs.Programs.{plain_of}
use Rattle.sp_machine.specs.Plain.{plain}
use Rattle.sp_fiber.specs.declared.phase.Phase.TheVariants as phase_is
use Rattle.sp_fiber.specs.Fibers.{Suspended, WillRun, StandsFor}
use Rattle.sp_fiber.proofs.Feeding.{suspended, stands_hold, closed_by}
use Rattle.sp_fiber.proofs.fiber.Fiber.close.Goals as goal

pub returns-in-Ok-clause-closed : goal.returns-in-Ok-clause-closed
returns-in-Ok-clause-closed c = λ from s es stands.
    let f = c.self.inside in
    let p = plain_of f.limits f.program.now in
    let old = suspended p f.phase f.window (plain f.machine) f.received in
    let new = suspended p phase_is.Ended c.finish.new.window (plain c.finish.new.machine) f.received in
    let runs = subst (λ (x : Suspended). WillRun x.phase) (sym c.self.view_is) c.requires.runs in
    let is = subst (λ (x : Suspended). StandsFor x from s es) (sym c.self.view_is) stands in
    closed_by old new from s es c.args.told.now.items c.finish.new.told.items runs is (c.in-Ok.ensures.moved s (stands_hold old from s es runs is)) refl refl
