use Rattle.std.proofs.Common.{sym, subst}
use Rattle.sp_base.specs.Input.{held_open, ended}
use Rattle.sp_code.specs.Machine.{step}
use Rattle.sp_code.specs.Programs.{plain_of}
use Rattle.sp_machine.specs.Plain.{plain}
use Rattle.sp_fiber.specs.Moves.{whole_reads}
use Rattle.sp_fiber.specs.Fibers.{Suspended, IsLive, StandsFor, EndedFor}
use Rattle.sp_fiber.specs.Standing.{IsStand}
use Rattle.sp_fiber.proofs.Feeding.{stands_ended}
use Rattle.sp_fiber.proofs.fiber.Fiber.stand.Goals as goal

pub returns-in-Over-clause-live : goal.returns-in-Over-clause-live
returns-in-Over-clause-live c = λ from s es stands run.
    let f = c.self.inside in
    let p = plain_of f.limits f.program.now in
    let is = subst (λ (x : Suspended). StandsFor x from s es) (sym c.self.view_is) stands in
    let live = subst (λ x. IsLive x p f.window from (plain f.machine) s es) c.in-Over.is is.live in
    subst (λ (x : Suspended). IsStand c.stand_of.result (step x.code (whole_reads s held_open) x.at)) c.self.view_is
    (stands_ended p held_open f.window f.machine s c.stand_of.result live.1 c.stand_of.ensures)

pub returns-in-Ended-clause-ended : goal.returns-in-Ended-clause-ended
returns-in-Ended-clause-ended c = λ from s es stands.
    let f = c.self.inside in
    let p = plain_of f.limits f.program.now in
    let is = subst (λ (x : Suspended). EndedFor x from s es) (sym c.self.view_is) stands in
    subst (λ (x : Suspended). IsStand c.stand_of-in-Ended.result (step x.code (whole_reads s ended) x.at)) c.self.view_is
    (stands_ended p ended f.window f.machine s c.stand_of-in-Ended.result is.over c.stand_of-in-Ended.ensures)
