use Rattle.std.proofs.Common.{◌+◌, length, refl, sym, subst}
use Rattle.sp_code.specs.Programs.{plain_of}
use Rattle.sp_machine.specs.Plain.{plain}
use Rattle.sp_fiber.specs.Fibers.{Suspended, StandsFor}
use Rattle.sp_fiber.proofs.Feeding.{suspended, fed_again}
use Rattle.sp_fiber.proofs.fiber.Fiber.feed.Goals as goal

pub returns-in-Over-clause-fed : goal.returns-in-Over-clause-fed
returns-in-Over-clause-fed c = λ from s es stands.
    let f = c.self.inside in
    let p = plain_of f.limits f.program.now in
    let piece = c.args.piece.now in
    let old = suspended p f.phase f.window (plain f.machine) f.received in
    let new = suspended p f.phase f.window (plain f.machine) (f.received + length piece) in
    let is = subst (λ (x : Suspended). StandsFor x from s es) (sym c.self.view_is) stands in
    fed_again old new from s piece es c.args.told.now.items c.in-Over.is is refl
