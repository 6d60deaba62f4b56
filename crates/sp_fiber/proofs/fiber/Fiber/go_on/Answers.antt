use Rattle.std.proofs.Common.{◌+◌, ◌++◌, length, refl, sym, subst}
use Rattle.sp_base.specs.Input.{held_open}
use Rattle.sp_code.specs.Programs.{plain_of}
use Rattle.sp_machine.specs.Plain.{plain}
use Rattle.sp_fiber.specs.declared.phase.Phase.TheVariants as phase_is
use Rattle.sp_fiber.specs.Moves.{Moved}
use Rattle.sp_fiber.specs.Fibers.{Suspended, WillRun, StandsFor}
use Rattle.sp_fiber.proofs.Feeding.{suspended, stands_hold, fed_over, fed_waits}
use Rattle.sp_fiber.proofs.fiber.Fiber.go_on.Goals as goal

pub returns-in-Ok-true-clause-fed : goal.returns-in-Ok-true-clause-fed
returns-in-Ok-true-clause-fed c = λ from s es stands.
    let f = c.self.inside in
    let p = plain_of f.limits f.program.now in
    let piece = c.args.piece.now in
    let old = suspended p f.phase f.window (plain f.machine) f.received in
    let new = suspended p phase_is.Over c.advance.new.window (plain c.advance.new.machine) (f.received + length piece) in
    let runs = subst (λ (x : Suspended). WillRun x.phase) (sym c.self.view_is) c.requires.runs in
    let is = subst (λ (x : Suspended). StandsFor x from s es) (sym c.self.view_is) stands in
    let moved = c.in-Ok-true.ensures.moved s (stands_hold old from s es runs is) in
    let over = subst (λ o. Moved p held_open (s ++ piece) c.args.told.now.items c.advance.new.told.items (plain f.machine) (plain c.advance.new.machine) c.advance.new.window o) c.in-Ok-true.field-0-test moved in
    fed_over old new from s piece es c.args.told.now.items c.advance.new.told.items runs is over refl refl refl

pub returns-in-Ok-false-clause-fed : goal.returns-in-Ok-false-clause-fed
returns-in-Ok-false-clause-fed c = λ from s es stands.
    let f = c.self.inside in
    let p = plain_of f.limits f.program.now in
    let piece = c.args.piece.now in
    let old = suspended p f.phase f.window (plain f.machine) f.received in
    let new = suspended p phase_is.Waiting c.advance.new.window (plain c.advance.new.machine) (f.received + length piece) in
    let runs = subst (λ (x : Suspended). WillRun x.phase) (sym c.self.view_is) c.requires.runs in
    let is = subst (λ (x : Suspended). StandsFor x from s es) (sym c.self.view_is) stands in
    let moved = c.in-Ok-false.ensures.moved s (stands_hold old from s es runs is) in
    let waits = subst (λ o. Moved p held_open (s ++ piece) c.args.told.now.items c.advance.new.told.items (plain f.machine) (plain c.advance.new.machine) c.advance.new.window o) c.in-Ok-false.field-0-test moved in
    fed_waits old new from s piece es c.args.told.now.items c.advance.new.told.items runs is waits refl refl refl
