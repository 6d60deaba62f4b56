use Rattle.std.proofs.Common.{ap, ◌∙◌, ◌++◌}
use Rattle.sp_window.specs.Windows.{trimmed}
use Rattle.sp_code.specs.Programs.{plain_of}
use Rattle.sp_machine.specs.declared.machine.Stop.TheVariants as stop_is
use Rattle.sp_machine.specs.Plain.{plain, reads_of}
use Rattle.sp_fiber.proofs.Whole.{ran_by, moved_over, moved_waits, safe_waits, never_waits}
use Rattle.sp_fiber.proofs.running.run_on.Goals as goal

pub returns-in-Over-clause-moved : goal.returns-in-Over-clause-moved
returns-in-Over-clause-moved c = λ s holds.
    let p = plain_of c.args.limits.now c.args.p.now in
    let w = c.args.window.now in
    let e = c.args.is_ended in
    let before = plain c.args.machine.now in
    let m = c.run.new.self in
    let ran = ran_by p (reads_of w e) w c.room_of-events.result.items c.run.new.told.items before (plain m) c.in_ok-stop.stop stop_is.Over c.room_of-events.ensures.empty c.in-Over.is c.in_ok-stop.ensures in
    moved_over p w e s holds.within holds.bytes c.args.told.now.items c.append_all.new.told.items c.run.new.told.items before m c.trim.new.self holds.from ran (c.in_ok-append_all.ensures.ok ∙ ap (λ es. es ++ c.run.new.told.items) c.room_of-events.ensures.told)
    (c.trim.ensures ∙ ap (λ n. trimmed n w) c.end-end.ensures.exact)

pub returns-in-Need-clause-moved : goal.returns-in-Need-clause-moved
returns-in-Need-clause-moved c = λ s holds.
    let p = plain_of c.args.limits.now c.args.p.now in
    let w = c.args.window.now in
    let e = c.args.is_ended in
    let before = plain c.args.machine.now in
    let m = c.run.new.self in
    let ran = ran_by p (reads_of w e) w c.room_of-events.result.items c.run.new.told.items before (plain m) c.in_ok-stop.stop stop_is.Need c.room_of-events.ensures.empty c.in-Need.is c.in_ok-stop.ensures in
    moved_waits p w e s holds.within holds.bytes c.args.told.now.items c.append_all.new.told.items c.run.new.told.items before m c.trim_to_low.new.window holds.from ran (c.in_ok-append_all.ensures.ok ∙ ap (λ es. es ++ c.run.new.told.items) c.room_of-events.ensures.told) c.trim_to_low.ensures.cut

pub returns-in-Need-clause-safe : goal.returns-in-Need-clause-safe
returns-in-Need-clause-safe c =
    let p = plain_of c.args.limits.now c.args.p.now in
    let w = c.args.window.now in
    let e = c.args.is_ended in
    let before = plain c.args.machine.now in
    let m = c.run.new.self in
    let ran = ran_by p (reads_of w e) w c.room_of-events.result.items c.run.new.told.items before (plain m) c.in_ok-stop.stop stop_is.Need c.room_of-events.ensures.empty c.in-Need.is c.in_ok-stop.ensures in
    safe_waits p w e c.run.new.told.items before m c.trim_to_low.new.window ran c.trim_to_low.ensures.cut

pub returns-in-Need-clause-decides : goal.returns-in-Need-clause-decides
returns-in-Need-clause-decides c = λ ends.
    let p = plain_of c.args.limits.now c.args.p.now in
    let w = c.args.window.now in
    let e = c.args.is_ended in
    let before = plain c.args.machine.now in
    let m = c.run.new.self in
    let ran = ran_by p (reads_of w e) w c.room_of-events.result.items c.run.new.told.items before (plain m) c.in_ok-stop.stop stop_is.Need c.room_of-events.ensures.empty c.in-Need.is c.in_ok-stop.ensures in
    absurd (never_waits p w e c.run.new.told.items before m ends ran)
