use Rattle.std.proofs.Common.{[], reverse, ap, ◌∙◌}
use Rattle.sp_code.specs.Machine.{At}
use Rattle.sp_machine.specs.Plain.{first, plain}
use Rattle.sp_fiber.proofs.Starting.{fresh_is}
use Rattle.sp_fiber.proofs.fiber.Fiber.start.Goals as goal

pub invariant_of-result : goal.invariant_of-result
invariant_of-result c =
    fresh_is c.args.program.now c.args.limits c.args.at (reverse c.args.arguments) c.new-window.result (plain c.start-machine.result) c.requires.sound c.requires.shaped c.new-window.ensures
    (c.start-machine.ensures ∙ ap (λ l. At c.args.at (reverse l) [] first) c.into_vec-operands.ensures)
