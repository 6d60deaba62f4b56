use Rattle.std.proofs.Common.{sym, ◌∙◌, arith}
use Rattle.sp_session.proofs.Lawful.{unit_is_there, starter_stands, starters_fit}
use Rattle.sp_session.proofs.Stands.{shaped_at, started_at}
use Rattle.sp_session.proofs.session.Session.start.Goals as goal

pub starter_address-requires-clause-unit : goal.starter_address-requires-clause-unit
starter_address-requires-clause-unit c =
    let there = unit_is_there c.args.list.now c.args.program.now c.args.limits c.args.unit c.requires in
    omega (arith, there)

pub starter_address-requires-clause-code : goal.starter_address-requires-clause-code
starter_address-requires-clause-code c = starters_fit c.args.list.now c.args.program.now c.args.limits c.args.unit c.requires

pub start-fiber-requires-clause-shaped : goal.start-fiber-requires-clause-shaped
start-fiber-requires-clause-shaped c =
    shaped_at c.args.list.now c.args.program.now c.args.limits c.args.unit c.in_ok-at.at c.new-2.result c.requires
    (c.in_ok-at.ensures ∙ sym (starter_stands c.args.list.now c.args.program.now c.args.limits c.args.unit c.requires)) (c.new-2.ensures ∙ c.new.ensures.items)

pub returns-clause-stands : goal.returns-clause-stands
returns-clause-stands c =
    started_at c.args.list.now c.args.program.now c.args.limits c.args.unit c.start-fiber.result c.in_ok-at.at c.new-2.result c.requires
    (c.in_ok-at.ensures ∙ sym (starter_stands c.args.list.now c.args.program.now c.args.limits c.args.unit c.requires)) (c.new-2.ensures ∙ c.new.ensures.items)
    c.start-fiber.ensures.stands c.start-fiber.ensures.fresh c.start-fiber.ensures.code
