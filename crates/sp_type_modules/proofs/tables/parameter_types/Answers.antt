use Rattle.std.proofs.Common.{◌∙◌}
use Rattle.sp_solver.specs.Told.{told}
use Rattle.sp_type_modules.specs.Heads.{parameter_types}
use Rattle.sp_type_modules.proofs.Steps.{one_parameter, all_parameters}
use Rattle.sp_type_modules.proofs.tables.parameter_types.Goals as goal

pub loop-parameter-preserved : goal.loop-parameter-preserved
loop-parameter-preserved c =
    let list = c.args.names.now in
    let f = told c.args.known.now in
    let m = c.args.owner in (
      tt,
      tt,
      one_parameter list f m c.in-Some.parameter c.next.new.self c.loop-parameter.parameter-iterator c.loop-parameter.types.items c.push.new.self.items c.in_ok-parameter_type.field-0 c.in-Some.ensures.steps c.in_ok-push.ensures.items
          c.in_ok-parameter_type.ensures
          ∙ c.loop-parameter.invariant.2,
    )

pub returns : goal.returns
returns c =
    let list = c.args.names.now in
    let f = told c.args.known.now in
    let m = c.args.owner in
    all_parameters list f m c.loop-parameter.parameter-iterator c.loop-parameter.types.items (parameter_types list f m c.args.parameters) c.in-None.ensures.steps.0 c.loop-parameter.invariant.2
