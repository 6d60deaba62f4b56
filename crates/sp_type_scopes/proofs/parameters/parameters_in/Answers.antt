use Rattle.sp_ast.specs.Trees.{trees, span_of}
use Rattle.sp_type_scopes.specs.Parameters.{parameters_in}
use Rattle.sp_type_scopes.proofs.Rows.{one_parameter}
use Rattle.sp_type_scopes.proofs.parameters.parameters_in.Goals as goal

pub loop-parameter-preserved : goal.loop-parameter-preserved
loop-parameter-preserved g c =
    let around = g.C.Context.around c.args.context.now in (
      tt,
      tt,
      one_parameter around c.loop-parameter.parameter-iterator c.next.new.self c.in-Some.parameter (span_of c.in-Some.parameter) c.view-view.result c.in_ok-parameter_of.field-0 c.loop-parameter.all.items c.push.new.self.items (parameters_in around (trees c.args.list)) c.in-Some.ensures.steps c.view-view.ensures c.in_ok-parameter_of.ensures c.in_ok-push.ensures.items c.loop-parameter.invariant.2,
    )
