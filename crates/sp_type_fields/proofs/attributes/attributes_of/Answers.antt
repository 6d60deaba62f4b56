use Rattle.sp_type_fields.proofs.Steps.{attributes_step}
use Rattle.sp_ast.specs.Trees.{trees}
use Rattle.sp_type_fields.specs.Attributes.{attributes}
use Rattle.sp_type_fields.proofs.attributes.attributes_of.Goals as goal

pub loop-attribute-preserved : goal.loop-attribute-preserved
loop-attribute-preserved g c =
    let around = g.C.Context.around c.args.context.now in
    let values = g.V.Constants.values c.args.constants.now in (
      tt,
      tt,
      attributes_step around values c.args.site.now c.loop-attribute.all.items c.push.new.self.items c.loop-attribute.attribute-iterator c.next.new.self c.in-Some.attribute c.view-view.result.name c.span-span.result c.view-view.result.value c.in_ok-typed.typed (attributes around values c.args.site.now (trees c.args.list.now)) c.in-Some.ensures.steps c.span-span.ensures c.view-view.ensures c.is_present.ensures c.in_ok-typed.ensures c.in_ok-push.ensures.items c.loop-attribute.invariant.2,
    )
